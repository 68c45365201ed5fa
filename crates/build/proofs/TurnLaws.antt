-- Laws that follow the code of `grow_class`: the definition one step at a time, and the loop over the children.
-- Assumes nothing.
use Prim.Native.Nat.{ℕ, zero, suc, ◌+◌, ◌-◌, ◌≤◌, ◌<◌}
use mathlib.Core.Path.{◌≡◌, refl, sym, ap, subst, ◌∙◌}
use mathlib.Core.List.{List, [], ◌∷◌, ◌++◌, map}
use Prim.{Dec, yes, no}
use native.Mathlib.Decide.{ℕ_discrete}
use native.Mathlib.Numerals.{add-one}
use native.Mathlib.Omega.{arith}
use lib.ListN.{length, get_or, set, take, drop, length-set}
use lib.Seq.{take-suc-set, get_or-set_same, get_or-set_other}
use lib.IntN.{ℤ}
use borrow.Author.Tests.{lt-ltb, le-ltb}
use Rattle.term_rules.specs.Lent.{Store}
use Rattle.term_rules.specs.Nodes.{literal}
use Rattle.term_rules.specs.Adding.{add}
use Rattle.build.specs.Plan.{Child, class, value, Plan, child_of}
use Rattle.build.specs.Building.{State, Out, done, full, added, child_in, children_in, own_in, build_in}
use Rattle.build.specs.Standing.{Tracks}
use Rattle.build.specs.Ready.{seen, Ranked, Exact}
use Rattle.std.specs.Prelude.{Option}
use Rattle.build.proofs.BuildingLaws.{Right, build-right, child-right}
use Rattle.build.proofs.PlanLaws.{children-next, children-end}

module _ (g : State → ℕ → Out ℕ) (s : State) where
  pub child_in-class : (c : ℕ) → child_in g s (class c) ≡ g s c
  unfolding child_in
  child_in-class c = refl

  pub child_in-value : (z : ℤ) → child_in g s (value z) ≡ added s (add s.lent (literal z))
  unfolding child_in
  child_in-value z = refl

  module _ (ks : List ℕ) where
    pub children_in-go :
        (x : Child) (xs : List Child) (t : ℕ) (s' : State) →
        child_in g s x ≡ done t s' →
        children_in g s ks (x ∷ xs) ≡ children_in g s' (ks ++ (t ∷ [])) xs
    unfolding children_in
    children_in-go x xs t s' e = rw (e, children_in)

    pub children_in-stop :
        (x : Child) (xs : List Child) (me rs : List ℕ) (ls : List ℤ) (ns : List ℕ) →
        child_in g s x ≡ full me rs ls ns →
        children_in g s ks (x ∷ xs) ≡ full me rs ls ns
    unfolding children_in
    children_in-stop x xs me rs ls ns e = rw (e, children_in)

    pub children_in-end : children_in g s ks [] ≡ done ks s
    unfolding children_in
    children_in-end = refl

own_in-full : (name : List ℕ) (c : ℕ) (me rs : List ℕ) (ls : List ℤ) (ns : List ℕ) → own_in name c (full me rs ls ns) ≡
    full me rs ls ns
unfolding own_in
own_in-full name c me rs ls ns = refl

module _ (p : Plan) (s : State) (c : ℕ) where
  pub build_in-when-kept : (f : ℕ) → 0 < get_or s.memo c 0 → build_in p (suc f) s c ≡ done (get_or s.memo c 0 - 1) s
  unfolding build_in
  build_in-when-kept f l = rw (lt-ltb _ _ l, build_in)

  pub build_in-when-new :
      (f : ℕ) →
      get_or s.memo c 0 ≤ 0 →
      build_in p (suc f) s c ≡ own_in (p.name c) c (children_in (build_in p f) s [] (p.children c))
  unfolding build_in
  build_in-when-new f z = rw (le-ltb _ _ z, build_in)

  module _ (r : ℕ) where
    pub exact-of-kept : 0 < get_or s.memo c 0 → Exact p r s c (done (get_or s.memo c 0 - 1) s)
    exact-of-kept l (suc f) h = build_in-when-kept f l
    exact-of-kept l zero h = absurd (omega arith)

    -- a class that the memo does not name is built by its children
    exact-of-children :
        (o : Out ℕ) →
        get_or s.memo c 0 ≤ 0 →
        ((f : ℕ) → r ≤ f → own_in (p.name c) c (children_in (build_in p f) s [] (p.children c)) ≡ o) →
        Exact p r s c o
    exact-of-children o z e (suc f) h = build_in-when-new f z ∙ e f (omega arith)
    exact-of-children o z e zero h = absurd (omega arith)

-- The child x of class c is built, by a call or as a literal.
pub record Made (p : Plan) (r : ℕ) (s : State) (x : Child) (o : Out ℕ) : Type 0 where
  pub same : (f : ℕ) → r ≤ f → child_in (build_in p f) s x ≡ o
  pub right : Right p s x o

module _ (p : Plan) (rank : ℕ → ℕ) (ranked : Ranked p rank) (r : ℕ) (s : State) (tracks : Tracks p s) (o : Out ℕ)
  where
    pub made-of-class : (x : ℕ) → 0 < rank x → rank x < r → Exact p (r - 1) s x o → Made p r s (class x) o
    made-of-class x l h e = record {
      same = λ f b. child_in-class (build_in p f) s x ∙ e f (omega arith);
      right = subst (λ (q : Out ℕ). Right p s (class x) q) (e r (omega arith)) (build-right p rank ranked r s x tracks
          l h);
    }

    pub made-of-value : (z : ℤ) → added s (add s.lent (literal z)) ≡ o → Made p r s (value z) o
    made-of-value z e = record {
      same = λ f b. child_in-value (build_in p f) s z ∙ e;
      right =
          subst (λ (q : Out ℕ). Right p s (value z) q) (child_in-value (build_in p r) s z ∙ e)
          (child-right p rank ranked r (build_in p r) (build-right p rank ranked r) s (value z) tracks tt);
    }

-- The child came with an answer, and the memo kept its length.
pub record Arrives (p : Plan) (r : ℕ) (at : State) (x : Child) (b : Option ℕ) (me : List ℕ) (s : Store) : Type 0 where
  pub made : Made p r at x (seen b me s)
  pub memo : length me ≡ length at.memo

-- The loop over the children of class c, whose numbers are `kids`: those before j are built, in their order, and the
-- state is as the definition's.
pub record Turn
    (p : Plan) (level : ℕ) (values : List ℤ) (kids : List ℕ) (first at : State) (ks : List ℕ) (j : ℕ) : Type 0 where
  pub within : j ≤ length kids
  pub long : length ks ≡ 8
  pub memo : length at.memo ≡ length first.memo
  pub tracks : Tracks p at
  pub below : (i : ℕ) → i < j → get_or ks i 0 < at.lent.terms
  pub same :
      (f : ℕ) →
      level ≤ f →
      children_in (build_in p f) first [] (map (child_of values) kids)
      ≡ children_in (build_in p f) at (take j ks) (drop j (map (child_of values) kids))

module _
    (p : Plan) (level : ℕ) (values : List ℤ) (kids : List ℕ) (few : length kids ≤ 8) (first at : State) (ks : List ℕ)
    (j : ℕ) (turn : Turn p level values kids first at ks j) where
  abbrev xs : List Child
  xs = map (child_of values) kids

  abbrev x : Child
  x = child_of values (get_or kids j 0)

  below_set :
      (t m : ℕ) →
      at.lent.terms ≤ m →
      t < m →
      j < 8 →
      (i : ℕ) →
      Dec (i ≡ j) →
      i < j + 1 →
      get_or (set ks j t) i 0 < m
  below_set t m h l b i (yes e) q =
      omega (arith, ap (λ (a : ℕ). get_or (set ks j t) a 0) e, get_or-set_same ks j t 0 (omega (arith, turn.long)))
  below_set t m h l b i (no d) q =
      omega (arith, get_or-set_other ks j i t 0 d, turn.below i (omega arith))

  pub turn-go :
      j < length kids →
      (t : ℕ) (s' : State) →
      Made p level at x (done t s') →
      length s'.memo ≡ length at.memo →
      Turn p level values kids first s' (set ks j t) (j + 1)
  turn-go h t s' made em =
      let inside : j < length ks = omega (arith, turn.long) in
      record {
        within = omega arith;
        long = length-set ks j t ∙ turn.long;
        memo = em ∙ turn.memo;
        tracks = made.right.tracks;
        below = λ i q.
            below_set t s'.lent.terms made.right.grows.more made.right.stands.below (omega arith) i
            (ℕ_discrete i j) q;
        same = λ f q.
            turn.same f q
            ∙ ap (children_in (build_in p f) at (take j ks)) (children-next values kids j h)
            ∙ children_in-go (build_in p f) at (take j ks) x (drop (j + 1) xs) t s' (made.same f q)
            ∙ ap (λ (ms : List ℕ). children_in (build_in p f) s' ms (drop (j + 1) xs))
            (sym (ap (λ (i : ℕ). take i (set ks j t)) (add-one j) ∙ take-suc-set ks j t inside));
      }

  module _ (c : ℕ) (are : p.children c ≡ xs) (z : get_or first.memo c 0 ≤ 0) where
    pub turn-stop :
        j < length kids →
        (me rs : List ℕ) (ls : List ℤ) (ns : List ℕ) →
        Made p level at x (full me rs ls ns) →
        Exact p level first c (full me rs ls ns)
    turn-stop h me rs ls ns made =
        exact-of-children p first c level (full me rs ls ns) z
        (λ f q.
        ap (own_in (p.name c) c)
        (ap (children_in (build_in p f) first []) are
        ∙ turn.same f q
        ∙ ap (children_in (build_in p f) at (take j ks)) (children-next values kids j h)
        ∙ children_in-stop (build_in p f) at (take j ks) x (drop (j + 1) xs) me rs ls ns (made.same f q))
        ∙ own_in-full (p.name c) c me rs ls ns)

    pub turn_end :
        length kids ≤ j → Exact p level first c (own_in (p.name c) c (done (take j ks) at))
    turn_end l =
        exact-of-children p first c level (own_in (p.name c) c (done (take j ks) at)) z
        (λ f q.
        ap (own_in (p.name c) c)
        (ap (children_in (build_in p f) first []) are
        ∙ turn.same f q
        ∙ ap (children_in (build_in p f) at (take j ks)) (children-end values kids j l)
        ∙ children_in-end (build_in p f) at (take j ks)))
