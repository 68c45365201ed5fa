-- What building a class keeps: a law about stores that each addition keeps is kept by the whole. By induction on the
-- definition, with no code in sight. Assumes nothing.
use Prim.Native.Nat.{ℕ, zero, suc, ◌-◌, ◌≤◌, ◌<◌}
use mathlib.Core.Path.{◌≡◌, refl, ap, subst}
use mathlib.Core.Bool.{Bool, true, false}
use mathlib.Core.List.{List, [], ◌∷◌, ◌++◌, append-nil, append_assoc}
use native.Mathlib.Omega.{arith}
use lib.ListN.{length, get_or}
use lib.Dec.{ltb}
use Rattle.name.specs.Name.{valid}
use Rattle.term_rules.specs.Lent.{Store}
use Rattle.term_rules.specs.WellFormed.{well_formed}
use Rattle.term_rules.specs.Nodes.{Node, literal, application, Tree, number, applied, Trees}
use Rattle.term_rules.specs.Adding.{Adds, at, no_room, add}
use Rattle.term_rules.specs.Growing.{Fit}
use Rattle.build.specs.Plan.{
  Child,
  class,
  value,
  Plan,
  TreeOf,
  of_row,
  ChildTree,
  of_class,
  of_value,
  TreesOf,
  of_none,
  of_more,
}
use Rattle.build.specs.Building.{State, Out, done, full, added, kept, child_in, children_in, own_in, build_in}
use Rattle.build.specs.Standing.{Tracks}
use Rattle.build.specs.Ready.{Lower, AllLower, Ranked}
use Rattle.build.proofs.StandingLaws.{
  StandAll,
  none_stand,
  stand_all-grows,
  stand_all-append,
  stand_all-length,
  stand_all-below,
  stand_all-trees,
  trees_of-unique,
}
use Rattle.build.proofs.BuildingLaws.{Right, RightBelow, child-right, build-right}
use Rattle.answer_rules.specs.Variants.{own_variant}
use Rattle.answer_rules.proofs.Room.HoldLaws.{AllTrees, NodeTree}
use Rattle.answer_rules.proofs.Room.StepLaws.{GoodAdd}

-- what a build leaves: G of the store, or Bad where there was no room
abbrev pub Good : (Store → Type 0) → Type 0 → Out ℕ → Type 0
Good G Bad (done t s) = G s.lent
Good G Bad (full me rs ls ns) = Bad

-- G is kept by every addition of a node whose tree is needed
abbrev pub Step : (Store → Type 0) → (Tree → Type 0) → Type 0 → Type 0
Step G Need Bad =
    (s : Store) (node : Node) (u : Tree) →
    well_formed s ≡ true →
    Fit s node →
    NodeTree s node u →
    Need u →
    G s →
    GoodAdd G Bad (add s node)

module _ (p : Plan) where
  -- what the tree of a child is
  abbrev pub Inverse : Child → Tree → Type 0
  Inverse (class c) u = TreeOf p c u
  Inverse (value z) u = u ≡ number z

  pub inverse : {x : Child} {u : Tree} → ChildTree p x u → Inverse x u
  inverse (of_class a) = a
  inverse of_value = refl

  record Rows (c : ℕ) (u : Tree) : Type 0 where
    trees : Trees
    is : u ≡ applied (p.name c) trees
    of : TreesOf p (p.children c) trees

  rows : {c : ℕ} {u : Tree} → TreeOf p c u → Rows c u
  rows (of_row {ts = ts} e a) = record { trees = ts; is = ap (λ (n : List ℕ). applied n ts) e; of = a }

  -- a child has a tree that is needed
  pub record Needed (Need : Tree → Type 0) (x : Child) : Type 0 where
    pub tree : Tree
    pub of : ChildTree p x tree
    pub need : Need tree

  abbrev AllNeeded : (Tree → Type 0) → List Child → Type 0
  AllNeeded Need [] = Unit
  AllNeeded Need (x ∷ xs) = Needed Need x × AllNeeded Need xs

  trees-needed :
      (Need : Tree → Type 0) {xs : List Child} {ts : Trees} → TreesOf p xs ts → AllTrees Need ts → AllNeeded Need xs
  trees-needed Need of_none q = tt
  trees-needed Need (of_more {t = t} a b) q = (record { tree = t; of = a; need = q.0 }, trees-needed Need b q.1)

  module _
      (rank : ℕ → ℕ) (ranked : Ranked p rank) (G : Store → Type 0) (Need : Tree → Type 0) (Bad : Type 0)
      (down : (n : List ℕ) (ts : Trees) → Need (applied n ts) → AllTrees Need ts)
      (step : Step G Need Bad) where
    children-needed : (c : ℕ) → Needed Need (class c) → AllNeeded Need (p.children c)
    children-needed c n =
        let r = rows (inverse n.of) in
        trees-needed Need r.of (down (p.name c) r.trees (subst Need r.is n.need))

    added-good : (s : State) (a : Adds) → GoodAdd G Bad a → Good G Bad (added s a)
    unfolding added
    added-good s (at t lent) k = k
    added-good s no_room k = k

    kept-good : (c : ℕ) (o : Out ℕ) → Good G Bad o → Good G Bad (kept c o)
    unfolding kept
    kept-good c (done t s) k = k
    kept-good c (full me rs ls ns) k = k

    -- what the children leave
    record Kids (xs : List Child) (ks : List ℕ) (s : State) : Type 0 where
      tracks : Tracks p s
      stand : StandAll p s.lent xs ks
      good : G s.lent

    abbrev GoodKids : List Child → Out (List ℕ) → Type 0
    GoodKids xs (done ks s) = Kids xs ks s
    GoodKids xs (full me rs ls ns) = Bad

    -- a term of that name over children that stand in the store
    term-good :
        (name : List ℕ) (xs : List Child) (ts : Trees) (ks : List ℕ) (s : State) →
        valid name ≡ true →
        length xs ≤ 8 →
        TreesOf p xs ts →
        Need (applied name ts) →
        Kids xs ks s →
        Good G Bad (added s (add s.lent (application name ks)))
    term-good name xs ts ks s v few of n k =
        let w = stand_all-trees k.stand in
        let e : ts ≡ w.trees = trees_of-unique of w.of in
        added-good s (add s.lent (application name ks))
        (step s.lent (application name ks) (applied name w.trees) k.tracks.formed
        (v, omega (arith, stand_all-length k.stand, few), stand_all-below k.stand) (w.trees, w.means, refl)
        (subst (λ (x : Trees). Need (applied name x)) e n) k.good)

    own-good :
        (c : ℕ) (o : Out (List ℕ)) → 0 < rank c → Needed Need (class c) → GoodKids (p.children c) o →
        Good G Bad (own_in (p.name c) c o)
    unfolding own_in
    own-good c (full me rs ls ns) l n k = k
    own-good c (done ks s) l n k =
        let r = rows (inverse n.of) in
        kept-good c (added s (add s.lent (application (p.name c) ks)))
        (term-good (p.name c) (p.children c) r.trees ks s (ranked.named c l) (ranked.few c l) r.of
        (subst Need r.is n.need) k)

    named-good :
        (name : List ℕ) (xs : List Child) (ts : Trees) →
        valid name ≡ true →
        length xs ≤ 8 →
        TreesOf p xs ts →
        Need (applied name ts) →
        (o : Out (List ℕ)) →
        GoodKids xs o →
        Good G Bad (own_variant name o)
    unfolding own_variant
    named-good name xs ts v few of n (done ks s) k = term-good name xs ts ks s v few of n k
    named-good name xs ts v few of n (full me rs ls ns) k = k

    -- a builder of every class of a rank below r
    abbrev GoodBelow : ℕ → (State → ℕ → Out ℕ) → Type 0
    GoodBelow r g =
        (s : State) (c : ℕ) → Tracks p s → 0 < rank c → rank c < r → Needed Need (class c) → G s.lent →
        Good G Bad (g s c)

    lower_mono : {r r' : ℕ} (xs : List Child) → r ≤ r' → AllLower rank r xs → AllLower rank r' xs
    lower_mono [] h l = tt
    lower_mono (class c ∷ xs) h l = ((l.0.0, omega (arith, l.0.1)), lower_mono xs h l.1)
    lower_mono (value z ∷ xs) h l = (tt, lower_mono xs h l.1)

    module _
        (r : ℕ) (g : State → ℕ → Out ℕ) (right : RightBelow p rank ranked r g) (good : GoodBelow r g) where
      child-good :
          (s : State) (x : Child) → Tracks p s → Lower rank r x → Needed Need x → G s.lent →
          Good G Bad (child_in g s x)
      unfolding child_in
      child-good s (class c) h l n k = good s c h l.0 l.1 n k
      child-good s (value z) h l n k =
          added-good s (add s.lent (literal z))
          (step s.lent (literal z) n.tree h.formed tt (inverse n.of) n.need k)

      -- the children xs, after others
      abbrev GoodOn : List Child → Type 0
      GoodOn xs =
          (ys : List Child) (s : State) (ks : List ℕ) → Kids ys ks s → GoodKids (ys ++ xs) (children_in g s ks xs)

      next-good :
          (x : Child) (xs ys : List Child) (s : State) (ks : List ℕ) →
          GoodOn xs →
          Kids ys ks s →
          (o : Out ℕ) →
          Right p s x o →
          Good G Bad o →
          GoodKids (ys ++ (x ∷ xs))
          (elim o as (λ _. Out (List ℕ)) [
            | done t s' ↦ children_in g s' (ks ++ (t ∷ [])) xs
            | full me rs ls ns ↦ full me rs ls ns
          ])
      next-good x xs ys s ks on h (full me rs ls ns) b k = k
      next-good x xs ys s ks on h (done t s') b k =
          subst (λ (l : List Child). GoodKids l (children_in g s' (ks ++ (t ∷ [])) xs)) (append_assoc ys (x ∷ []) xs)
          (on (ys ++ (x ∷ [])) s' (ks ++ (t ∷ []))
          (record {
            tracks = b.tracks;
            stand = stand_all-append (stand_all-grows b.grows h.stand) b.stands;
            good = k;
          }))

      children-good : (xs : List Child) → AllLower rank r xs → AllNeeded Need xs → GoodOn xs
      unfolding children_in
      children-good [] l n ys s ks h = rw append-nil h
      children-good (x ∷ xs) l n ys s ks h =
          next-good x xs ys s ks (children-good xs l.1 n.1) h (child_in g s x)
          (child-right p rank ranked r g right s x h.tracks l.0)
          (child-good s x h.tracks l.0 n.0 h.good)

    build-by :
        (f : ℕ) →
        GoodBelow f (build_in p f) →
        (s : State) (c : ℕ) →
        Tracks p s →
        0 < rank c →
        rank c < suc f →
        Needed Need (class c) →
        G s.lent →
        (q : Bool) →
        Good G Bad
        (elim q as (λ _. Out ℕ) [
          | true ↦ done (get_or s.memo c 0 - 1) s
          | false ↦ own_in (p.name c) c (children_in (build_in p f) s [] (p.children c))
        ])
    build-by f good s c h l m n k true = k
    build-by f good s c h l m n k false =
        own-good c (children_in (build_in p f) s [] (p.children c)) l n
        (children-good f (build_in p f) (build-right p rank ranked f) good (p.children c)
        (lower_mono (p.children c) (omega arith) (ranked.lower c l)) (children-needed c n) [] s []
        (record { tracks = h; stand = none_stand; good = k }))

    -- at every depth above the rank
    pub build-good : (f : ℕ) → GoodBelow f (build_in p f)
    unfolding build_in
    build-good zero s c h l m n k = absurd (omega arith)
    build-good (suc f) s c h l m n k = build-by f (build-good f) s c h l m n k (ltb 0 (get_or s.memo c 0))

    -- a row of that name over children that have their ranks
    pub row-good :
        (d : ℕ) (name : List ℕ) (xs : List Child) (ts : Trees) (s : State) →
        valid name ≡ true →
        length xs ≤ 8 →
        AllLower rank d xs →
        TreesOf p xs ts →
        Need (applied name ts) →
        Tracks p s →
        G s.lent →
        Good G Bad (own_variant name (children_in (build_in p d) s [] xs))
    row-good d name xs ts s v few l of n h k =
        named-good name xs ts v few of n (children_in (build_in p d) s [] xs)
        (children-good d (build_in p d) (build-right p rank ranked d) (build-good d) xs l
        (trees-needed Need of (down name ts n)) [] s [] (record { tracks = h; stand = none_stand; good = k }))
