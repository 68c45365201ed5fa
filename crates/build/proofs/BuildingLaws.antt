-- What building does: the term of a class stands in the store that comes back, or an add had no room. By induction
-- on the definition, with no code in sight. Assumes nothing.
use Prim.{Dec, yes, no}
use Prim.Native.Nat.{ℕ, zero, suc, ◌+◌, ◌-◌, ◌≤◌, ◌<◌}
use mathlib.Core.Path.{◌≡◌, refl, subst, ap, ◌∙◌}
use mathlib.Core.Bool.{Bool, true, false}
use mathlib.Core.List.{List, [], ◌∷◌, ◌++◌, append-nil, append_assoc}
use native.Mathlib.Decide.{ℕ_discrete}
use native.Mathlib.Omega.{arith}
use lib.ListN.{length, get_or, set, drop, replicate}
use lib.Seq.{get_or-set_same, get_or-set_other, set_out}
use lib.Dec.{ltb}
use lib.IntN.{ℤ}
use borrow.Author.Tests.{ltb-true, ltb-false}
use Rattle.term_rules.specs.Lent.{Store, records_length}
use Rattle.term_rules.specs.WellFormed.{well_formed}
use Rattle.term_rules.specs.Nodes.{Node, literal, application, number, applied, is_number, is_applied}
use Rattle.term_rules.specs.Adding.{Adds, at, no_room, add}
use Rattle.term_rules.specs.Growing.{Beyond, Grows, Takes, Gives}
use Rattle.name.proofs.PasteLaws.{get_d-zeros}
use Rattle.term_rules.proofs.Adding.AddingLaws.{grows-refl, grows-trans, add-gives}
use Rattle.build.specs.Plan.{Child, class, value, Plan, of_row, of_class, of_value}
use Rattle.build.specs.Building.{State, state, Out, done, full, added, kept, child_in, children_in, own_in, build_in}
use Rattle.build.specs.Standing.{Stands, Tracks, Builds, Stuck}
use Rattle.build.specs.Ready.{Lower, AllLower, Ranked, Exact}
use Rattle.build.proofs.StandingLaws.{
  stands-grows,
  StandAll,
  none_stand,
  stand_all-grows,
  stand_all-append,
  stand_all-length,
  stand_all-below,
  stand_all-trees,
}

module _ (p : Plan) where
  -- an answer for the child is right
  abbrev pub Right : State → Child → Out ℕ → Type 0
  Right s x (done t s') = Builds p s x t s'
  Right s x (full me rs ls ns) = Stuck s.lent rs ls ns

  pub record BuildsAll (s : State) (xs : List Child) (ks : List ℕ) (s' : State) : Type 0 where
    pub grows : Grows s.lent s'.lent
    pub tracks : Tracks p s'
    pub stand : StandAll p s'.lent xs ks

  -- an answer for the children is right
  abbrev pub RightAll : State → List Child → Out (List ℕ) → Type 0
  RightAll s xs (done ks s') = BuildsAll s xs ks s'
  RightAll s xs (full me rs ls ns) = Stuck s.lent rs ls ns

  stuck-trans : {s s' : Store} {rs ns : List ℕ} {ls : List ℤ} → Grows s s' → Stuck s' rs ls ns → Stuck s rs ls ns
  stuck-trans g k = record {
    last = k.last;
    grows = grows-trans g k.grows;
    records = k.records;
    literals = k.literals;
    names = k.names;
  }

  tracks-grows : (s : State) (lent : Store) → Grows s.lent lent → Tracks p s → Tracks p (state s.memo lent)
  tracks-grows s lent g h = record { formed = g.formed; memo = λ c l. stands-grows g (h.memo c l) }

  -- a child whose tree is that of a node which the store takes
  added-right :
      (s : State) (x : Child) (node : Node) →
      Tracks p s →
      ((lent : Store) (t : ℕ) → Takes s.lent node t lent → Stands p lent x t) →
      (a : Adds) →
      add s.lent node ≡ a →
      Gives s.lent node a →
      Right s x (added s a)
  unfolding added
  added-right s x node h stands (at t lent) e g =
      record { grows = g.grows; tracks = tracks-grows s lent g.grows h; stands = stands lent t g }
  added-right s x node h stands no_room e g = record {
    last = s.lent;
    grows = grows-refl s.lent h.formed;
    records = refl;
    literals = refl;
    names = refl;
  }

  value-right : (s : State) (z : ℤ) → Tracks p s → Right s (value z) (added s (add s.lent (literal z)))
  value-right s z h =
      added-right s (value z) (literal z) h
      (λ lent t g. record { below = g.below; tree = number z; of = of_value; means = is_number z g.is })
      (add s.lent (literal z)) refl (add-gives s.lent (literal z) h.formed tt)

  memo-by :
      (me : List ℕ) (c t i : ℕ) (lent : Store) →
      Stands p lent (class c) t →
      ((k : ℕ) → 0 < get_or me k 0 → Stands p lent (class k) (get_or me k 0 - 1)) →
      Dec (i ≡ c) →
      (b : Bool) →
      ltb c (length me) ≡ b →
      0 < get_or (set me c (t + 1)) i 0 →
      Stands p lent (class i) (get_or (set me c (t + 1)) i 0 - 1)
  memo-by me c t i lent h old (yes e) true b l =
      let v : get_or (set me c (t + 1)) c 0 - 1 ≡ t = omega (arith, get_or-set_same me c (t + 1) 0 (ltb-true _ _ b)) in
      rw (e, v) h
  memo-by me c t i lent h old (yes e) false b l =
      let v : set me c (t + 1) ≡ me = set_out me c (t + 1) (ltb-false _ _ b) in
      rw v (old i (rw v at l))
  memo-by me c t i lent h old (no n) b q l =
      let v : get_or (set me c (t + 1)) i 0 ≡ get_or me i 0 = get_or-set_other me c i (t + 1) 0 n in
      rw v (old i (rw v at l))

  kept-right : (s : State) (c : ℕ) (o : Out ℕ) → Right s (class c) o → Right s (class c) (kept c o)
  unfolding kept
  kept-right s c (full me rs ls ns) h = h
  kept-right s c (done t s') h = record {
    grows = h.grows;
    tracks = record {
      formed = h.tracks.formed;
      memo = λ i l.
          memo-by s'.memo c t i s'.lent h.stands h.tracks.memo (ℕ_discrete i c) (ltb c (length s'.memo)) refl l;
    };
    stands = h.stands;
  }

  right-grows : (s s' : State) (x : Child) → Grows s.lent s'.lent → (o : Out ℕ) → Right s' x o → Right s x o
  right-grows s s' x g (full me rs ls ns) h = stuck-trans g h
  right-grows s s' x g (done t s'') h =
      record { grows = grows-trans g h.grows; tracks = h.tracks; stands = h.stands }

  module _ (rank : ℕ → ℕ) (ranked : Ranked p rank) where
    -- a builder of every class of a rank below r
    abbrev pub RightBelow : ℕ → (State → ℕ → Out ℕ) → Type 0
    RightBelow r g = (s : State) (c : ℕ) → Tracks p s → 0 < rank c → rank c < r → Right s (class c) (g s c)

    lower_mono : {r r' : ℕ} (xs : List Child) → r ≤ r' → AllLower rank r xs → AllLower rank r' xs
    lower_mono [] h l = tt
    lower_mono (class c ∷ xs) h l = ((l.0.0, omega (arith, l.0.1)), lower_mono xs h l.1)
    lower_mono (value z ∷ xs) h l = (tt, lower_mono xs h l.1)

    own-right :
        (s : State) (c : ℕ) (o : Out (List ℕ)) →
        0 < rank c →
        RightAll s (p.children c) o →
        Right s (class c) (own_in (p.name c) c o)
    unfolding own_in
    own-right s c (full me rs ls ns) l h = h
    own-right s c (done ks s') l h =
        let node : Node = application (p.name c) ks in
        let w = stand_all-trees h.stand in
        right-grows s s' (class c) h.grows (kept c (added s' (add s'.lent node)))
        (kept-right s' c (added s' (add s'.lent node))
        (added-right s' (class c) node h.tracks
        (λ lent t g.
        let v = stand_all-trees (stand_all-grows g.grows h.stand) in
        record {
          below = g.below;
          tree = applied (p.name c) v.trees;
          of = of_class (of_row refl v.of);
          means = is_applied (p.name c) ks v.trees g.is v.means;
        })
        (add s'.lent node) refl
        (add-gives s'.lent node h.tracks.formed
        (ranked.named c l, omega (arith, stand_all-length h.stand, ranked.few c l), stand_all-below h.stand))))

    module _ (r : ℕ) (g : State → ℕ → Out ℕ) (right : RightBelow r g) where
      pub child-right : (s : State) (x : Child) → Tracks p s → Lower rank r x → Right s x (child_in g s x)
      unfolding child_in
      child-right s (class c) h l = right s c h l.0 l.1
      child-right s (value z) h l = value-right s z h

      -- the children xs, after others
      abbrev RightOn : List Child → Type 0
      RightOn xs =
          (ys : List Child) (s₀ s : State) (ks : List ℕ) →
          BuildsAll s₀ ys ks s →
          RightAll s₀ (ys ++ xs) (children_in g s ks xs)

      next-right :
          (x : Child) (xs ys : List Child) (s₀ s : State) (ks : List ℕ) →
          RightOn xs →
          BuildsAll s₀ ys ks s →
          (o : Out ℕ) →
          Right s x o →
          RightAll s₀ (ys ++ (x ∷ xs))
          (elim o as (λ _. Out (List ℕ)) [
            | done t s' ↦ children_in g s' (ks ++ (t ∷ [])) xs
            | full me rs ls ns ↦ full me rs ls ns
          ])
      next-right x xs ys s₀ s ks on h (full me rs ls ns) b = stuck-trans h.grows b
      next-right x xs ys s₀ s ks on h (done t s') b =
          subst (λ (l : List Child). RightAll s₀ l (children_in g s' (ks ++ (t ∷ [])) xs)) (append_assoc ys (x ∷ []) xs)
          (on (ys ++ (x ∷ [])) s₀ s' (ks ++ (t ∷ []))
          (record {
            grows = grows-trans h.grows b.grows;
            tracks = b.tracks;
            stand = stand_all-append (stand_all-grows b.grows h.stand) b.stands;
          }))

      children-right : (xs : List Child) → AllLower rank r xs → RightOn xs
      unfolding children_in
      children-right [] l ys s₀ s ks h = rw append-nil h
      children-right (x ∷ xs) l ys s₀ s ks h =
          next-right x xs ys s₀ s ks (children-right xs l.1) h (child_in g s x) (child-right s x h.tracks l.0)

    build-by :
        (f : ℕ) →
        RightBelow f (build_in p f) →
        (s : State) (c : ℕ) →
        Tracks p s →
        0 < rank c →
        rank c < suc f →
        (q : Bool) →
        ltb 0 (get_or s.memo c 0) ≡ q →
        Right s (class c)
        (elim q as (λ _. Out ℕ) [
          | true ↦ done (get_or s.memo c 0 - 1) s
          | false ↦ own_in (p.name c) c (children_in (build_in p f) s [] (p.children c))
        ])
    build-by f right s c h l m true e =
        record { grows = grows-refl s.lent h.formed; tracks = h; stands = h.memo c (ltb-true _ _ e) }
    build-by f right s c h l m false e =
        own-right s c (children_in (build_in p f) s [] (p.children c)) l
        (children-right f (build_in p f) right (p.children c) (lower_mono (p.children c) (omega arith) (ranked.lower
        c l))
        [] s s [] (record { grows = grows-refl s.lent h.formed; tracks = h; stand = none_stand }))

    -- what is built is the class's tree, or an add had no room, at every depth above the rank
    pub build-right : (f : ℕ) → RightBelow f (build_in p f)
    unfolding build_in
    build-right zero s c h l m = absurd (omega arith)
    build-right (suc f) s c h l m = build-by f (build-right f) s c h l m (ltb 0 (get_or s.memo c 0)) refl

  module _
      (rank : ℕ → ℕ)
      (ranked : Ranked p rank)
      (s : State)
      (c : ℕ)
      (tracks : Tracks p s)
      (h : 0 < rank c) where
    -- an exact answer is right
    pub exact-right : (level : ℕ) → rank c ≤ level → (o : Out ℕ) → Exact p level s c o → Right s (class c) o
    exact-right level l o e =
        subst (Right s (class c)) (e (level + 1) (omega arith))
        (build-right rank ranked (level + 1) s c tracks h (omega arith))

  -- a memo that names no class
  pub tracks-of-zeros : (n : ℕ) (s : Store) → well_formed s ≡ true → Tracks p (state (replicate n 0) s)
  tracks-of-zeros n s f = record { formed = f; memo = λ c l. absurd (omega (arith, get_d-zeros n c)) }

-- where a term had no room, nothing changed past the limits
pub stuck-beyond : {s : Store} {rs ns : List ℕ} {ls : List ℤ} → Stuck s rs ls ns → Beyond s rs ls ns
stuck-beyond k = record {
  records = ap (drop (records_length 1024)) k.records ∙ k.grows.beyond.records;
  literals = ap (drop 1024) k.literals ∙ k.grows.beyond.literals;
  names = ap (drop 4096) k.names ∙ k.grows.beyond.names;
}
