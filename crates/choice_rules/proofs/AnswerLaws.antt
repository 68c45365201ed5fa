-- The answer: what a fixpoint says of a class is right, and nothing else is. Assumes nothing.
use mathlib.Core.Path.{◌≡◌, refl, ap, subst}
use mathlib.Core.Bool.{true}
use mathlib.Core.List.{List, []}
use Prim.Native.Nat.{ℕ, ◌≤◌, ◌<◌}
use native.Mathlib.Omega.{arith}
use native.Mathlib.Decide.{dec_lt}
use lib.ListN.{get_or}
use borrow.Author.Tests.{lt-ltb, le-ltb}
use Rattle.choice_rules.specs.Rows.{Row, class}
use Rattle.choice_rules.specs.Deriving.{Tree}
use Rattle.choice_rules.specs.Run.{State}
use Rattle.choice_rules.specs.Edges.{edge_of, Chosen}
use Rattle.choice_rules.specs.Answer.{Answer, no_term, too_dear, best, Best, Right, answer_of}
use Rattle.choice_rules.proofs.PassLaws.{Fixed}
use Rattle.choice_rules.proofs.SoundLaws.{Grounded, least-class}
use Rattle.choice_rules.proofs.RankLaws.{Sourced}
use Rattle.choice_rules.proofs.EdgeLaws.{edge-of-fixed}
use Rattle.choice_rules.proofs.ChosenLaws.{choice}

-- which answer a state gives
module _ (M : ℕ) (s : State) (c : ℕ) where
  pub answer-when-unranked : get_or s.ranks c 0 ≡ 0 → answer_of M s.costs s.ranks c ≡ no_term
  unfolding answer_of
  answer-when-unranked h = rw (le-ltb 0 (get_or s.ranks c 0) (omega arith))

  module _ (k : 0 < get_or s.ranks c 0) where
    pub answer-when-saturated : M ≤ get_or s.costs c 0 → answer_of M s.costs s.ranks c ≡ too_dear
    unfolding answer_of
    answer-when-saturated h = rw (lt-ltb 0 (get_or s.ranks c 0) k, le-ltb (get_or s.costs c 0) M h)

    pub answer-when-below : get_or s.costs c 0 < M → answer_of M s.costs s.ranks c ≡ best (get_or s.costs c 0)
    unfolding answer_of
    answer-when-below h = rw (lt-ltb 0 (get_or s.ranks c 0) k, lt-ltb (get_or s.costs c 0) M h)

module _ (M : ℕ) (rows : List Row) where
  pub right_unique : (c : ℕ) (a b : Answer) → Right M rows c a → Right M rows c b → a ≡ b
  right_unique c no_term no_term p q = refl
  right_unique c no_term too_dear p q = absurd (p q.0.0 q.0.1)
  right_unique c no_term (best v) p q = absurd (p q.1.0 q.1.1.derives)
  right_unique c too_dear no_term p q = absurd (q p.0.0 p.0.1)
  right_unique c too_dear too_dear p q = refl
  right_unique c too_dear (best v) p q = let b = q.1.1 in
      absurd (omega (arith, p.1 q.1.0 b.derives, b.exact, q.0))
  right_unique c (best u) no_term p q = absurd (q p.1.0 p.1.1.derives)
  right_unique c (best u) too_dear p q = let b = p.1.1 in
      absurd (omega (arith, q.1 p.1.0 b.derives, b.exact, p.0))
  right_unique c (best u) (best v) p q =
      let a = p.1.1 in
      let b = q.1.1 in
      ap best (omega (arith, a.least q.1.0 b.derives, b.least p.1.0 a.derives, a.exact, b.exact))

  module _ (s : State) (fixed : Fixed M rows s) (grounded : Grounded M rows s) (sourced : Sourced M rows s) (c : ℕ)
    where
      pub right-when-unranked : get_or s.ranks c 0 ≡ 0 → Right M rows c no_term
      right-when-unranked h t d = omega (arith, (least-class M rows s fixed c t d).0)

      module _ (k : 0 < get_or s.ranks c 0) where
        pub right-when-saturated : M ≤ get_or s.costs c 0 → Right M rows c too_dear
        right-when-saturated h =
            let t = grounded c k in
            ((t.tree, t.derives), λ u d. omega (arith, (least-class M rows s fixed c u d).1))

        -- the tree that the edges choose
        pub best-when-below : get_or s.costs c 0 < M
            → (t : Tree) × Chosen rows (edge_of M s.costs s.ranks rows) t (class c) × Best rows c (get_or s.costs c 0) t
        best-when-below h =
            let t = choice M rows s.costs s.ranks (edge_of M s.costs s.ranks rows)
            (edge-of-fixed M rows s fixed sourced) (λ (i : ℕ). true) (λ d l m. refl) c k h in (
              t.tree,
              t.chosen,
              record {
                derives = t.derives;
                exact = t.cost;
                least = λ u d. (least-class M rows s fixed c u d).1;
                once = t.once [] tt;
              },
            )

      pub right-of-fixed : Right M rows c (answer_of M s.costs s.ranks c)
      right-of-fixed = go (dec_lt 0 (get_or s.ranks c 0)) (dec_lt (get_or s.costs c 0) M)
        where
          go : Dec (0 < get_or s.ranks c 0) → Dec (get_or s.costs c 0 < M) → Right M rows c (answer_of M s.costs s.ranks c)
          go (no k) h = rw (answer-when-unranked M s c (omega arith)) (right-when-unranked (omega arith))
          go (yes k) (no h) = rw (answer-when-saturated M s c k (omega arith)) (right-when-saturated k (omega arith))
          go (yes k) (yes h) =
              let t = best-when-below k h in
              rw (answer-when-below M s c k h) (h, (t.0, t.2))

      pub chosen-when-best : (v : ℕ) → answer_of M s.costs s.ranks c ≡ best v → (t : Tree) × Chosen rows (edge_of M s.costs s.ranks rows) t (class c)
          × Best rows c v t
      chosen-when-best v e = go (dec_lt 0 (get_or s.ranks c 0)) (dec_lt (get_or s.costs c 0) M)
        where
          go : Dec (0 < get_or s.ranks c 0) → Dec (get_or s.costs c 0 < M)
              → (t : Tree) × Chosen rows (edge_of M s.costs s.ranks rows) t (class c) × Best rows c v t
          go (no k) h = let x = answer-when-unranked M s c (omega arith) in let z : ◌≡◌ {A = ℕ} 0 1 = cc in
              absurd (omega arith)
          go (yes k) (no h) = let x = answer-when-saturated M s c k (omega arith) in let z : ◌≡◌ {A = ℕ} 0 1 = cc in
              absurd (omega arith)
          go (yes k) (yes h) =
              let x = answer-when-below M s c k h in
              let q : get_or s.costs c 0 ≡ v = cc in
              subst (λ (y : ℕ). (t : Tree) × Chosen rows (edge_of M s.costs s.ranks rows) t (class c) × Best rows c y t) q
              (best-when-below k h)
