-- Progress: judged by a fixpoint f, a pass that makes no further class final leaves a fixpoint. Assumes nothing.
use mathlib.Core.Path.{◌≡◌, refl, ap, subst}
use mathlib.Core.Bool.{Bool, true, false, cond, ◌&&◌}
use mathlib.Core.List.{List, [], ◌∷◌}
use Prim.Native.Nat.{ℕ, suc, zero, ◌≤◌, ◌<◌}
use native.Mathlib.Omega.{arith}
use native.Mathlib.Decide.{dec_lt}
use lib.ListN.{get_or}
use lib.Dec.{ltb, leb}
use borrow.Author.Tests.{ltb-true, leb-true, lt-ltb, le-leb}
use Rattle.choice_rules.specs.Rows.{Child, literal, class, Row, row_at, Within, sum_of}
use Rattle.choice_rules.specs.Deriving.{Tree, leaf, node, Forest, none, more, Derives, DeriveAll}
use Rattle.choice_rules.specs.Run.{State, child_cost, row_cost, pass, given}
use Rattle.choice_rules.specs.Edges.{child_rank}
use Rattle.choice_rules.proofs.ListLaws.{Has, and_cases}
use Rattle.choice_rules.proofs.RelaxLaws.{Priced, AllPriced}
use Rattle.choice_rules.proofs.PassLaws.{Fixed, Sized}
use Rattle.choice_rules.proofs.SoundLaws.{Grounded, grounded-capped, ground-row, least-class}
use Rattle.choice_rules.proofs.RankLaws.{AllLower, Exact}
use Rattle.choice_rules.proofs.MonoLaws.{Better, pass-serves}

-- in s class c has its cost of f already
abbrev pub Final : State → State → ℕ → Type 0
Final f s c = (0 < get_or s.ranks c 0) × (get_or s.costs c 0 ≤ get_or f.costs c 0)

-- 1 where class c is final
unfoldable pub mark : State → State → ℕ → ℕ
mark f s c = cond (ltb 0 (get_or s.ranks c 0) && leb (get_or s.costs c 0) (get_or f.costs c 0)) 1 0

pub mark-le-one : (f s : State) (c : ℕ) → mark f s c ≤ 1
unfolding mark
mark-le-one f s c = go (ltb 0 (get_or s.ranks c 0) && leb (get_or s.costs c 0) (get_or f.costs c 0))
  where
    go : (b : Bool) → cond b 1 0 ≤ 1
    go true = omega arith
    go false = omega arith

pub mark-final : (f s : State) (c : ℕ) → 0 < mark f s c → Final f s c
unfolding mark
mark-final f s c h = go (ltb 0 (get_or s.ranks c 0) && leb (get_or s.costs c 0) (get_or f.costs c 0)) refl h
  where
    go : (b : Bool) → (ltb 0 (get_or s.ranks c 0) && leb (get_or s.costs c 0) (get_or f.costs c 0)) ≡ b
        → 0 < cond b 1 0 → Final f s c
    go true e k =
        let p = and_cases (ltb 0 (get_or s.ranks c 0)) (leb (get_or s.costs c 0) (get_or f.costs c 0)) e in
        (ltb-true 0 (get_or s.ranks c 0) p.0, leb-true (get_or s.costs c 0) (get_or f.costs c 0) p.1)
    go false e k = absurd (omega arith)

pub final-mark : (f s : State) (c : ℕ) → Final f s c → mark f s c ≡ 1
unfolding mark
final-mark f s c p =
    rw (lt-ltb 0 (get_or s.ranks c 0) p.0, le-leb (get_or s.costs c 0) (get_or f.costs c 0) p.1)

pub mark-mono : (f s u : State) → Better s u → (c : ℕ) → mark f s c ≤ mark f u c
mark-mono f s u m c = go (dec_lt 0 (mark f s c))
  where
    go : Dec (0 < mark f s c) → mark f s c ≤ mark f u c
    go (yes h) =
        let p = mark-final f s c h in
        let q = m c p.0 in
        let e = final-mark f u c (q.0, omega arith) in
        omega (arith, mark-le-one f s c)
    go (no h) = omega arith

-- at f itself the marks are the classes with a cost
pub mark-le-given : (f : State) (c : ℕ) → mark f f c ≤ given (get_or f.ranks c 0)
unfolding given
mark-le-given f c = go (dec_lt 0 (mark f f c))
  where
    go : Dec (0 < mark f f c) → mark f f c ≤ cond (ltb 0 (get_or f.ranks c 0)) 1 0
    go (yes h) = let p = mark-final f f c h in rw (lt-ltb 0 (get_or f.ranks c 0) p.0) (mark-le-one f f c)
    go (no h) = omega arith

module _ (M : ℕ) (rows : List Row) (n : ℕ) (w : Within n rows) (f : State) (fixed : Fixed M rows f)
    (gf : Grounded M rows f)
    (edge : (c : ℕ) → 0 < get_or f.ranks c 0 → get_or f.costs c 0 < M → Exact M rows f c) where
  module _ (s : State) (z : Sized n s) (g : Grounded M rows s) (no_more : (c : ℕ) → Final f (pass M rows s) c
      → Final f s c) where
    served : (c : ℕ) (r : Row) → Has rows r → r.output ≡ c → AllPriced s.ranks r.children
        → row_cost M s.costs r ≤ get_or f.costs c 0 → Final f s c
    served c r m e k h =
        let d = pass-serves M rows n w s z r m k in
        let q = ap (λ (x : ℕ). get_or f.costs x 0) e in
        no_more c (subst (λ (x : ℕ). Final f (pass M rows s) x) e (d.0, omega arith))

    -- children that are final already
    children-final : (b : ℕ)
        → ((c : ℕ) → get_or f.ranks c 0 < b → 0 < get_or f.ranks c 0 → get_or f.costs c 0 < M → Final f s c)
        → (ks : List Child) → AllPriced f.ranks ks → AllLower b f.ranks ks → sum_of (child_cost f.costs) ks < M
        → AllPriced s.ranks ks × (sum_of (child_cost s.costs) ks ≤ sum_of (child_cost f.costs) ks)
    unfolding sum_of child_cost child_rank
    children-final b ih [] r l h = (tt, omega arith)
    children-final b ih (literal i ∷ ks) r l h =
        let q = children-final b ih ks r.1 l.1 (omega arith) in
        ((tt, q.0), omega arith)
    children-final b ih (class c ∷ ks) r l h =
        let a = ih c l.0 r.0 (omega arith) in
        let q = children-final b ih ks r.1 l.1 (omega arith) in
        ((a.0, q.0), omega arith)

    -- a class below saturation, by its rank in f
    cheap-final : (b c : ℕ) → get_or f.ranks c 0 < b → 0 < get_or f.ranks c 0 → get_or f.costs c 0 < M → Final f s c
    unfolding row_cost
    cheap-final zero c l k h = absurd (omega arith)
    cheap-final (suc b) c l k h =
        let e = edge c k h in
        let q = children-final (get_or f.ranks c 0) (λ d x. cheap-final b d (omega arith)) e.row.children
        e.all-priced
        e.lower (omega (arith, e.cost)) in
        served c e.row e.has e.output q.0 (omega (arith, e.cost))

    row-final : (c : ℕ) (r : Row) → Has rows r → r.output ≡ c → AllPriced s.ranks r.children
        → 0 < get_or f.ranks c 0 → Final f s c
    unfolding row_cost
    row-final c r m e k h = go (dec_lt (get_or f.costs c 0) M)
      where
        go : Dec (get_or f.costs c 0 < M) → Final f s c
        go (yes l) = cheap-final (suc (get_or f.ranks c 0)) c (omega arith) h l
        go (no l) = served c r m e k (omega arith)

    -- any class that is derived, by its tree
    mutual
      unfolding Derives

      tree-final : (t : Tree) (k : Child) → Derives rows t k → Priced s.ranks k
      tree-final (leaf i) (literal j) d = tt
      tree-final (leaf i) (class c) d = absurd d
      tree-final (node i t) (literal j) d = absurd d
      tree-final (node i t) (class c) d =
          (row-final c (row_at rows i) (i, d.0, refl) d.1 (forest-final t (row_at rows i).children d.2)
          (least-class M rows f fixed c (node i t) d).0).0

      forest-final : (t : Forest) (ks : List Child) → DeriveAll rows t ks → AllPriced s.ranks ks
      forest-final none [] d = tt
      forest-final none (k ∷ ks) d = absurd d
      forest-final (more t u) [] d = absurd d
      forest-final (more t u) (k ∷ ks) d = (tree-final t k d.0, forest-final u ks d.1)

    -- then s is a fixpoint itself
    pub fixed-when-no-more : Fixed M rows s
    unfolding row_cost
    fixed-when-no-more r m k =
        let t = ground-row M rows s g r m k in
        let b = least-class M rows f fixed r.output t.tree t.derives in
        let a = row-final r.output r m refl k b.0 in
        (a.0, omega (arith, t.cost, b.1, a.1, grounded-capped M rows f gf r.output b.0))
