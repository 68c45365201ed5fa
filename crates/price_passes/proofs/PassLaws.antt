-- The loop over rows: those from the i-th on make the rest of the pass. Assumes nothing.
use mathlib.Core.Path.{◌≡◌, ap, sym, ◌∙◌}
use mathlib.Core.List.{List, ◌∷◌}
use Prim.Native.Nat.{ℕ, ◌+◌, ◌<◌, ◌≤◌}
use native.Mathlib.Omega.{arith}
use native.Mathlib.Numerals.{add-one}
use lib.ListN.{length, get_or, drop}
use lib.Seq.{drop-cons, drop-length}
use Rattle.choice_rules.specs.Rows.{Row, row_at, no_row}
use Rattle.choice_rules.specs.Run.{State, relax, pass}
use Rattle.choice_rules.proofs.RelaxLaws.{relax-last}
use Rattle.price_passes.specs.declared.flat.Rows.{Rows}
use Rattle.price_passes.specs.Flat.{top, row_of, part_of, flat_of}
use Rattle.price_passes.proofs.FlatLaws.{rows-length, rows_get}

pub rows_drop : (rows : List Row) (i : ℕ) → i < length rows → drop i rows ≡ row_at rows i ∷ drop (i + 1) rows
rows_drop rows i h = rw (add-one, drop-cons rows i no_row)

module _ (rows : List Row) where
  -- within a pass that began at s₀: the rows from the i-th on make the rest of it
  pub record WithinPass (s₀ s : State) (i : ℕ) : Type 0 where
    pub at : i ≤ length rows
    pub costs_length : length s.costs ≡ length s₀.costs
    pub ranks_length : length s.ranks ≡ length s₀.ranks
    pub low : s.last ≤ s₀.last + i
    pub rest : pass top (drop i rows) s ≡ pass top rows s₀

  pub pass-goes-on : (s₀ s t : State) (i : ℕ) → i < length rows → WithinPass s₀ s i → t ≡ relax top s (row_at rows i)
      → length t.costs ≡ length s.costs → length t.ranks ≡ length s.ranks → WithinPass s₀ t (i + 1)
  unfolding pass
  pass-goes-on s₀ s t i h v e lc lr = record {
    at = omega arith;
    costs_length = lc ∙ v.costs_length;
    ranks_length = lr ∙ v.ranks_length;
    low = omega (arith, v.low, (relax-last top s (row_at rows i)).1, ap (λ (u : State). u.last) e);
    rest = ap (λ (u : State). pass top (drop (i + 1) rows) u) e
        ∙ sym (ap (λ (l : List Row). pass top l s) (rows_drop rows i h)) ∙ v.rest;
  }

  pub pass-ends : (s₀ s : State) (i : ℕ) → length rows ≤ i → WithinPass s₀ s i → s ≡ pass top rows s₀
  unfolding pass
  pass-ends s₀ s i h v =
      let e : i ≡ length rows = omega (arith, v.at) in
      sym (ap (λ (l : List Row). pass top l s) (ap (λ (j : ℕ). drop j rows) e ∙ drop-length rows)) ∙ v.rest

module _ (r : Rows) where
  abbrev flat : List Row
  flat = flat_of r

  many : length flat ≡ length r.outputs.now
  many = rows-length r.outputs.now r.heads.now r.starts.now r.children.now

  module _ (s₀ s : State) (i : ℕ) (h : i < length r.outputs.now) (v : WithinPass flat s₀ s i) where
    -- what relaxing row i leaves
    pub flat-goes-on : (t : State)
        → t ≡ relax top s (row_of (get_or r.outputs.now i 0) (get_or r.heads.now i 0)
        (part_of r.starts.now r.children.now i))
        → length t.costs ≡ length s.costs → length t.ranks ≡ length s.ranks → WithinPass flat s₀ t (i + 1)
    flat-goes-on t e lc lr =
        pass-goes-on flat s₀ s t i (omega (arith, many)) v
        (e ∙ ap (λ (q : Row). relax top s q)
        (sym (rows_get r.outputs.now r.heads.now r.starts.now r.children.now i h))) lc lr

  pub flat-ends : (s₀ s : State) (i : ℕ) → length r.outputs.now ≤ i → WithinPass flat s₀ s i → s ≡ pass top flat s₀
  flat-ends s₀ s i h v = pass-ends flat s₀ s i (omega (arith, many)) v
