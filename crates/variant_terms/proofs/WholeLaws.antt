-- Laws on the rows as one call. Assumes nothing.
use Prim.Native.Nat.{ℕ}
use mathlib.Core.Path.{◌≡◌, sym, ap, ◌∙◌}
use mathlib.Core.Bool.{Bool, false, not}
use mathlib.Core.List.{List}
use Rattle.std.specs.Prelude.{Option, Some, None}
use Rattle.std.specs.Option.{is_some}
use lib.IntN.{ℤ}
use lib.ListN.{replicate}
use Rattle.term_rules.specs.Lent.{Store}
use Rattle.build.specs.Plan.{Child, Plan}
use Rattle.build.specs.Building.{State, state, done, full}
use Rattle.build.proofs.LongLaws.{Long}
use Rattle.variant_terms.proofs.LongLaws.{full-rows-long}
use Rattle.variant_terms.specs.Turned.{seen_all, seen_wholly, RowsMade, whole, nothing, wholly, RowsWhole}

no_both : {b : Bool} → false ≡ not b → b ≡ false → ⊥
no_both h e = cc (ap not e)

module _
    (p : Plan) (ranks : List ℕ) (name : ℕ → List ℕ) (kids : ℕ → List Child) (rows : List ℕ) (s : Store) where
  whole-of-done :
      (ts : List ℕ) (s' : State) →
      RowsMade p ranks name kids rows (state (replicate 512 0) s) (done ts s') →
      RowsWhole p ranks name kids rows s (whole ts s'.lent)
  unfolding wholly
  whole-of-done ts s' m = λ d deep. ap (wholly s) (m.same d deep)

  pub whole-of-some :
      (a : Option Unit) (ts me : List ℕ) (s' : Store) {b : Bool} →
      is_some a ≡ not b →
      b ≡ false →
      RowsMade p ranks name kids rows (state (replicate 512 0) s) (seen_all a ts me s') →
      RowsWhole p ranks name kids rows s (seen_wholly a ts s')
  whole-of-some (Some u) ts me s' h e r = whole-of-done ts _ r
  whole-of-some None ts me s' h e r = absurd (no_both h e)

  -- the store is as it was
  pub whole-of-full :
      (me rs : List ℕ) (ls : List ℤ) (ns : List ℕ) →
      RowsMade p ranks name kids rows (state (replicate 512 0) s) (full me rs ls ns) →
      (s' : Store) →
      (Long s rs ls ns → s' ≡ s) →
      RowsWhole p ranks name kids rows s (nothing s')
  unfolding wholly
  whole-of-full me rs ls ns m s' back = λ d deep.
      ap (wholly s) (m.same d deep)
      ∙ ap nothing (sym (back (full-rows-long p d name kids rows (state (replicate 512 0) s) (m.same d deep))))
