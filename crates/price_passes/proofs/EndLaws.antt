-- What a run over flat rows keeps: the promises of the crate `choice_rules`, at 2^64-1. Assumes nothing.
use mathlib.Core.Path.{◌≡◌, ap}
use mathlib.Core.List.{List}
use Prim.Native.Nat.{ℕ}
use Rattle.choice_rules.specs.Rows.{Row}
use Rattle.choice_rules.specs.Run.{Run, run}
use Rattle.choice_rules.specs.Promises.{Promises, ended}
use Rattle.choice_rules.proofs.Promises.{promises}
use Rattle.price_passes.specs.Flat.{top, rows_of, FlatOk, state_of, ran_to}
use Rattle.price_passes.proofs.FlatLaws.{rows-within}

module _ (n : ℕ) (outputs heads starts children : List ℕ) where
  abbrev flat : List Row
  flat = rows_of outputs heads starts children

  -- the lists that `repeat` leaves are the state of the run
  pub ended_is : (costs ranks : List ℕ) (last passes : ℕ) → ran_to costs ranks last passes ≡ run top flat n
      → state_of costs ranks last ≡ ended top flat n
  ended_is costs ranks last passes e = ap (λ (r : Run). r.state) e

  module _ (ok : FlatOk n outputs heads starts children) where
    pub flat-promises : Promises top flat n (rows-within outputs heads starts children n ok)
    flat-promises = promises top flat n (rows-within outputs heads starts children n ok)
