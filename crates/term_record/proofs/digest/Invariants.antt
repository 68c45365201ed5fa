-- `term_record::digest` meets its contract. The numbers are taken in order. Assumes nothing.
use Prim.Native.Nat.{◌<◌}
use mathlib.Core.Path.{◌≡◌}
use lib.ListN.{drop}
use Rattle.term_record.specs.Buckets.{digest_from}
use Rattle.term_record.proofs.digest.Given as goal

abbrev pub invariant-loop-x : goal.invariant-loop-x
invariant-loop-x l = (l.h < 1021) × (digest_from l.h (drop l.x-index l.s) ≡ digest_from l.start l.s)
