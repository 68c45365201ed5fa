-- `pack::narrow` meets its contract: one number more is as it was. Assumes nothing.
use mathlib.Core.Path.{◌≡◌}
use lib.ListN.{take}
use Rattle.table_layout.proofs.pack.narrow.Given as goal

abbrev pub invariant-loop-j : goal.invariant-loop-j
invariant-loop-j l = take l.j l.to ≡ take l.j l.from
