-- `name::find` meets its contract. The entries are passed in order. Assumes nothing.
use Prim.Native.Nat.{◌-◌}
use mathlib.Core.Path.{◌≡◌}
use Rattle.name.specs.Entries.{find_from, find_name}
use Rattle.name.proofs.find.Given as goal

abbrev pub invariant-loop-k : goal.invariant-loop-k
invariant-loop-k l = find_from l.table l.name l.k (l.n - l.k) ≡ find_name l.table l.n l.name
