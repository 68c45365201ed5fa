-- `name::padding_of` meets its contract: what stands past a name ends with its entry. Assumes nothing.
use Prim.Native.Nat.{ℕ, ◌+◌, ◌*◌, ◌-◌}
use mathlib.Core.Path.{◌≡◌, ap}
use native.Mathlib.Omega.{arith}
use lib.ListN.{take, drop}
use Rattle.name.specs.Entries.{length_at}
use Rattle.name.proofs.padding_of.Goals as goal

pub returns : goal.returns
returns c =
    let g = c.args in
    let n : ℕ = length_at g.table.now g.k in
    let e : g.k * 32 + 32 - (g.k * 32 + 1 + n) ≡ 31 - n = omega arith in
    rw c.length_of.ensures (ap (λ (m : ℕ). take m (drop (g.k * 32 + 1 + n) g.table.now)) e)
