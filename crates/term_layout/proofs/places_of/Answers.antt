-- `term_layout::places_of` meets its contract: the places are a part of the numbers. Assumes nothing.
use Prim.Native.Nat.{ℕ, ◌+◌, ◌*◌, ◌-◌}
use mathlib.Core.Path.{◌≡◌, ap}
use native.Mathlib.Omega.{arith}
use lib.ListN.{take, drop}
use Rattle.term_rules.specs.Lent.{width}
use Rattle.term_layout.proofs.places_of.Goals as goal

pub returns : goal.returns
returns c =
    let g = c.args in
    let e : g.i * width + 3 + 8 - (g.i * width + 3) ≡ 8 = omega arith in
    ap (λ (m : ℕ). take m (drop (g.i * width + 3) g.records.now)) e
