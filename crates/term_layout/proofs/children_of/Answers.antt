-- `term_layout::children_of` meets its contract: the children are a part of the numbers. Assumes nothing.
use Prim.Native.Nat.{ℕ, ◌+◌, ◌*◌, ◌-◌}
use mathlib.Core.Path.{◌≡◌, sym, ap, ◌∙◌}
use native.Mathlib.Omega.{arith}
use lib.ListN.{take, drop}
use lib.Seq.{take-take}
use Rattle.term_rules.specs.Lent.{width, arity_at}
use Rattle.term_layout.proofs.children_of.Goals as goal

pub returns : goal.returns
returns c =
    let g = c.args in
    let n : ℕ = arity_at g.records.now g.i in
    let e : g.i * width + 3 + n - (g.i * width + 3) ≡ n = omega arith in
    rw c.count_of.ensures
    (ap (λ (m : ℕ). take m (drop (g.i * width + 3) g.records.now)) e
    ∙ sym (take-take n 8 (drop (g.i * width + 3) g.records.now) c.requires.i_bound))
