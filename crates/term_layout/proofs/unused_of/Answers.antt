-- `term_layout::unused_of` meets its contract: what stands past the children ends with the places. Assumes nothing.
use Prim.Native.Nat.{ℕ, ◌+◌, ◌*◌, ◌-◌}
use mathlib.Core.Path.{◌≡◌, sym, ap, ◌∙◌}
use native.Mathlib.Omega.{arith}
use lib.ListN.{take, drop}
use lib.Seq.{drop-drop}
use Rattle.term_rules.specs.Lent.{width, arity_at}
use Rattle.term_rules.proofs.ListLaws.{drop-take}
use Rattle.term_layout.proofs.unused_of.Goals as goal

pub returns : goal.returns
returns c =
    let g = c.args in
    let n : ℕ = arity_at g.records.now g.i in
    let e : g.i * width + 3 + 8 - (g.i * width + 3 + n) ≡ 8 - n = omega arith in
    rw c.count_of.ensures
    (ap (λ (m : ℕ). take m (drop (g.i * width + 3 + n) g.records.now)) e
    ∙ sym (drop-take n 8 (drop (g.i * width + 3) g.records.now)
    ∙ ap (take (8 - n)) (drop-drop n (g.i * width + 3) g.records.now)))
