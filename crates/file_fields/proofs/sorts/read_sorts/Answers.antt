-- `sorts::read_sorts` meets its contract: the sorts read so far stand in the arrays, and the rest of the reading is
-- that of the whole. Assumes nothing.
use mathlib.Core.Path.{sym, ap}
use native.Mathlib.Omega.{arith}
use Rattle.file_rules.specs.declared.Sorts.{Sorts}
use Rattle.file_rules.proofs.SortLaws.{sort-few}
use Rattle.file_fields.proofs.sorts.SortLaws.{sorts-start, sorts-more, sorts-refuse, sorts-end}
use Rattle.file_rules.proofs.ReadingLaws.{reads-got, reads-exit}
use Rattle.file_fields.proofs.sorts.read_sorts.Goals as goal

pub loop-i-init : goal.loop-i-init
loop-i-init c =
    let z = c.requires.sorts_value in
    sorts-start (ap (λ (x : Sorts). x.kinds) z) (ap (λ (x : Sorts). x.classes) z)

pub returns-in_err-x : goal.returns-in_err-x
returns-in_err-x c =
    let l = c.loop-i.invariant in
    reads-exit _ c.from_residual.ensures.1 (sorts-refuse l c.loop-i-test.true (sym c.in_err-x.ensures))

pub overflow_add-total : goal.overflow_add-total
overflow_add-total c =
    let l = c.loop-i.invariant in
    omega (arith, sort-few _ _ _ l.few (sym c.in_ok-x.ensures))

pub loop-i-preserved : goal.loop-i-preserved
loop-i-preserved c =
    let l = c.loop-i.invariant in
    sorts-more l c.requires.n_bound c.loop-i-test.true
    (sym c.in_ok-x.ensures)

pub returns : goal.returns
returns c =
    let l = c.loop-i.invariant in
    reads-got (sorts-end l c.loop-i-test.false) l.held
