-- `sorts::read_sort` meets its contract: each `return` is a law of `sort_at`. Assumes nothing.
use mathlib.Core.Path.{sym}
use native.Mathlib.Omega.{arith}
use Rattle.bits.proofs.FieldLaws.{field-read}
use Rattle.file_rules.proofs.ReadingLaws.{exit-is}
use Rattle.file_fields.proofs.sorts.SortLaws.{sort-refused, sort-base, sort-count-refused, sort-large, sort-eq}
use Rattle.file_fields.proofs.sorts.read_sort.Goals as goal

pub returns-in_err-kind : goal.returns-in_err-kind
returns-in_err-kind c =
    rw (exit-is _ c.from_residual.ensures.1) (sym (sort-refused _ _ _ (sym c.in_err-kind.ensures)))

pub returns-then-kind-eq0 : goal.returns-then-kind-eq0
returns-then-kind-eq0 c =
    sym (sort-base _ _ _ (sym c.in_ok-kind.ensures) c.if-kind-eq0.true)

pub read-requires-2-clause-width_bound : goal.read-requires-2-clause-width_bound
read-requires-2-clause-width_bound c =
    let k = field-read _ _ 1 (sym c.in_ok-kind.ensures) in
    omega (arith, k.end, c.requires.at_bound)

pub returns-in_err-n : goal.returns-in_err-n
returns-in_err-n c =
    rw (exit-is _ c.from_residual-in_err-n.ensures.1)
    (sym (sort-count-refused _ _ _ (sym c.in_ok-kind.ensures) c.if-kind-eq0.false
    (sym c.in_err-n.ensures)))

pub overflow_add-total : goal.overflow_add-total
overflow_add-total c =
    let k = field-read _ _ 10 (sym c.in_ok-n.ensures) in
    omega (arith, k.small, c.requires.total_bound)

pub returns-then-total-n-gt512 : goal.returns-then-total-n-gt512
returns-then-total-n-gt512 c =
    sym (sort-large _ _ _ (sym c.in_ok-kind.ensures)
    c.if-kind-eq0.false
    (sym c.in_ok-n.ensures) c.if-total-n-gt512.true)

pub returns : goal.returns
returns c =
    sym (sort-eq _ _ _ (sym c.in_ok-kind.ensures)
    c.if-kind-eq0.false
    (sym c.in_ok-n.ensures) (omega arith))
