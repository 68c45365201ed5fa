-- `queries::ask` meets its contract: field by field, the first fault decides. Assumes nothing.
use Rattle.std.proofs.lemmas.Bool.{eq-eqb, ne_eqb}
use Rattle.file_rules.proofs.ReadingLaws.{exit-is}
use Rattle.program_rules.proofs.queries.QueryLaws.{no_mode, bad-mode, no-sort, no_value, no-count, whole-query}
use Rattle.program_rules.proofs.queries.ask.Goals as goal

pub returns-in_err-mode : goal.returns-in_err-mode
returns-in_err-mode c =
    rw (exit-is _ c.from_residual.ensures.1) (no_mode c.args.input.now _ c.in_err-mode.ensures)

pub returns-then-mode-eq3 : goal.returns-then-mode-eq3
returns-then-mode-eq3 c =
    bad-mode c.args.input.now _ _ c.in_ok-mode.ensures (eq-eqb _ 3 c.if-mode-eq3.true)

pub returns-in_err-sort : goal.returns-in_err-sort
returns-in_err-sort c =
    rw (exit-is _ c.from_residual-in_err-sort.ensures.1)
    (no-sort c.args.input.now _ _ c.in_ok-mode.ensures (ne_eqb _ 3 c.if-mode-eq3.false) _ c.in_err-sort.ensures)

pub returns-in_err-value : goal.returns-in_err-value
returns-in_err-value c =
    rw (exit-is _ c.from_residual-in_err-value.ensures.1)
    (no_value c.args.input.now _ _ c.in_ok-mode.ensures (ne_eqb _ 3 c.if-mode-eq3.false) _ _ c.in_ok-sort.ensures _
    c.in_err-value.ensures)

pub returns-in_err-most : goal.returns-in_err-most
returns-in_err-most c =
    rw (exit-is _ c.from_residual-in_err-most.ensures.1)
    (no-count c.args.input.now _ _ c.in_ok-mode.ensures (ne_eqb _ 3 c.if-mode-eq3.false) _ _ c.in_ok-sort.ensures _ _
    c.in_ok-value.ensures _ c.in_err-most.ensures)

pub returns : goal.returns
returns c =
    whole-query c.args.input.now _ _ c.in_ok-mode.ensures (ne_eqb _ 3 c.if-mode-eq3.false) _ _ c.in_ok-sort.ensures _ _
    c.in_ok-value.ensures _ _ c.in_ok-most.ensures
