-- `file_rows::read_row` meets its contract: each `return` is a law of `row_in`. Assumes nothing.
use Prim.Native.Nat.{ℕ}
use mathlib.Core.List.{List}
use mathlib.Core.Path.{refl, sym}
use native.Mathlib.Omega.{arith}
use Rattle.bits.proofs.FieldLaws.{field-read}
use Rattle.file_rules.proofs.ReadingLaws.{reads-via, reads-refused, reads-exit}
use Rattle.file_rows.proofs.RowLaws.{row-refused, row-none, row_cut, row_from}
use Rattle.file_rows.proofs.read_row.Goals as goal

pub returns-in_err-f : goal.returns-in_err-f
returns-in_err-f c =
    reads-exit _ c.from_residual.ensures.1 (row-refused _ _ _ _ _ _ _ _ _
    (sym c.in_err-f.ensures))

pub returns-then-count-f : goal.returns-then-count-f
returns-then-count-f c =
    reads-refused (row-none _ _ _ _ _ _ _ _ _
    (sym c.in_ok-f.ensures) c.if-count-f.true)

pub read-requires-2-clause-width_bound : goal.read-requires-2-clause-width_bound
read-requires-2-clause-width_bound c =
    let k = field-read _ _ 7 (sym c.in_ok-f.ensures) in
    omega (arith, k.end, c.requires.at_bound)

pub returns-in_err-bit : goal.returns-in_err-bit
returns-in_err-bit c =
    reads-exit _ c.from_residual-in_err-bit.ensures.1 (row_cut _ _ _ _ _ _ _ _ _ (sym c.in_ok-f.ensures)
    c.if-count-f.false
    (sym c.in_err-bit.ensures))

pub read_cells-requires-clause-at_bound : goal.read_cells-requires-clause-at_bound
read_cells-requires-clause-at_bound c =
    let k = field-read _ _ 7 (sym c.in_ok-f.ensures) in
    let m = field-read _ _ 1 (sym c.in_ok-bit.ensures) in
    omega (arith, k.end, m.end, c.requires.at_bound)

pub read_cells-requires-clause-f_bound : goal.read_cells-requires-clause-f_bound
read_cells-requires-clause-f_bound c = (field-read _ _ 7 (sym c.in_ok-f.ensures)).small

pub returns : goal.returns
returns c =
    reads-via (λ (cells : List ℕ). record { function = _; subsumed = _; cells = cells })
    (row_from _ _ _ _ _ _ _ _ _ (sym c.in_ok-f.ensures)
    c.if-count-f.false
    (sym c.in_ok-bit.ensures))
    c.read_cells.ensures
    (λ cells k e g. record { functions_put = refl; subsumed_put = refl; cells_put = g.put })
