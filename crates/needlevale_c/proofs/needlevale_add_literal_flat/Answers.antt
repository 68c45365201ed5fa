-- `needlevale_add_literal_flat` meets its contract: a term's number, or the refusal's number below zero. Assumes
-- nothing.
use Rattle.std.proofs.Common.{◌∙◌, ◌<◌, arith, Ok, Err}
use mir.Syntax.{w64}
use mir.ValLaws.{to_z-of_z, to_z_pos}
use borrow.Author.Rules.{sfits_of}
use Rattle.term_rules.specs.Lent.{store}
use Rattle.needlevale_c.proofs.CodedLaws.{term-within, adds}
use Rattle.needlevale_c.proofs.needlevale_add_literal_flat.Goals as goal

pub overflow_cast-result : goal.overflow_cast-result
overflow_cast-result c =
    let g = c.args in
    let l : c.in-Ok.added.term < 1024 =
    term-within (store g.records.now g.literals.now g.names.now g.terms g.symbols) g.value c.add_literal.new.records
    c.add_literal.new.literals g.names.now g.terms g.symbols c.in-Ok.added
    (rw (to_z-of_z w64 g.value c.ranges.value) at c.in-Ok.ensures) in
    sfits_of (omega arith)

pub returns-in-Ok : goal.returns-in-Ok
returns-in-Ok c =
    let g = c.args in
    let lent = store g.records.now g.literals.now g.names.now g.terms g.symbols in
    let l : c.in-Ok.added.term < 1024 =
    term-within lent g.value c.add_literal.new.records c.add_literal.new.literals g.names.now g.terms g.symbols
    c.in-Ok.added (rw (to_z-of_z w64 g.value c.ranges.value) at c.in-Ok.ensures) in
    adds lent g.value c.add_literal.new.records c.add_literal.new.literals g.names.now g.terms g.symbols
    (Ok c.in-Ok.added) _ (rw (to_z-of_z w64 g.value c.ranges.value) at c.in-Ok.ensures) (to_z_pos w64 c.in-Ok.added.term (omega arith))

pub returns-in-Err : goal.returns-in-Err
returns-in-Err c =
    let g = c.args in
    adds (store g.records.now g.literals.now g.names.now g.terms g.symbols) g.value c.add_literal.new.records
    c.add_literal.new.literals g.names.now g.terms g.symbols (Err c.in-Err.r) _
    (rw (to_z-of_z w64 g.value c.ranges.value) at c.in-Err.ensures)
    (to_z-of_z w64 c.below_zero.result (record { sfits = c.below_zero.type_inv }) ∙ c.below_zero.ensures)
