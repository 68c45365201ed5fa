-- `term::add_literal` meets its contract. The tests, and then the literal is interned. Assumes nothing.
use mir.Syntax.{w64}
use mir.ValLaws.{to_z-of_z}
use Rattle.std.proofs.lemmas.Result.{err_from_is_err_and}
use Rattle.std.specs.Prelude.{Some, None}
use Rattle.term_rules.specs.Lent.{store}
use Rattle.term_rules.specs.Nodes.{literal}
use Rattle.term.specs.Calls.{literal_faults, add_literal}
use Rattle.term.proofs.CallLaws.{adding-refuses, adding-told}
use Rattle.term.proofs.add_literal.Goals as goal

pub returns-in_err-check_store : goal.returns-in_err-check_store
unfolding add_literal
returns-in_err-check_store c =
    let g = c.args in
    let s = store g.records.now g.literals.now g.names.now g.terms g.symbols in
    let p = err_from_is_err_and c.from_residual.result c.from_residual.ensures.1 in
    rw (p.1, p.2) (adding-refuses s (literal g.literal) (literal_faults s) _ c.in_err-check_store.ensures.faults)

pub returns-in_default : goal.returns-in_default
unfolding add_literal
returns-in_default c =
    let g = c.args in
    let s = store g.records.now g.literals.now g.names.now g.terms g.symbols in
    adding-told s (literal g.literal) (literal_faults s) (None) _ _ _ c.in_ok-check_store.ensures.faults
    (rw (to_z-of_z w64 g.literal c.ranges.literal, c.in_default.is) at c.intern_literal.ensures)

pub returns : goal.returns
unfolding add_literal
returns c =
    let g = c.args in
    let s = store g.records.now g.literals.now g.names.now g.terms g.symbols in
    adding-told s (literal g.literal) (literal_faults s) (Some _) _ _ _ c.in_ok-check_store.ensures.faults
    (rw (to_z-of_z w64 g.literal c.ranges.literal, c.in-Some.is) at c.intern_literal.ensures)
