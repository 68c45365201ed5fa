-- `lent_terms::add_variable` meets its contract: the store is copied, `term::add_variable` does the work, and the records
-- and the entries are put back. Assumes nothing.
use Rattle.term_rules.specs.Lent.{Store}
use Rattle.term.specs.Calls.{add_variable}
use Rattle.lent_terms.proofs.AddedLaws.{added-names}
use Rattle.lent_terms.proofs.add_variable.Goals as goal

pub returns : goal.returns
returns c =
    let g = c.args in
    let call = c.variable_added-added in
    added-names g.ts.now c.unload.new.ts g.ns.now c.copy_of.new.copy g.terms g.symbols (λ (s : Store). add_variable s g.name.now)
    call.result call.new.records call.new.literals c.copy_of.ensures call.auto.records call.auto.literals
    c.unload.ensures call.new.names c.unload_names.new.ns call.auto.names c.unload_names.ensures call.ensures
