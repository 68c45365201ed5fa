-- `lent_terms::add_application` meets its contract: the store is copied, `term::add_application` does the work, and the records
-- and the entries are put back. Assumes nothing.
use Rattle.term_rules.specs.Lent.{Store}
use Rattle.term.specs.Calls.{add_application}
use Rattle.lent_terms.proofs.AddedLaws.{added-names}
use Rattle.lent_terms.proofs.add_application.Goals as goal

pub returns : goal.returns
returns c =
    let g = c.args in
    let call = c.application_added-added in
    added-names g.ts.now c.unload.new.ts g.ns.now c.copy_of.new.copy g.terms g.symbols (λ (s : Store). add_application s g.name.now g.children.now)
    call.result call.new.records call.new.literals c.copy_of.ensures call.auto.records call.auto.literals
    c.unload.ensures call.new.names c.unload_names.new.ns call.auto.names c.unload_names.ensures call.ensures
