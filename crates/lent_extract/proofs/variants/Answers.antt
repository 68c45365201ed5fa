-- `lent_extract::variants` meets its contract: the store is copied, `extract::variants` does the work, and the records
-- and the entries are put back. Assumes nothing.
use Rattle.term_rules.specs.Lent.{Store}
use Rattle.lent.proofs.LeftLaws.{left-names}
use Rattle.answer_rules.specs.Variants.{VariantsAfter, variants_at}
use Rattle.variant_answers.specs.Kept.{lending}
use Rattle.lent_extract.specs.Counted.{seen_varied}
use Rattle.lent_extract.proofs.LeftLaws.{variants-faithful, lent-left}
use Rattle.lent_extract.proofs.variants.Goals as goal

pub returns : goal.returns
returns c =
    let g = c.args in
    let call = c.variants-kept in
    lent-left
    (left-names VariantsAfter (λ a. a.store)
    (λ rs ls bs. seen_varied call.result g.terms g.symbols rs ls bs call.new.costs call.new.found)
    (variants-faithful call.result g.terms g.symbols call.new.costs call.new.found) g.ts.now c.unload.new.ts g.ns.now
    c.unload_names.new.ns c.copy_of.new.copy g.terms g.symbols
    (λ (s : Store). variants_at g.file.now g.sort g.value g.most (lending s g.costs.now g.found.now)) call.new.records
    call.new.literals call.new.names c.copy_of.ensures call.auto.records call.auto.literals call.auto.names
    call.ensures c.unload.ensures c.unload_names.ensures)
