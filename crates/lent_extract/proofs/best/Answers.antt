-- `lent_extract::best` meets its contract: the store is copied, `extract::best` does the work, and the records and the
-- entries are put back. Assumes nothing.
use Rattle.term_rules.specs.Lent.{Store}
use Rattle.lent.proofs.LeftLaws.{left-names}
use Rattle.answer_rules.specs.Answers.{After}
use Rattle.answer_rules.specs.Best.{BestTerm, best_at}
use Rattle.lent_extract.specs.Counted.{seen_chosen}
use Rattle.lent_extract.proofs.LeftLaws.{best-faithful, lent-left}
use Rattle.lent_extract.proofs.best.Goals as goal

pub returns : goal.returns
returns c =
    let g = c.args in
    let call = c.best-best in
    lent-left
    (left-names (After BestTerm) (λ a. a.store) (λ rs ls bs. seen_chosen call.result rs ls bs g.terms g.symbols)
    (best-faithful call.result g.terms g.symbols) g.ts.now c.unload.new.ts g.ns.now c.unload_names.new.ns
    c.copy_of.new.copy g.terms g.symbols (λ (s : Store). best_at g.file.now g.sort g.value s) call.new.records
    call.new.literals call.new.names c.copy_of.ensures call.auto.records call.auto.literals call.auto.names
    call.ensures c.unload.ensures c.unload_names.ensures)
