-- `extract::variants` meets its contract: what is chosen is a refusal, or is answered. Assumes nothing.
use mathlib.Core.Path.{ap, sym}
use Rattle.std.proofs.lemmas.Result.{err_from_is_err_and}
use Rattle.term_rules.specs.WellFormed.{well_formed}
use Rattle.term_add.specs.Held.{held}
use Rattle.answer_rules.specs.Variants.{variants_at}
use Rattle.table_roots.proofs.ChosenLaws.{ranks-zero, told-refused}
use Rattle.extract.proofs.variants.Goals as goal

pub choose_rows-requires : goal.choose_rows-requires
choose_rows-requires c = ranks-zero 512

pub returns-in_err-root-clause-variants : goal.returns-in_err-root-clause-variants
returns-in_err-root-clause-variants c =
    let a = c.args in
    let d = c.choose_rows in
    let p = err_from_is_err_and c.from_residual.result c.from_residual.ensures.1 in
    rw (p.1, p.2)
    (told-refused d.result _ _ _ _ _ _ _ _ _ (d.ensures (held a.store.now) (ap well_formed (sym c.lent.ensures))) _
    c.in_err-root.was a.costs.now a.found.now)

pub answer_rows-requires : goal.answer_rows-requires
answer_rows-requires c =
    let a = c.args in
    record {
      told = variants_at a.file.now a.sort a.value a.most;
      is = rw c.in_ok-root.was at (c.choose_rows.ensures (held a.store.now) (ap well_formed (sym c.lent.ensures)));
    }

pub returns-clause-variants : goal.returns-clause-variants
returns-clause-variants c =
    let a = c.args in
    c.answer_rows.ensures.variants (variants_at a.file.now a.sort a.value a.most)
    (rw c.in_ok-root.was at (c.choose_rows.ensures (held a.store.now) (ap well_formed (sym c.lent.ensures))))
