-- `program::variants_of` meets its contract: the refusal of what is chosen, or the texts of it. Assumes nothing.
use mathlib.Core.Path.{sym, ◌∙◌}
use lib.ListN.{replicate}
use Rattle.std.proofs.lemmas.Result.{err_from_is_err_and}
use Rattle.table_roots.proofs.ChosenLaws.{ranks-zero, told-refused}
use Rattle.program.proofs.CallLaws.{start}
use Rattle.program.proofs.VariantLaws.{start-formed, none-formed, variants-refused}
use Rattle.program.proofs.variants_of.Goals as goal

pub choose_rows-requires : goal.choose_rows-requires
choose_rows-requires c = ranks-zero 512

pub returns-in_err-root : goal.returns-in_err-root
returns-in_err-root c =
    let g = c.args in
    let d = c.choose_rows in
    let p = err_from_is_err_and c.from_residual.result c.from_residual.ensures.1 in
    rw (p.1, p.2)
    (variants-refused g.file.now g.sort g.value g.most g.out.now _ start (replicate 256 0) (replicate 256 0)
    (told-refused d.result _ _ _ _ _ _ _ _ _ (d.ensures start (start-formed ∙ sym (none-formed _ _ _))) _
    c.in_err-root.was (replicate 256 0) (replicate 256 0)))

pub put_chosen-requires : goal.put_chosen-requires
put_chosen-requires c =
    let g = c.args in
    record {
      file = g.file.now;
      sort = g.sort;
      value = g.value;
      most = g.most;
      is = λ s f. rw c.in_ok-root.was at (c.choose_rows.ensures s (f ∙ sym (none-formed _ _ _)));
    }

pub returns : goal.returns
returns c =
    let g = c.args in
    c.put_chosen.ensures g.file.now g.sort g.value g.most
    (λ s f. rw c.in_ok-root.was at (c.choose_rows.ensures s (f ∙ sym (none-formed _ _ _))))
