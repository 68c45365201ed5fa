-- `program::put_chosen` meets its contract: the answer's refusal, or the texts of what it kept. Assumes nothing.
use mathlib.Core.Path.{ap, ◌∙◌}
use lib.ListN.{length}
use Rattle.std.proofs.lemmas.Result.{err_from_is_err_and}
use Rattle.refusal.specs.Answer.{value}
use Rattle.term_rules.specs.Lent.{Store}
use Rattle.answer_rules.specs.Variants.{variants_at}
use Rattle.program_rules.specs.Reply.{variants_text, in_room, put_in}
use Rattle.program.proofs.CallLaws.{start}
use Rattle.program.proofs.VariantLaws.{start-formed, variants-refused, variants_kept, variants-return}
use Rattle.program.proofs.put_chosen.Goals as goal

pub answer_rows-requires : goal.answer_rows-requires
answer_rows-requires c =
    let r = c.requires in
    record { told = variants_at r.file r.sort r.value r.most; is = r.is start start-formed }

pub read-requires : goal.read-requires
read-requires c =
    let r = c.requires in
    (variants-return r.file r.sort r.value r.most _ _ _ c.answer_rows.new.costs c.answer_rows.new.found
    (c.in_ok-kept.ensures.variants (variants_at r.file r.sort r.value r.most) (r.is start start-formed))).0

pub put-requires : goal.put-requires
put-requires c =
    let r = c.requires in
    let all-asked = variants-return r.file r.sort r.value r.most _ _ _ c.answer_rows.new.costs c.answer_rows.new.found
    (c.in_ok-kept.ensures.variants (variants_at r.file r.sort r.value r.most) (r.is start start-formed)) in
    let n = ap (λ (s : Store). s.terms) c.read.ensures in
    record { within = rw (← n) at all-asked.1 }

pub returns-in_err-kept : goal.returns-in_err-kept
returns-in_err-kept c file sort v most h =
    let p = err_from_is_err_and c.from_residual.result c.from_residual.ensures.1 in
    rw (p.1, p.2)
    (variants-refused file sort v most c.args.out.now _ _ c.answer_rows.new.costs c.answer_rows.new.found
    (c.in_err-kept.ensures.variants (variants_at file sort v most) (h start start-formed)))

pub returns : goal.returns
returns c file sort v most h =
    let g = c.args in
    let k = c.in_ok-kept.kept in
    let paid = c.answer_rows.new.costs in
    let found = c.answer_rows.new.found in
    variants_kept file sort v most g.out.now _ _ _ paid found c.put.result c.put.new.out
    (c.in_ok-kept.ensures.variants (variants_at file sort v most) (h start start-formed))
    (c.put.ensures
    ∙ ap (λ (s : Store). put_in (in_room (length g.out.now) (value (variants_text s paid found k.count k.passes))) g.out.now)
    c.read.ensures)
