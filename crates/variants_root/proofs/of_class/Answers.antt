-- `variants_root::of_class` meets its contract: what is chosen of the class answers as the definition says. Assumes
-- nothing.
use mathlib.Core.Path.{refl, ap, sym}
use lib.Seq.{length-take-le}
use Rattle.std.proofs.lemmas.Result.{err_from_is_err_and}
use Rattle.price.proofs.ZeroLaws.{take-zeros-length, blank-lists}
use Rattle.term_rules.specs.WellFormed.{well_formed}
use Rattle.term_add.specs.Held.{held}
use Rattle.variants_root.proofs.PicksLaws.{some-few, laid-of-some, picks-of-table, refused-of-table}
use Rattle.variants_root.proofs.of_class.Goals as goal

pub choose_class-requires-clause-table : goal.choose_class-requires-clause-table
choose_class-requires-clause-table c =
    laid-of-some c.requires _ (take-zeros-length c.args.w 512 (some-few c.requires))

pub choose_class-requires-clause-ranks_zero : goal.choose_class-requires-clause-ranks_zero
choose_class-requires-clause-ranks_zero c = (blank-lists c.args.w 512 _ refl (some-few c.requires)).fresh.ranks_zero

pub returns-in_err-choice-clause-variants : goal.returns-in_err-choice-clause-variants
returns-in_err-choice-clause-variants c t root v =
    let a = c.args in
    let p = err_from_is_err_and c.from_residual.result c.from_residual.ensures.1 in
    rw (p.1, p.2)
    (refused-of-table t root v _ (take-zeros-length a.w 512 (some-few c.requires)) _ _ _ _ _ _ _ _
    c.choose_class.ensures (held a.store.now) (ap well_formed (sym c.lent.ensures)) _ c.in_err-choice.was a.paid.now
    a.found.now)

pub slice_bounds-list-end : goal.slice_bounds-list-end
slice_bounds-list-end c =
    let r = c.requires in
    let p =
    picks-of-table r.table r.root r.is _ (take-zeros-length c.args.w 512 (some-few r)) _ _ _ _ _ _ _ _
    c.choose_class.ensures (held c.args.store.now) (ap well_formed (sym c.lent.ensures)) _ c.in_ok-choice.was in
    p.room

pub slice_bounds-answer-end-2 : goal.slice_bounds-answer-end-2
slice_bounds-answer-end-2 c =
    let r = c.requires in
    let p =
    picks-of-table r.table r.root r.is _ (take-zeros-length c.args.w 512 (some-few r)) _ _ _ _ _ _ _ _
    c.choose_class.ensures (held c.args.store.now) (ap well_formed (sym c.lent.ensures)) _ c.in_ok-choice.was in
    sym (length-take-le c.in_ok-choice.choice.count c.choose_class.new.list p.room)

pub answer-requires : goal.answer-requires
answer-requires c =
    let r = c.requires in
    let p =
    picks-of-table r.table r.root r.is _ (take-zeros-length c.args.w 512 (some-few r)) _ _ _ _ _ _ _ _
    c.choose_class.ensures (held c.args.store.now) (ap well_formed (sym c.lent.ensures)) _ c.in_ok-choice.was in
    p.ready

pub returns-clause-variants : goal.returns-clause-variants
returns-clause-variants c t root v =
    let a = c.args in
    let p =
    picks-of-table t root v _ (take-zeros-length a.w 512 (some-few c.requires)) _ _ _ _ _ _ _ _
    c.choose_class.ensures (held a.store.now) (ap well_formed (sym c.lent.ensures)) _ c.in_ok-choice.was in
    p.answers a.paid.now a.found.now _ c.answer.ensures.variants
