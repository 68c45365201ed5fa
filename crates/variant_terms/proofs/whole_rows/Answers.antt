-- `variant_terms::whole_rows` meets its contract. Where there is no room, the store is put back from what was saved:
-- past the saved places nothing can have changed. Assumes nothing.
use Prim.Native.Nat.{ℕ}
use mathlib.Core.Path.{refl, ap, ◌∙◌}
use lib.ListN.{length-replicate}
use lib.IntN.{pos}
use Rattle.term_rules.specs.Lent.{Store, records_length}
use Rattle.term_add.specs.Held.{held}
use Rattle.build.specs.Plan.{plan_in, children_of}
use Rattle.build.proofs.BuildingLaws.{tracks-of-zeros, stuck-beyond}
use Rattle.copies.proofs.CopiedLaws.{saved-back}
use Rattle.variant_terms.specs.Turned.{name_in}
use Rattle.build.proofs.AnswerLaws.{none_when}
use Rattle.variant_terms.proofs.WholeLaws.{whole-of-some, whole-of-full}
use Rattle.variant_terms.proofs.whole_rows.Goals as goal

pub all_rows-made-requires : goal.all_rows-made-requires
all_rows-made-requires c =
    let a = c.args in
    record {
      list_ready = record {
        rank = c.requires.whole_ready.rank;
        builder =
            record {
              planned = c.requires.whole_ready.steady.planned;
              inside = λ k l. rw (length-replicate {A = ℕ} 512 0) (c.requires.whole_ready.steady.inside k l);
              tracks =
                  tracks-of-zeros (plan_in a.plan.now) 512 _
                  c.requires.whole_ready.steady.formed;
            };
        listed = c.requires.whole_ready.listed;
      };
      list_in_bounds = c.requires.list_in_bounds;
    }

pub returns-then-is_none-clause-whole : goal.returns-then-is_none-clause-whole
returns-then-is_none-clause-whole c =
    let a = c.args in
    let b = c.all_rows-made in
    let s : Store = held a.store.now in
    let h = none_when b.result c.is_none.ensures c.if-is_none.true in
    let e = rw h at b.ensures.made in
    let k = stuck-beyond e.stuck in
    rw h (whole-of-full (plan_in a.plan.now) a.ranks.now
    (name_in a.plan.now.labels.now a.plan.now.rows.now) (children_of a.plan.now.rows.now a.plan.now.values.now)
    a.list.now s _ _ _ _ e _
    (λ long.
    let er =
    rw (c.over.ensures, ap (λ (s : Store). s.records) c.lent-old.ensures) at c.over-then-is_none.ensures
    ∙ saved-back (records_length 1024) 0 s.records b.new.store.records.now long.records k.records in
    let el =
    rw (c.over-2.ensures, ap (λ (s : Store). s.literals) c.lent-old.ensures) at c.over-then-is_none-2.ensures
    ∙ saved-back 1024 (pos 0) s.literals b.new.store.literals.now long.literals k.literals in
    let en =
    rw (c.over-3.ensures, ap (λ (s : Store). s.names) c.lent-old.ensures) at c.over-then-is_none-3.ensures
    ∙ saved-back 4096 0 s.names b.new.store.names.now long.names k.names in
    rw (er, el, en) refl))

pub returns-else-is_none-clause-whole : goal.returns-else-is_none-clause-whole
returns-else-is_none-clause-whole c =
    let a = c.args in
    whole-of-some (plan_in a.plan.now) a.ranks.now
    (name_in a.plan.now.labels.now a.plan.now.rows.now) (children_of a.plan.now.rows.now a.plan.now.values.now)
    a.list.now (held a.store.now) _ _ _ _ c.is_none.ensures c.if-is_none.false
    c.all_rows-made.ensures.made
