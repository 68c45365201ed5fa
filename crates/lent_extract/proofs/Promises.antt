-- The promises of the crate `lent_extract` hold. Assumes nothing.
use mathlib.Core.Path.{ap, sym, subst, ◌∙◌}
use Rattle.lent.specs.Records.{lent_store}
use Rattle.answer_rules.specs.Answers.{After}
use Rattle.answer_rules.specs.Best.{BestTerm}
use Rattle.answer_rules.specs.Variants.{VariantsAfter, Lending, variants_at}
use Rattle.variant_answers.specs.Kept.{lending}
use Rattle.extract.proofs.Promises.{promises as flat}
use Rattle.lent_extract.specs.Promises.{Promises}
use Rattle.lent_extract.proofs.LeftLaws.{lent_seen}
use Rattle.lent_extract.proofs.DeterminedLaws.{best-once}
use Rattle.lent_extract.proofs.VariedLaws.{costs-seen, terms-seen, variants-once}

pub promises : Promises
promises = record {
  best_carried = λ P ts ts' ns ns' n m wanted r a p.
      subst P (sym (lent_seen (After BestTerm) (λ x. x.store) ts ts' ns ns' n m wanted _ a)) p;
  variants_carried = λ P ts ts' ns ns' n m wanted r ws us a p.
      subst P (sym (lent_seen VariantsAfter (λ x. x.store) ts ts' ns ns' n m wanted _ a)) p;
  best_kept = λ file root v ts ts' ns ns' n m k r a e.
      a.unchanged (flat.unchanged file root v (lent_store ts ns n m) k e);
  best_determined = λ ts ts' ts'' ns ns' ns'' n m wanted r r' a b. (
    (best-once r r' wanted.store.records wanted.store.records wanted.store.literals
        wanted.store.literals wanted.store.names wanted.store.names n m (a.answer ∙ sym b.answer)).0,
    (a.records ∙ sym b.records, a.entries ∙ sym b.entries),
  );
  variants_kept = λ file root v most ts ts' ns ns' n m costs found ws us k r a e.
      let l : Lending = lending (lent_store ts ns n m) costs found in
      let w : VariantsAfter = variants_at file root v most l in
      let u = flat.variants_unchanged file root v most l k e in
      let kept = a.unchanged u.store_is in (
        kept.0,
        (
          kept.1,
          (
            sym (costs-seen n m w.store.records w.store.literals w.store.names ws us r)
                ∙ ap (λ (x : VariantsAfter). x.costs) a.answer
                ∙ u.costs_are,
            sym (terms-seen n m w.store.records w.store.literals w.store.names ws us r)
                ∙ ap (λ (x : VariantsAfter). x.terms) a.answer
                ∙ u.terms_are,
          ),
        ),
      );
  variants_determined = λ ts ts' ts'' ns ns' ns'' n m wanted r r' ws ws' us us' a b.
      let o = variants-once r r' n m wanted.store.records wanted.store.records
      wanted.store.literals wanted.store.literals wanted.store.names wanted.store.names ws ws' us us'
      (a.answer ∙ sym b.answer) in
      (o.0, (a.records ∙ sym b.records, (a.entries ∙ sym b.entries, (o.4, o.5))));
}
