-- The promises of the library for C, kept. Assumes nothing.
use mathlib.Core.Path.{sym, ◌∙◌}
use Rattle.needlevale_c.specs.Promises.{Promises}
use Rattle.needlevale_c.proofs.CodeLaws.{is_below, one_code}
use Rattle.needlevale_c.proofs.PromiseLaws.{reply_told, add_told, literal_stays, literal-given}
use Rattle.needlevale_c.proofs.ToldLaws.{
  plain-told,
  lets_told,
  best_told,
  best_stays,
  variants_told,
  variants_stay,
}
use Rattle.lent.specs.Records.{lent_store}
use Rattle.term.specs.Calls.{add_literal, add_variable, add_application}
use Rattle.term.proofs.Promises.{promises as flat}
use Rattle.needlevale_c.proofs.AddLaws.{added-stays}
use Rattle.needlevale_c.proofs.CallLaws.{
  sized,
  literal_found,
  variable_found,
  application_found,
  compared,
  got,
  sorted,
}
use Rattle.needlevale_c.proofs.ReadLaws.{read_accepted, read_refused}

pub promises : Promises
promises = record {
  reply_told = reply_told;
  add_told = add_told;
  below = is_below;
  one_refusal = one_code;
  literal_refused = literal_stays;
  literal_counted = literal-given;
  one_reply = λ input out z y a b p q. (p.number ∙ sym q.number, p.bytes ∙ sym q.bytes);
  one_adding = λ s v z y rs rs' ls ls' p q. (
    p.number ∙ sym q.number,
    p.kept_records ∙ sym q.kept_records,
    p.kept_literals ∙ sym q.kept_literals,
  );
  plain-told = plain-told;
  lets_told = lets_told;
  best_told = best_told;
  variants_told = variants_told;
  best_stays = best_stays;
  variants_stay = variants_stay;
  one_plain = λ s t out z y a b p q. (p.number ∙ sym q.number, p.bytes ∙ sym q.bytes);
  one_let = λ s nm t out z y a b p q. (p.numbers ∙ sym q.numbers, p.bytes ∙ sym q.bytes);
  one_best = λ ts ts' ts'' ns ns' ns'' n m wanted b c p q. (
    p.numbers ∙ sym q.numbers,
    p.lists.records ∙ sym q.lists.records,
    p.lists.entries ∙ sym q.lists.entries,
  );
  one_variants = λ ts ts' ts'' ns ns' ns'' n m wanted b c ws us ws' us' p q. (
    p.numbers ∙ sym q.numbers,
    p.lists.records ∙ sym q.lists.records,
    p.lists.entries ∙ sym q.lists.entries,
    p.costs_are ∙ sym q.costs_are,
    p.terms_are ∙ sym q.terms_are,
  );
  literal_stays = λ ts ts' ns ns' n m v z h.
      added-stays ts ts' ns ns' n m (add_literal (lent_store ts ns n m) v) z
      (flat.literal_added (lent_store ts ns n m) v).unchanged h;
  variable_stays = λ ts ts' ns ns' n m name z h.
      added-stays ts ts' ns ns' n m (add_variable (lent_store ts ns n m) name) z
      (flat.variable_added (lent_store ts ns n m) name).unchanged h;
  application_stays = λ ts ts' ns ns' n m name children z h.
      added-stays ts ts' ns ns' n m (add_application (lent_store ts ns n m) name children) z
      (flat.application_added (lent_store ts ns n m) name children).unchanged h;
  one-add = λ ts ts' ts'' ns ns' ns'' n m wanted z y p q. (
    p.numbers ∙ sym q.numbers,
    p.lists.records ∙ sym q.lists.records,
    p.lists.entries ∙ sym q.lists.entries,
  );
  sized = sized;
  literal_found = literal_found;
  variable_found = variable_found;
  application_found = application_found;
  compared = compared;
  got = got;
  sorted = sorted;
  one_sort = λ s l a b z y p q. (p.number ∙ sym q.number, p.list_is ∙ sym q.list_is);
  read_accepted = read_accepted;
  read_refused = read_refused;
}
