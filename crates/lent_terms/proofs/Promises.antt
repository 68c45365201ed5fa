-- The promises of the crate `lent_terms` hold. Assumes nothing.
use Rattle.term_rules.specs.Lent.{Store}
use Rattle.term_rules.specs.Nodes.{literal, variable, application}
use Rattle.term.specs.Answers.{seen, seen_got, seen_sort}
use Rattle.term.specs.Calls.{
  add_literal,
  add_variable,
  add_application,
  find_literal,
  find_variable,
  find_application,
  size_of,
  get_term,
  compare_terms,
  sort_terms,
}
use Rattle.term.specs.Outcomes.{Adds, Finds, asks_literal, asks_variable, asks_application}
use Rattle.term.proofs.Promises.{promises as flat}
use Rattle.lent_terms.specs.Promises.{Sizes, Compares, Sorting, Gets, Promises}
use Rattle.lent_terms.proofs.PromiseLaws.{carry, read, refusal-keeps, rest-stays, got-record, added-determined}

pub promises : Promises
promises = record {
  literal_added = λ z.
      carry (λ s. add_literal s z) (λ s x. Adds s (literal z) (asks_literal s) x) (λ s. flat.literal_added s z);
  variable_added = λ name.
      carry (λ s. add_variable s name) (λ s x. Adds s (variable name) (asks_variable s name) x)
      (λ s. flat.variable_added s name);
  application_added = λ name ks.
      carry (λ s. add_application s name ks) (λ s x. Adds s (application name ks) (asks_application s name ks) x)
      (λ s. flat.application_added s name ks);
  carried = carry;
  literal_kept = λ z. refusal-keeps (λ (s : Store). add_literal s z) (λ s. (flat.literal_added s z).unchanged);
  variable_kept = λ name.
      refusal-keeps (λ (s : Store). add_variable s name) (λ s. (flat.variable_added s name).unchanged);
  application_kept = λ name ks.
      refusal-keeps (λ (s : Store). add_application s name ks) (λ s. (flat.application_added s name ks).unchanged);
  rest_stays = rest-stays;
  literal_found = λ z.
      read (λ s. find_literal s z) seen (λ s a. Finds s (literal z) (asks_literal s) a)
      (λ s. flat.literal_found s z);
  variable_found = λ name.
      read (λ s. find_variable s name) seen (λ s a. Finds s (variable name) (asks_variable s name) a)
      (λ s. flat.variable_found s name);
  application_found = λ name ks.
      read (λ s. find_application s name ks) seen
      (λ s a. Finds s (application name ks) (asks_application s name ks) a)
      (λ s. flat.application_found s name ks);
  sized = read size_of seen Sizes (λ s. (flat.size_refused s, flat.size_given s));
  compared = λ i j.
      read (λ s. compare_terms s i j) seen (λ s a. Compares s i j a)
      (λ s. (flat.compare_refused s i j, flat.compare_given s i j));
  sorted = λ l after.
      read (λ s. sort_terms s l) (λ v. seen_sort v after) (λ s x. Sorting s l x)
      (λ s. (flat.sort_refused s l, flat.sorts s l));
  get_refused = λ i.
      read (λ s. get_term s i) seen_got (λ s x. Gets s i x) (λ s. (flat.get_refused s i, flat.get_zeros s i));
  got = got-record;
  add_determined = added-determined;
}
