-- The promises of the crate `term_many` hold. Assumes nothing.
use Rattle.term_many.specs.Promises.{Promises}
use Rattle.term_many.proofs.AsksLaws.{add-asks}
use Rattle.term_many.proofs.PromiseLaws.{
  bad-store-when,
  refused-first,
  first-refused,
  refused-unchanged,
  made-given,
  given_made,
  given-grows,
  given-stands,
  one-given,
  one-refused,
  seen-once,
}

pub promises : Promises
promises = record {
  bad_store = bad-store-when;
  refusals = λ w s out k f. (refused-first w s out f k, first-refused w s out f k);
  each_refusal = add-asks;
  unchanged = refused-unchanged;
  one_by_one = λ w s out got t f m. made-given w s out got t f m;
  made_so = given_made;
  grows = given-grows;
  stands = given-stands;
  one_given = λ w s t out a i one asked h e. one-given w s out a one asked t i h e;
  one_refused = λ w s t out a k one asked e. one-refused w s out a one asked t k e;
  determined = seen-once;
}
