-- The promises of the crate `term` hold. Assumes nothing.
use Rattle.order.proofs.Sorting.SortLaws.{sorted-unique}
use Rattle.term_rules.proofs.FactsLaws.{sound-of-well_formed, well_formed-of-sound}
use Rattle.term_rules.proofs.Meaning.NodeLaws.{node-few, node-lower}
use Rattle.term_rules.proofs.Meaning.MeansLaws.{means-one, means-once}
use Rattle.term_rules.proofs.Meaning.TreeLaws.{tree_at-means}
use Rattle.term_order.specs.TreeOrder.{at_most}
use Rattle.term_order.proofs.LawfulLaws.{trees-tells, at_most-linear}
use Rattle.term.specs.Promises.{Promises}
use Rattle.term.proofs.DeterminedLaws.{seen-once, added-once, adds-once, got-once, sorted-once}
use Rattle.term.proofs.AddsLaws.{
  literal-adds,
  variable-adds,
  application-adds,
  literal-finds,
  variable-finds,
  application-finds,
}
use Rattle.term.proofs.PromiseLaws.{
  size-refused,
  size_is,
  get_refused,
  get-is,
  get-zeros,
  compare-refused,
  compare-is,
  sort-refused,
  sort-after,
  sort-order,
  order-numbers,
  compare-trees,
}

pub promises : Promises
promises = record {
  facts = sound-of-well_formed;
  enough = well_formed-of-sound;
  children_lower = λ s i n ks w h e. node-lower s (sound-of-well_formed s w) i h n ks e;
  children_few = λ s i n ks w h e. node-few s (sound-of-well_formed s w) i h n ks e;
  meant = λ s i w h. tree_at-means s (sound-of-well_formed s w) i h;
  one_term = λ s i t u p q. means-one s t u i p q;
  one_number = λ s i j t w h k p q. means-once s (sound-of-well_formed s w) t i j h k p q;
  literal_added = literal-adds;
  variable_added = variable-adds;
  application_added = application-adds;
  literal_found = literal-finds;
  variable_found = variable-finds;
  application_found = application-finds;
  size_refused = size-refused;
  size_given = size_is;
  get_refused = get_refused;
  get_given = get-is;
  get_zeros = get-zeros;
  compare_refused = compare-refused;
  compare_given = compare-is;
  sort_refused = sort-refused;
  sorts = sort-after;
  sorted_once = λ s l m p q e. sorted-unique (at_most s) (at_most-linear s) l m p q e;
  sort_order = λ s a b w h k. sort-order s w a b h k;
  order_flips = trees-tells.flips;
  order_trans = trees-tells.trans;
  order_same = trees-tells.same;
  order_numbers = λ s a b w h k. order-numbers s w a b h k;
  order_trees = λ s a b t u w h k p q. compare-trees s w a b t u h k p q;
  add_determined = added-once;
  adds_determined = adds-once;
  find_determined = seen-once;
  size_determined = seen-once;
  get_determined = got-once;
  compare_determined = seen-once;
  sort_determined = sorted-once;
}
