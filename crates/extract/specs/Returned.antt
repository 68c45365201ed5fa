-- What stands in the store and the two lists that variants give back. Assumes nothing: definitions.
use Rattle.std.specs.Prelude.{List, ℕ, ◌<◌, ◌≤◌, length, get_or}
use Rattle.term_rules.specs.Lent.{Store}
use Rattle.term_rules.specs.Growing.{Grows}

-- The store has grown, and each of the k terms is in it; the lists have places for them.
pub record Returned (before after : Store) (costs terms : List ℕ) (k : ℕ) : Type 0 where
  pub grows : Grows before after
  pub costs_long : k ≤ length costs
  pub terms_long : k ≤ length terms
  pub below : (j : ℕ) → j < k → get_or terms j 0 < after.terms
