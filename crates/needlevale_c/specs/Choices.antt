-- What best and variants leave: the numbers, the lent lists, and the lists of results. Assumes nothing: definitions.
use Rattle.std.specs.Prelude.{ℕ, ◌≡◌, List}
use Rattle.term_rules.specs.declared.Term.{Term}
use Rattle.answer_rules.specs.Answers.{After}
use Rattle.answer_rules.specs.Best.{BestTerm}
use Rattle.answer_rules.specs.Variants.{VariantsAfter}
use Rattle.c_told.specs.Choices.{best_told, variants_told}
use Rattle.c_told.specs.declared.choices.Best.{Best}
use Rattle.c_told.specs.declared.choices.Variants.{Variants}
use Rattle.needlevale_c.specs.Lists.{ListsLeft}

pub record BestLeft (ts : List Term) (ns : List (List ℕ)) (n m : ℕ) (wanted : After BestTerm) (b : Best)
    (ts' : List Term) (ns' : List (List ℕ)) : Type 0 where
  pub numbers : b ≡ best_told wanted
  pub lists : ListsLeft ts ns n m wanted.store ts' ns'

pub record VariantsLeft (ts : List Term) (ns : List (List ℕ)) (n m : ℕ) (wanted : VariantsAfter) (b : Variants)
    (ts' : List Term) (ns' : List (List ℕ)) (costs found : List ℕ) : Type 0 where
  pub numbers : b ≡ variants_told wanted
  pub lists : ListsLeft ts ns n m wanted.store ts' ns'
  pub costs_are : costs ≡ wanted.costs
  pub terms_are : found ≡ wanted.terms
