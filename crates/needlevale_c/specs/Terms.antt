-- What the store's calls leave where they change what is lent: the numbers, and the lent lists. Assumes nothing:
-- definitions.
use Rattle.std.specs.Prelude.{ℕ, ◌≡◌, List, ℤ}
use Rattle.term_rules.specs.declared.Term.{Term}
use Rattle.term_rules.specs.Lent.{Store}
use Rattle.term.specs.Answers.{Answer}
use Rattle.c_told.specs.Terms.{status_of, added_told}
use Rattle.c_told.specs.declared.terms.Adding.{Adding}
use Rattle.needlevale_c.specs.Lists.{ListsLeft}

-- What sort leaves: the status, and the lent list.
pub record Sorts (wanted : Answer Unit × List ℕ) (z : ℤ) (list : List ℕ) : Type 0 where
  pub number : z ≡ status_of wanted.0
  pub list_is : list ≡ wanted.1

-- What a call that adds leaves: the numbers, and the lent lists.
pub record AddedLeft (ts : List Term) (ns : List (List ℕ)) (n m : ℕ) (wanted : Answer ℕ × Store) (z : Adding)
    (ts' : List Term) (ns' : List (List ℕ)) : Type 0 where
  pub numbers : z ≡ added_told wanted
  pub lists : ListsLeft ts ns n m wanted.1 ts' ns'
