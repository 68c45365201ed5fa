-- What a call that adds to a store leaves of the two lent lists. Assumes nothing: a definition.
use Rattle.std.specs.Prelude.{ℕ, ◌≡◌, List}
use Rattle.lent_entries.specs.Entries.{entries_after}
use Rattle.term_rules.specs.declared.Term.{Term}
use Rattle.term_rules.specs.Lent.{Store}
use Rattle.lent.specs.Records.{lent_store, records_after}

-- The lists are then the store s (`held`), and as they were where that is the store that was lent.
pub record ListsLeft (ts : List Term) (ns : List (List ℕ)) (n m : ℕ) (s : Store) (ts' : List Term)
    (ns' : List (List ℕ)) : Type 0 where
  pub records : ts' ≡ records_after ts s
  pub entries : ns' ≡ entries_after ns s.names
  pub held : lent_store ts' ns' s.terms s.symbols ≡ s
  pub unchanged : s ≡ lent_store ts ns n m → (ts' ≡ ts) × (ns' ≡ ns)
