-- What a call on lent lists leaves: document 01, 'Terms'. Assumes nothing: these are definitions.
use Rattle.std.specs.Prelude.{ℕ, ◌≡◌, List, Result}
use Rattle.refusal.specs.declared.Refusal.{Refusal}
use Rattle.lent_entries.specs.Entries.{entries_after}
use Rattle.term_rules.specs.declared.Term.{Term}
use Rattle.term_rules.specs.Lent.{Store}
use Rattle.lent.specs.Records.{lent_store, records_after}
use Rattle.term.specs.Answers.{Answer, seen_added}
use Rattle.term_add.specs.declared.Added.{Added}

-- The call answers as wanted, and the lent lists are then the wanted store (`held`). Where that is the store as it was lent,
-- as on every refusal, the lists are as they were.
pub record LentAdded (ts : List Term) (ns : List (List ℕ)) (n m : ℕ) (wanted : Answer ℕ × Store) (r : Result Added Refusal)
    (ts' : List Term) (ns' : List (List ℕ)) : Type 0 where
  pub answer : seen_added r wanted.1.records wanted.1.literals wanted.1.names n m ≡ wanted
  pub records : ts' ≡ records_after ts wanted.1
  pub entries : ns' ≡ entries_after ns wanted.1.names
  pub held : lent_store ts' ns' wanted.1.terms wanted.1.symbols ≡ wanted.1
  pub unchanged : wanted.1 ≡ lent_store ts ns n m → (ts' ≡ ts) × (ns' ≡ ns)
