-- What is promised of a lent list of records and a lent list of name entries: they mean the same store as the flat
-- lists, and no other. Assumes nothing: a record, with one field for each theorem.
use Rattle.std.specs.Prelude.{ℕ, ◌≤◌, ◌<◌, min, ◌≡◌, List, [], length, get_or, take}
use Rattle.name.specs.Entries.{entries_length, length_in, name_in}
use Rattle.lent_entries.specs.Entries.{AllWide, entries_of, entries_after}
use Rattle.term_rules.specs.declared.Term.{Term}
use Rattle.term_rules.specs.Lent.{Store, store, record_at, symbol_at, term_room, symbol_room, records_length}
use Rattle.lent.specs.Records.{no_term, lent_store, records_after}
use Rattle.lent.specs.Copies.{AllEight}

-- every record has its eight child places and every entry its bytes, as every value of the two types has
abbrev pub Shaped : List Term → List (List ℕ) → Type 0
Shaped ts ns = AllEight (take 1024 ts) × AllWide (take 128 ns)

pub record Promises : Type 0 where
  -- Record i of the store is the i-th lent record,
  pub same_record :
      (ts : List Term) (ns : List (List ℕ)) (n m i : ℕ) → Shaped ts ns → i < length (take 1024 ts) →
      record_at (lent_store ts ns n m) i ≡ get_or ts i no_term
  -- and symbol k has the name that the k-th lent entry holds.
  pub same_name :
      (ts : List Term) (ns : List (List ℕ)) (n m k : ℕ) → Shaped ts ns → k < length (take 128 ns) →
      length_in (get_or ns k []) ≤ 31 → symbol_at (lent_store ts ns n m) k ≡ name_in (get_or ns k [])
  -- "the store's room (its lent lengths, at most 1,024 and 128)"
  pub room : (ts : List Term) (ns : List (List ℕ)) (n m : ℕ) → Shaped ts ns → term_room (lent_store ts ns n m) ≡ min 1024
      (length ts)
  pub name_room :
      (ts : List Term) (ns : List (List ℕ)) (n m : ℕ) → Shaped ts ns → symbol_room (lent_store ts ns n m) ≡ min 128
      (length ns)
  -- A store that is as it was leaves the lists as they were.
  pub unchanged : (ts : List Term) (ns : List (List ℕ)) (n m : ℕ) → Shaped ts ns → records_after ts (lent_store ts ns n m)
      ≡ ts
  pub unchanged_names : (ns : List (List ℕ)) → AllWide (take 128 ns) → entries_after ns (entries_of (take 128 ns)) ≡ ns
  -- The lists that a store leaves mean that store, where its lists are as long as those that were lent.
  pub after :
      (ts : List Term) (ns : List (List ℕ)) (s : Store) (n m : ℕ) → length s.records ≡ records_length (min 1024 (length ts)) →
      length s.literals ≡ min 1024 (length ts) → length s.names ≡ entries_length (min 128 (length ns)) →
      lent_store (records_after ts s) (entries_after ns s.names) n m ≡ store s.records s.literals s.names n m
  -- No two lent lists mean one store: they agree in their first 1,024 records and 128 entries, which are the store.
  pub once :
      (ts ts' : List Term) (ns ns' : List (List ℕ)) (n m : ℕ) → Shaped ts ns → Shaped ts' ns' →
      lent_store ts ns n m ≡ lent_store ts' ns' n m → (take 1024 ts ≡ take 1024 ts') × (take 128 ns ≡ take 128 ns')
