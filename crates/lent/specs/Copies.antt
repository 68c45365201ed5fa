-- What a call's own arrays hold of a lent store. Assumes nothing: these are definitions.
use Rattle.std.specs.Prelude.{ℕ, ◌≤◌, ◌<◌, min, ◌≡◌, List, length, get_or, take}
use Rattle.name.specs.Entries.{entries_length, table_length}
use Rattle.lent_entries.specs.Entries.{entries_of, AllWide}
use Rattle.term_rules.specs.declared.Term.{Term}
use Rattle.term_rules.specs.Lent.{Store, store, records_length}
use Rattle.lent.specs.Records.{no_term, Eight, flat, literals_of}
use Rattle.lent.specs.declared.copied.Flat.{Flat}
use Rattle.lent.specs.declared.copied.StoreCopy.{StoreCopy}

-- every record has eight child places
unfoldable pub AllEight : List Term → Type 0
AllEight ts = (i : ℕ) → i < length ts → Eight (get_or ts i no_term)

-- the arrays have their lengths
pub record Whole (f : Flat) : Type 0 where
  pub long : length f.records ≡ (records_length 1024)
  pub wide : length f.literals ≡ 1024
  pub within : f.room ≤ 1024

-- the arrays hold the lent records, at most 1,024 of them
pub record Loaded (ts : List Term) (f : Flat) : Type 0 where
  pub whole : Whole f
  pub room : f.room ≡ min 1024 (length ts)
  pub numbers : take (records_length f.room) f.records ≡ flat (take 1024 ts)
  pub literals : take f.room f.literals ≡ literals_of (take 1024 ts)
  pub eight : AllEight (take 1024 ts)

-- the store that the arrays hold, beside lent name entries
unfoldable pub store_in : Flat → List (List ℕ) → ℕ → ℕ → Store
store_in f ns n m =
    store (take (records_length f.room) f.records) (take f.room f.literals) (entries_of (take 128 ns)) n m

-- the arrays hold the lent records and, of the lent entries, at most 128, and tell how far each of them goes
pub record CopyOf (ts : List Term) (ns : List (List ℕ)) (c : StoreCopy) : Type 0 where
  pub records : Loaded ts c.flat
  pub numbers : c.numbers ≡ records_length c.flat.room
  pub bytes : c.bytes ≡ entries_length (min 128 (length ns))
  pub long : length c.names ≡ table_length
  pub entries : take c.bytes c.names ≡ entries_of (take 128 ns)
  pub wide : AllWide (take 128 ns)

-- the store of so many terms and symbols that a copy holds
abbrev pub copied : StoreCopy → ℕ → ℕ → Store
copied c n m = store (take c.numbers c.flat.records) (take c.flat.room c.flat.literals) (take c.bytes c.names) n m
