-- The store as a lent list of term records and a lent list of name entries: document 01, 'Terms'. Assumes nothing:
-- these are definitions.
use Rattle.std.specs.Prelude.{ℕ, zero, suc, min, ◌≡◌, List, [], ◌∷◌, ◌++◌, length, take, drop, ℤ, pos}
use Rattle.lent_entries.specs.Entries.{entries_of}
use Rattle.term_rules.specs.declared.Term.{Term}
use Rattle.term_rules.specs.Lent.{Store, store, record_in, numbers}

-- what `get_or` gives past the end of a list of records
abbrev pub no_term : Term
no_term = record { kind = 0; symbol = 0; count = 0; literal = pos 0; children = [] }

-- "In each record up to eight child numbers are kept inside the record": every value of the struct has eight places
abbrev pub Eight : Term → Type 0
Eight t = length t.children ≡ 8

-- the records, eleven numbers each
unfoldable pub flat : List Term → List ℕ
flat [] = []
flat (t ∷ ts) = numbers t ++ flat ts

-- the records' literals
unfoldable pub literals_of : List Term → List ℤ
literals_of [] = []
literals_of (t ∷ ts) = t.literal ∷ literals_of ts

-- "the term store is a lent list of term records, at most 1,024, .. with a lent symbol table of up to 128 names": of
-- a longer list the records past 1,024 and the entries past 128 are no part of the store
unfoldable pub lent_store : List Term → List (List ℕ) → ℕ → ℕ → Store
lent_store ts ns n m = store (flat (take 1024 ts)) (literals_of (take 1024 ts)) (entries_of (take 128 ns)) n m

-- the first n records of a flat store
unfoldable pub records_in : List ℕ → List ℤ → ℕ → List Term
records_in rs ls zero = []
records_in rs ls (suc n) = records_in rs ls n ++ (record_in rs ls n ∷ [])

-- the lent records, once the store is as given
unfoldable pub records_after : List Term → Store → List Term
records_after ts s = records_in s.records s.literals (min 1024 (length ts)) ++ drop 1024 ts
