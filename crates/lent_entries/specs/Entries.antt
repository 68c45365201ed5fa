-- The symbol table as a lent list of name entries: document 01, 'Terms'. Assumes nothing: these are definitions.
use Rattle.std.specs.Prelude.{ℕ, zero, suc, ◌<◌, min, ◌≡◌, List, [], ◌∷◌, ◌++◌, length, get_or, take, drop}
use Rattle.name.specs.Entries.{entry_width, entries_length, entry_at}

-- the entries, one after the other
unfoldable pub entries_of : List (List ℕ) → List ℕ
entries_of [] = []
entries_of (e ∷ es) = e ++ entries_of es

-- the first n entries of a flat table
unfoldable pub entries_in : List ℕ → ℕ → List (List ℕ)
entries_in bs zero = []
entries_in bs (suc n) = entries_in bs n ++ (entry_at bs n ∷ [])

-- every entry has its bytes
unfoldable pub AllWide : List (List ℕ) → Type 0
AllWide ns = (k : ℕ) → k < length ns → length (get_or ns k []) ≡ entry_width

-- the bytes hold the lent entries, at most 128 of them
pub record LoadedNames (ns : List (List ℕ)) (bs₀ : List ℕ) (n : ℕ) (bs : List ℕ) : Type 0 where
  pub room : n ≡ min 128 (length ns)
  pub bytes : take (entries_length n) bs ≡ entries_of (take 128 ns)
  pub long : length bs ≡ length bs₀
  pub wide : AllWide (take 128 ns)

-- the lent entries, once the table is as given
unfoldable pub entries_after : List (List ℕ) → List ℕ → List (List ℕ)
entries_after ns bs = entries_in bs (min 128 (length ns)) ++ drop 128 ns
