-- A symbol table in a list of bytes: an entry for each name, its length, its bytes, and zeros. Here, and in the laws and
-- the code of this crate, stands how many bytes an entry has and where its parts are; whoever stands above says where
-- entries lie by these names alone. Assumes nothing: these are definitions.
use Rattle.std.specs.Prelude.{ℕ, zero, suc, ◌+◌, ◌*◌, ◌-◌, ◌/◌, ◌≤◌, ◌<◌, true, false, List, ◌∷◌, ◌++◌, length, get_or, take, drop, replicate}
use Rattle.std.proofs.Math.Seq.{paste}
use Rattle.name.specs.Name.{same}
use Rattle.std.specs.Prelude.{Option, Some, None}

-- the bytes of an entry: a name's length and at most 31 bytes
abbrev pub entry_width : ℕ
entry_width = 32

-- how many bytes n entries take, which is where entry n begins; how many entries fit n bytes; and the bytes of 128
-- entries, the most that a table has
abbrev pub entries_length : ℕ → ℕ
entries_length n = n * entry_width

abbrev pub entry_room : ℕ → ℕ
entry_room n = n / entry_width

abbrev pub table_length : ℕ
table_length = entries_length 128

-- entry k stands in the table
abbrev pub HasEntry : List ℕ → ℕ → Type 0
HasEntry table k = entries_length k + entry_width ≤ length table

-- the bytes of entry k, and the table with an entry's bytes put at k
abbrev pub entry_at : List ℕ → ℕ → List ℕ
entry_at table k = take entry_width (drop (entries_length k) table)

abbrev pub put_entry : List ℕ → ℕ → List ℕ → List ℕ
put_entry table k bytes = paste table (entries_length k) bytes entry_width

-- the length that an entry's bytes tell, and the name that they hold
abbrev pub length_in : List ℕ → ℕ
length_in bytes = get_or bytes 0 0

unfoldable pub name_in : List ℕ → List ℕ
name_in bytes = take (length_in bytes) (drop 1 bytes)

-- the length that stands at entry k
abbrev pub length_at : List ℕ → ℕ → ℕ
length_at table k = get_or table (k * 32) 0

-- the name at entry k
unfoldable pub name_at : List ℕ → ℕ → List ℕ
name_at table k = take (k * 32 + 1 + length_at table k - (k * 32 + 1)) (drop (k * 32 + 1) table)

-- the bytes of entry k past its name
abbrev pub padding_at : List ℕ → ℕ → List ℕ
padding_at table k = take (31 - length_at table k) (drop (k * 32 + 1 + length_at table k) table)

-- byte j of the name at entry k, or what stands past it
abbrev pub byte_at : List ℕ → ℕ → ℕ → ℕ
byte_at table k j = get_or table (k * 32 + 1 + j) 0

-- the bytes of a name's entry
unfoldable pub entry : List ℕ → List ℕ
entry name = length name ∷ (name ++ replicate (31 - length name) 0)

-- the table with a name put at entry k
unfoldable pub put_name : List ℕ → ℕ → List ℕ → List ℕ
put_name table k name = put_entry table k (entry name)

-- the first of n entries, from entry k on, that has the name
unfoldable pub find_from : List ℕ → List ℕ → ℕ → ℕ → Option ℕ
find_from table name k zero = None
find_from table name k (suc n) =
    elim (same (name_at table k) name) [ true ↦ Some k | false ↦ find_from table name (k + 1) n ]

-- the first of the first n entries that has the name
unfoldable pub find_name : List ℕ → ℕ → List ℕ → Option ℕ
find_name table n name = find_from table name 0 n

-- entry k stands in the table, with a name of at most 31 bytes
pub record InEntries (table : List ℕ) (k : ℕ) : Type 0 where
  pub long : HasEntry table k
  pub short : length_at table k ≤ 31

-- the first n entries stand in the table, none longer than 31 bytes
pub record Entries (table : List ℕ) (n : ℕ) : Type 0 where
  pub long : entries_length n ≤ length table
  pub short : (k : ℕ) → k < n → length_at table k ≤ 31
