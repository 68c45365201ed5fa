-- The term store as it is lent, and how a term record lies in it: document 01, 'Terms'. Here, and in the laws of
-- proofs/LayoutLaws.antt, stands a record's width and each place in it; whoever stands above says where records lie by
-- these names alone. Assumes nothing: these are definitions.
use Rattle.std.specs.Prelude.{ℕ, ◌+◌, ◌*◌, ◌/◌, ◌≤◌, ◌<◌, min, List, ◌∷◌, length, get_or, take, drop, true, false, eqb, ℤ, pos}
use Rattle.std.proofs.Math.Seq.{paste}
use Rattle.name.specs.Entries.{name_at, entry_room}
use Rattle.term_rules.specs.declared.Term.{Term}

-- The numbers of the records, a literal a record, the names' entries; and how many terms and names are in use. What
-- stands past the counts is free.
pub record Store : Type 0 where
  pub records : List ℕ
  pub literals : List ℤ
  pub names : List ℕ
  pub terms : ℕ
  pub symbols : ℕ

abbrev pub store : List ℕ → List ℤ → List ℕ → ℕ → ℕ → Store
store rs ls ns n m = record { records = rs; literals = ls; names = ns; terms = n; symbols = m }

-- a record's numbers: kind, symbol, count of children, eight child places. Where the child places end and where the
-- record ends are two things, though no number stands between them.
abbrev pub width : ℕ
width = 11

-- how many numbers n records take, and how many records fit n numbers
abbrev pub records_length : ℕ → ℕ
records_length n = n * width

abbrev pub record_room : ℕ → ℕ
record_room n = n / width

-- record i stands in the numbers
abbrev pub HasRecord : List ℕ → ℕ → Type 0
HasRecord rs i = i * width + width ≤ length rs

-- the kind of record i, its symbol, its count of children
abbrev pub kind_at : List ℕ → ℕ → ℕ
kind_at rs i = get_or rs (i * width) 0

abbrev pub symbol_no : List ℕ → ℕ → ℕ
symbol_no rs i = get_or rs (i * width + 1) 0

abbrev pub arity_at : List ℕ → ℕ → ℕ
arity_at rs i = get_or rs (i * width + 2) 0

-- its eight child places, and its children: as many of the places as it counts
abbrev pub places_at : List ℕ → ℕ → List ℕ
places_at rs i = take 8 (drop (i * width + 3) rs)

abbrev pub kids_at : List ℕ → ℕ → List ℕ
kids_at rs i = take (arity_at rs i) (places_at rs i)

-- record i stands in the numbers, and its literal in the literals
pub record InRecords (rs : List ℕ) (ls : List ℤ) (i : ℕ) : Type 0 where
  pub numbers : HasRecord rs i
  pub literal : i < length ls

-- term record i
unfoldable pub record_in : List ℕ → List ℤ → ℕ → Term
record_in rs ls i = record {
  kind = kind_at rs i;
  symbol = symbol_no rs i;
  count = arity_at rs i;
  literal = get_or ls i (pos 0);
  children = places_at rs i;
}

abbrev pub record_at : Store → ℕ → Term
record_at s i = record_in s.records s.literals i

-- the numbers of a record, and the numbers with the record put at i
abbrev pub numbers : Term → List ℕ
numbers t = t.kind ∷ t.symbol ∷ t.count ∷ t.children

abbrev pub put_record : List ℕ → ℕ → Term → List ℕ
put_record rs i t = paste rs (i * width) (numbers t) width

-- the name of symbol k
abbrev pub symbol_at : Store → ℕ → List ℕ
symbol_at s k = name_at s.names k

-- "the store's room (its lent lengths, at most 1,024 and 128)"
unfoldable pub term_room : Store → ℕ
term_room s = min 1024 (min (record_room (length s.records)) (length s.literals))

unfoldable pub symbol_room : Store → ℕ
symbol_room s = min 128 (entry_room (length s.names))

-- the case of a kind: 0 literal, 1 variable, 2 application, and what any other number is
unfoldable pub by_kind : {A : Type 0} → ℕ → A → A → A → A → A
by_kind k l v a other =
    elim (eqb k 0) [
      | true ↦ l
      | false ↦ elim (eqb k 1) [ true ↦ v | false ↦ elim (eqb k 2) [ true ↦ a | false ↦ other ] ]
    ]
