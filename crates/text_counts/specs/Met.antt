-- The bindings as they stand in flat tables. Assumes nothing: these are definitions.
use Rattle.std.specs.Prelude.{
  ◌≡◌,
  Bool,
  true,
  false,
  ◌&&◌,
  List,
  [],
  ◌∷◌,
  ◌++◌,
  ℕ,
  zero,
  suc,
  ◌+◌,
  ◌*◌,
  ◌-◌,
  ◌<◌,
  ◌≤◌,
  length,
  get_or,
  ltb,
  leb,
  eqb,
}
use Rattle.text_rules.specs.Bindings.{Bound, Place, nowhere, place, find, to_bind, meet_in, bindings}
use Rattle.term_rules.specs.Lent.{kids_at}
use Rattle.text_counts.specs.Tallies.{Linked, Most}

-- the first m bindings
unfoldable pub bounds : List ℕ → List ℕ → ℕ → List Bound
bounds terms indents zero = []
bounds terms indents (suc m) =
    bounds terms indents m ++ ((record { term = get_or terms m 0; indent = get_or indents m 0 }) ∷ [])

-- a place as a number: 0 without a binding, else one more than the binding's
abbrev pub place_no : Place → ℕ
place_no nowhere = 0
place_no (place p) = suc p

unfoldable pub zeros : List ℕ → ℕ
zeros [] = 0
zeros (x ∷ xs) = elim (eqb x 0) [ true ↦ suc (zeros xs) | false ↦ zeros xs ]

-- the table of places is right, and there is room to bind each term that has no place
pub record Met (places terms indents : List ℕ) (m : ℕ) : Type 0 where
  pub right : (t : ℕ) → t < length places → get_or places t 0 ≡ place_no (find t 0 (bounds terms indents m))
  pub free : m + zeros places ≤ length terms
  pub long : length indents ≡ length terms

-- whether the table says that t is to be bound
abbrev pub wanted_at : List ℕ → ℕ → Bool
wanted_at ws t = ltb 0 (get_or ws t 0)

-- the table says which terms are to be bound in the text of the root
abbrev pub Wanted : List ℕ → List ℕ → ℕ → ℕ → Type 0
Wanted rs ws n root = (t : ℕ) → t < n → wanted_at ws t ≡ to_bind (kids_at rs) root t

-- t is met at indent i
unfoldable pub met_at : (ℕ → List ℕ) → (ℕ → Bool) → ℕ → ℕ → List Bound → List Bound
met_at kids wanted i t bs = meet_in kids wanted (suc t) i t bs

pub record Ready (rs ws places terms indents : List ℕ) (n m i t : ℕ) : Type 0 where
  pub linked : Linked rs n
  pub in_wanted : n ≤ length ws
  pub in_places : n ≤ length places
  pub known : t < n
  pub deep : i + 2 * t ≤ 4096
  pub met : Met places terms indents m

pub record Done (rs ws terms indents : List ℕ) (m i t : ℕ) (places' terms' indents' : List ℕ) (m' : ℕ) : Type 0 where
  pub met : Met places' terms' indents' m'
  pub same : bounds terms' indents' m' ≡ met_at (kids_at rs) (wanted_at ws) i t (bounds terms indents m)

-- 1 where a term of this count and this size, cut at 4, is to be bound
unfoldable pub flag_of : ℕ → ℕ → ℕ
flag_of count size = elim (ltb 1 count && leb 4 size) [ true ↦ 1 | false ↦ 0 ]

-- the first n counts are turned into flags
abbrev pub Marked : List ℕ → List ℕ → List ℕ → ℕ → Type 0
Marked counts sizes wanted n = (t : ℕ) → t < n → get_or wanted t 0 ≡ flag_of (get_or counts t 0) (get_or sizes t 0)

-- the tables that the bindings start from: all zero, and long enough
pub record Blank (counts sizes places terms indents : List ℕ) (n : ℕ) : Type 0 where
  pub counts_zero : Most 0 counts
  pub sizes_zero : Most 0 sizes
  pub places_zero : Most 0 places
  pub in_counts : n ≤ length counts
  pub in_sizes : n ≤ length sizes
  pub in_places : n ≤ length places
  pub in_terms : length places ≤ length terms
  pub in_indents : length indents ≡ length terms

-- the bindings of the last of the first n terms, and their places
pub record AllMet (rs places terms indents : List ℕ) (n m : ℕ) : Type 0 where
  pub met : Met places terms indents m
  pub same : bounds terms indents m ≡ bindings (kids_at rs) (n - 1)
