-- The tables of counts and sizes. Assumes nothing: these are definitions.
use Rattle.std.specs.Prelude.{◌≡◌, List, ℕ, ◌+◌, ◌-◌, ◌<◌, ◌≤◌, min, length, get_or}
use Rattle.text_rules.specs.Counts.{places, count, sum_of, size}
use Rattle.term_rules.specs.Lent.{records_length, arity_at, kids_at}
use Rattle.text_pieces.specs.Readable.{Inside}

-- the children of the first n terms can be read, and are lower
pub record Linked (rs : List ℕ) (n : ℕ) : Type 0 where
  pub few : n ≤ 1024
  pub in_records : records_length n ≤ length rs
  pub arity : (t : ℕ) → t < n → arity_at rs t ≤ 8
  pub lower : (t : ℕ) → t < n → Inside t (kids_at rs t)

-- every number of the list is at most b
abbrev pub Most : ℕ → List ℕ → Type 0
Most b xs = (i : ℕ) → get_or xs i 0 ≤ b

-- one more for each child place
pub record Added (ks before after : List ℕ) : Type 0 where
  pub each : (x : ℕ) → x < length before → get_or after x 0 ≡ get_or before x 0 + places x ks

-- term t, if it has a count, gives one to each of its child places
pub record Given (t : ℕ) (ks before after : List ℕ) : Type 0 where
  pub none : get_or before t 0 ≡ 0 → after ≡ before
  pub some : 0 < get_or before t 0 → Added ks before after

-- the counts of the first n terms in the text of the last of them
abbrev pub Counts : List ℕ → List ℕ → ℕ → Type 0
Counts rs cs n = (t : ℕ) → t < n → get_or cs t 0 ≡ count (kids_at rs) (n - 1) t

-- "the port counts that as at least 4": sizes, 4 for 4 and more
abbrev pub Sizes : List ℕ → List ℕ → ℕ → Type 0
Sizes rs zs n = (t : ℕ) → t < n → get_or zs t 0 ≡ min 4 (size (kids_at rs) t)

-- the sum of the table's numbers at ks
abbrev pub sum_at : List ℕ → List ℕ → ℕ
sum_at zs ks = sum_of (λ (k : ℕ). get_or zs k 0) ks
