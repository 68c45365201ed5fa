-- Tests on the flat lists of a lent store, and the record that is made of its parts. Assumes nothing: these are
-- definitions.
use Rattle.std.specs.Prelude.{ℕ, min, Bool, ◌&&◌, not, List, length, leb, ℤ}
use Rattle.name.specs.Name.{same}
use Rattle.name.specs.Entries.{name_at, entry_room}
use Rattle.term_rules.specs.declared.Term.{Term}
use Rattle.term_rules.specs.Lent.{record_room, record_in}
use Rattle.term_layout.specs.Padded.{padded}
use Rattle.term_rules.specs.WellFormed.{every, sound_record, same_term}

-- the record of these parts, with zeros past its children
abbrev pub filled : ℕ → ℕ → ℤ → List ℕ → Term
filled kind symbol z ks = padded kind symbol (length ks) z ks

-- the counts are within limits and lent lengths
unfoldable pub within : ℕ → ℕ → ℕ → ℕ → ℕ → Bool
within records literals names terms symbols =
    leb terms (min 1024 (min (record_room records) literals)) && leb symbols (min 128 (entry_room names))

-- no entry below k has the name of entry k
unfoldable pub fresh_name : List ℕ → ℕ → Bool
fresh_name ns k = every k (λ (j : ℕ). not (same (name_at ns j) (name_at ns k)))

-- no record below i is the same as record i
unfoldable pub fresh_record : List ℕ → List ℤ → ℕ → Bool
fresh_record rs ls i = every i (λ (j : ℕ). not (same_term (record_in rs ls j) (record_in rs ls i)))

abbrev pub sound_record_at : List ℕ → List ℤ → ℕ → ℕ → Bool
sound_record_at rs ls symbols i = sound_record symbols i (record_in rs ls i)
