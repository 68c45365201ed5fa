-- What the readers of a name promise. Assumes nothing: definitions.
use Rattle.std.specs.Prelude.{ℕ, ◌≤◌, ◌≡◌, Bool, true, false, List, length, take, Option, Some, None, Result, Ok, Err}
use Rattle.name.specs.Entries.{table_length, entry, find_name, put_name}
use Rattle.refusal.specs.declared.Refusal.{Refusal}
use Rattle.refusal.specs.declared.Refusal.TheVariants.{DupName}
use Rattle.bits.specs.Got.{Got, got, refused, then, must}
use Rattle.file_rules.specs.Table.{Function}
use Rattle.file_rules.specs.Functions.{name_at}
use Rattle.file_rules.specs.Every.{Every}
use Rattle.file_rules.specs.Arrays.{pad, blocks}

-- The code's answer as a reading, with the name at the front of the buffer.
abbrev pub got_name : Result (ℕ × ℕ) Refusal → List ℕ → Got (List ℕ)
got_name (Ok (n, k)) buffer = got (take n buffer) k
got_name (Err r) buffer = refused r

-- The length that the answer tells.
abbrev pub name_length : Result (ℕ × ℕ) Refusal → ℕ
name_length (Ok (n, k)) = n
name_length (Err r) = 0

pub record NameIs (g : Got (List ℕ)) (r : Result (ℕ × ℕ) Refusal) (buffer : List ℕ) : Type 0 where
  pub answer : got_name r buffer ≡ g
  pub short : name_length r ≤ 31

unfoldable pub is_missing : Option ℕ → Bool
is_missing (Some k) = false
is_missing None = true

-- Whether none of the first i entries has the name.
unfoldable pub is_free : List ℕ → ℕ → List ℕ → Bool
is_free table i name = is_missing (find_name table i name)

-- The name at position `at`, which none of the first i entries has.
unfoldable pub free_name_at : List ℕ → List ℕ → ℕ → ℕ → Got (List ℕ)
free_name_at s table i at = then (name_at s at) (λ name p. must (is_free table i name) DupName (got name p))

-- The names of i functions in their table.
pub record HoldsNames (table : List ℕ) (i : ℕ) (fs : List Function) : Type 0 where
  pub count : length fs ≡ i
  pub short : Every (λ (f : Function). length f.name ≤ 31) fs
  pub are : table ≡ pad table_length (blocks (λ (f : Function). entry f.name) fs)

pub record PutName (i : ℕ) (table₀ table : List ℕ) (name : List ℕ) : Type 0 where
  pub put : table ≡ put_name table₀ i name
