-- What the reader of table files promises, beside the contract of `read`: document 01, 'The table file' and 'Refusal
-- numbers'. `table_at` is the definition that `read` equals, `read_of` what it answers and leaves in the lent arrays.
-- Assumes nothing: definitions.
use Rattle.std.specs.Prelude.{ℕ, ◌≤◌, ◌<◌, ◌≡◌, List, ◌∷◌, ◌++◌, length, Result}
use Rattle.refusal.specs.declared.Refusal.{Refusal}
use Rattle.refusal.specs.Numbers.{refusal_no}
use Rattle.refusal.specs.Answer.{value, refusal}
use Rattle.refusal.specs.declared.Refusal.TheVariants.{Short, Trailing}
use Rattle.bits.specs.Bits.{bits_of}
use Rattle.bits.specs.Got.{got}
use Rattle.file_rules.specs.declared.Counts.{Counts as Told}
use Rattle.file_rules.specs.Table.{Table}
use Rattle.file_rules.specs.Every.{Every}
use Rattle.file_rules.specs.File.{table_at}
use Rattle.file_rules.specs.Accepted.{Accepted}
use Rattle.file_rules.specs.Code.{code_file}
use Rattle.file_rules.specs.Bytes.{file_of}
use Rattle.file.specs.Lent.{Arrays, seen, read_of, counts_of, arrays_of}

-- The file holds the table.
pub record Holding (s : List ℕ) (t : Table) : Type 0 where
  pub end : ℕ
  pub is : table_at s ≡ got t end

-- The number that the file is refused with, whatever was lent; "Nothing lent is changed."
pub record Refused (s : List ℕ) (k : ℕ) : Type 0 where
  pub number : (before : Arrays) → (read_of (table_at s) before).answer ≡ refusal k
  pub unchanged : (before : Arrays) → (read_of (table_at s) before).arrays ≡ before

-- The table is told by its counts, and stands in the arrays, whatever was lent.
pub record Read (s : List ℕ) (t : Table) : Type 0 where
  pub told : (before : Arrays) → (read_of (table_at s) before).answer ≡ value (counts_of t)
  pub stands : (before : Arrays) → (read_of (table_at s) before).arrays ≡ arrays_of t

abbrev pub Bytes : List ℕ → Type 0
Bytes s = Every (λ b. b < 256) s

-- A file of bytes that has 21,385 of them and holds a table.
pub record Attained : Type 0 where
  pub file : List ℕ
  pub table : Table
  pub bytes : Bytes file
  pub holding : Holding file table
  pub size : length file ≡ 21385

pub record Promises : Type 0 where
  -- "A file without a fault is accepted, and no other.": what is accepted is the bits of a table that is as `Accepted`
  -- says, so two different files never hold the same table;
  pub accepted : (s : List ℕ) (t : Table) → Holding s t → Accepted t
  pub file_is_code : (s : List ℕ) (t : Table) → Holding s t → bits_of s ≡ code_file t
  pub one_file : (s u : List ℕ) (t : Table) → Bytes s → Bytes u → Holding s t → Holding u t → s ≡ u
  -- and the bits of such a table are accepted, so that each has a file, which `file_of` makes.
  pub code_is_file : (s : List ℕ) (t : Table) → Accepted t → bits_of s ≡ code_file t → Holding s t
  pub every_table : (t : Table) → Accepted t → Holding (file_of t) t
  pub every_file : (t : Table) → Bytes (file_of t)
  -- Any other file is refused, with a number of the table.
  pub refused_otherwise :
      (s : List ℕ) →
      ((t : Table) → Accepted t → bits_of s ≡ code_file t → ⊥) →
      (x : Refusal) × Refused s (refusal_no x)
  -- An accepted file is read as its table.
  pub read : (s : List ℕ) (t : Table) → Holding s t → Read s t
  -- "The longest valid file has 21,385 bytes.": none is longer, and one is as long.
  pub longest : (s : List ℕ) (t : Table) → Holding s t → length s ≤ 21385
  pub attained : Attained
  -- "Fields are read in order .. and the first fault decides.": reading looks at no byte past the first fault's field, so
  -- whatever follows a fault other than Short, the refusal stays.
  pub fault_stays :
      (s rest : List ℕ) (k : ℕ) → Refused s k → (k ≡ refusal_no Short → ⊥) → Refused (s ++ rest) k
  -- "then the file ends": an accepted file with bytes after it is Trailing.
  pub nothing_follows :
      (s : List ℕ) (t : Table) (b : ℕ) (rest : List ℕ) → Holding s t → Refused (s ++ (b ∷ rest)) (refusal_no Trailing)
  -- Any two results that the contract of `read` allows coincide, and so do the lent contents.
  pub one_answer :
      (s : List ℕ) (before a b : Arrays) (r q : Result Told Refusal) →
      seen r a ≡ read_of (table_at s) before →
      seen q b ≡ read_of (table_at s) before →
      (r ≡ q) × (a ≡ b)
