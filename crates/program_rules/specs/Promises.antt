-- An input of which only the front is read has the answer of the whole: document 01, 'The table file', 'Refusal
-- numbers' and 'The program'. `table_at`, `answer_to` and `reply` are the definitions, on the whole file and the whole
-- input. Assumes nothing: definitions.
use Rattle.std.specs.Prelude.{ℕ, ◌≤◌, ◌<◌, ◌≡◌, List, length, take}
use Rattle.refusal.specs.declared.Refusal.{Refusal}
use Rattle.refusal.specs.declared.Refusal.TheVariants.{Short}
use Rattle.bits.specs.Got.{refused}
use Rattle.program_rules.specs.Lines.{refused_line}
use Rattle.file_rules.specs.File.{table_at}
use Rattle.answer_rules.specs.Answers.{refusal}
use Rattle.program_rules.specs.Reply.{answer_to, reply}

-- The input is refused, and this is written: "A refusal prints `refused K` with its number."
pub record Refuses (input : List ℕ) : Type 0 where
  pub number : ℕ
  pub answer : answer_to input ≡ refusal number
  pub line : reply input ≡ refused_line number

pub record Promises : Type 0 where
  -- "Short | the input ends before a field does": 21,385 bytes have every field that reading comes to.
  pub long_not_short : (s : List ℕ) → 21385 ≤ length s → table_at s ≡ refused Short → ⊥
  -- "The longest valid file has 21,385 bytes.": a file of more has a fault.
  pub long_refused : (s : List ℕ) → 21386 ≤ length s → (x : Refusal) × (table_at s ≡ refused x)
  -- "Fields are read in order, .. and the first fault decides.": the first 21,386 bytes, or any more of them, have the
  -- fault of the whole file, or its table.
  pub same_fault : (s : List ℕ) (n : ℕ) → 21386 ≤ n → table_at (take n s) ≡ table_at s
  -- "mode 2 bits .., sort 5, value 9, n 8; then the table file": three bytes and the file's first 21,386 are enough.
  pub same_answer : (input : List ℕ) (n : ℕ) → 21389 ≤ n → answer_to (take n input) ≡ answer_to input
  pub same_reply : (input : List ℕ) (n : ℕ) → 21389 ≤ n → reply (take n input) ≡ reply input
  -- Three bytes and the 21,385 of the longest valid file are 21,388: a longer input is refused.
  pub refused_if_long : (input : List ℕ) → 21388 < length input → Refuses input
