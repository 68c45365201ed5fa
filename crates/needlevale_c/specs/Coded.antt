-- How an answer is told in one number: document 01's refusal numbers, below zero. Assumes nothing: definitions.
use Rattle.std.specs.Prelude.{◌≡◌, List, ℕ, ℤ, pos, neg_ℤ}
use Rattle.term_rules.specs.Lent.{Store}
use Rattle.term.specs.Answers as terms
use Rattle.answer_rules.specs.Answers.{Answer, value, refusal}
use Rattle.program_rules.specs.Reply.{Replied}

-- The length of a text, or the number of a refusal below zero.
abbrev pub coded : Answer ℕ → ℤ
coded (value n) = pos n
coded (refusal k) = neg_ℤ (pos k)

-- What the program's answer leaves: the number, and the lent buffer.
pub record Replies (wanted : Replied) (z : ℤ) (after : List ℕ) : Type 0 where
  pub number : z ≡ coded wanted.answer
  pub bytes : after ≡ wanted.out

-- The number of a term, or of a refusal below zero.
abbrev pub coded_term : terms.Answer ℕ → ℤ
coded_term (terms.given i) = pos i
coded_term (terms.refused k) = neg_ℤ (pos k)

-- What adding leaves: the number, and the lent records and literals of the store. Names are not lent to be changed.
pub record Adds (wanted : terms.Answer ℕ × Store) (z : ℤ) (records : List ℕ) (literals : List ℤ) : Type 0 where
  pub number : z ≡ coded_term wanted.0
  pub kept_records : records ≡ wanted.1.records
  pub kept_literals : literals ≡ wanted.1.literals
