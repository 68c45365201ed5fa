-- An answer that is a value or a refusal: document 01, 'Refusal numbers' and 'Forms that must change'.
-- Assumes nothing: definitions.
use Rattle.std.specs.Prelude.{ℕ}
use Rattle.refusal.specs.declared.Refusal.{Refusal}
use Rattle.refusal.specs.Numbers.{refusal_no}

-- "`Option` becomes an answer that is a value or a refusal"; "Each returns its number alone."
pub data Answer (A : Type 0) : Type 0 where
  value : A → Answer A
  refusal : ℕ → Answer A

-- A refusal, told by its number.
abbrev pub refuse : {A : Type 0} → Refusal → Answer A
refuse r = refusal (refusal_no r)
