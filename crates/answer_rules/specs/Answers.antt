-- An answer that is a value or a refusal, with the store on return. Assumes nothing: definitions.
use Rattle.refusal.specs.declared.Refusal.{Refusal}
use Rattle.refusal.specs.Numbers.{refusal_no}
pub use Rattle.refusal.specs.Answer.{Answer, value, refusal}
use Rattle.term_rules.specs.Lent.{Store}

-- What a call gives back: its answer, and the lent store as it is then.
pub record After (A : Type 0) : Type 0 where
  pub answer : Answer A
  pub store : Store

abbrev pub found : {A : Type 0} → A → Store → After A
found a s = record { answer = value a; store = s }

-- "Each returns its number alone. Nothing lent is changed."
abbrev pub refused : {A : Type 0} → Refusal → Store → After A
refused r s = record { answer = refusal (refusal_no r); store = s }
