-- The code's answer, with the lent buffer as it is left. Assumes nothing: definitions.
use Rattle.std.specs.Prelude.{ℕ, List, Result, Ok, Err}
use Rattle.refusal.specs.declared.Refusal.{Refusal}
use Rattle.refusal.specs.Numbers.{refusal_no}
use Rattle.answer_rules.specs.Answers.{Answer, value, refusal}
use Rattle.program_rules.specs.Reply.{Replied}

-- how long the text is that was written, or why none was
abbrev pub answer_of : Result ℕ Refusal → Answer ℕ
answer_of (Ok n) = value n
answer_of (Err r) = refusal (refusal_no r)

abbrev pub seen : Result ℕ Refusal → List ℕ → Replied
seen r out = record { answer = answer_of r; out = out }
