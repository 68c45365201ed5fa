-- The text of the best term, plain or with lets. Assumes nothing: definitions.
use Rattle.std.specs.Prelude.{ℕ, Bool, true, false, List, length}
use Rattle.refusal.specs.Numbers.{refusal_no}
use Rattle.refusal.specs.declared.Refusal.TheVariants.{NoRoom}
use Rattle.term_rules.specs.Lent.{Store}
use Rattle.text_rules.specs.PlainText.{plain_text}
use Rattle.text_rules.specs.LetText.{let_text}
use Rattle.text_whole.specs.Placed.{Answer, written, refusal, Told, placed}
use Rattle.text_whole.specs.LetPlaced.{LetAnswer, written as let_written, refusal as let_refusal}
use Rattle.program_rules.specs.Reply.{let_naming}

unfoldable pub best_text : Bool → Store → ℕ → List ℕ
best_text true s t = plain_text s t
best_text false s t = let_text s let_naming t

-- The text in its place, or NoRoom.
abbrev pub best_placed : Bool → Store → ℕ → List ℕ → Told Answer
best_placed plain s t out =
    placed (best_text plain s t) (written (length (best_text plain s t))) (refusal (refusal_no NoRoom)) out

-- The answer for let text without the next unused count.
abbrev pub uncounted : LetAnswer → Answer
uncounted (let_written n next) = written n
uncounted (let_refusal k) = refusal k
