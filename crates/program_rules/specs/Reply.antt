-- What the program writes: document 01, 'The program'. Assumes nothing: definitions.
use Rattle.std.specs.Prelude.{Bool, true, false, List, [], ◌∷◌, ◌++◌, ℕ, suc, eqb, leb, pos, length, drop, take, replicate}
use Rattle.name.specs.Entries.{table_length}
use Rattle.refusal.specs.Answer.{refuse}
use Rattle.refusal.specs.declared.Refusal.TheVariants.{NoRoom}
use Rattle.bits.specs.Got.{got, refused as fault}
use Rattle.program_rules.specs.Lines.{best_line, variants_line, variant_line, refused_line}
use Rattle.term_rules.specs.Lent.{Store, store, records_length}
use Rattle.text_rules.specs.PlainText.{plain_text}
use Rattle.text_rules.specs.LetText.{Naming, let_text}
use Rattle.answer_rules.specs.Answers.{Answer, value, refusal, After}
use Rattle.answer_rules.specs.Best.{BestTerm, best_at}
use Rattle.answer_rules.specs.Variants.{Kept, Lending, VariantsAfter, variants_at}
use Rattle.program_rules.specs.Query.{Query, query_at}

-- "the store starts empty": with room for all that document 01 allows.
unfoldable pub empty_store : Store
empty_store = store (replicate (records_length 1024) 0) (replicate 1024 (pos 0)) (replicate table_length 0) 0 0

-- Room for as many variants as a query can ask for.
unfoldable pub empty_lending : Lending
empty_lending = record { store = empty_store; costs = replicate 256 0; terms = replicate 256 0 }

-- "Let text uses no prefix, hint `t`, start 0, no zero flag."
abbrev pub let_naming : Naming
let_naming = record { prefix = []; hint = 116 ∷ []; start = 0; bare_zero = false }

-- "Every line ends in a newline."
abbrev pub end_line : List ℕ
end_line = 10 ∷ []

-- "`best C N P`, then the text", plain or with lets.
unfoldable pub best_reply : Bool → Store → BestTerm → List ℕ
best_reply plain s b =
    best_line b.cost s.terms b.passes
    ++ (elim plain [ true ↦ plain_text s b.term | false ↦ let_text s let_naming b.term ] ++ end_line)

-- "`variant I C N` and the plain text"
unfoldable pub variant_reply : Store → ℕ → ℕ → ℕ → List ℕ
variant_reply s i w t = variant_line i w s.terms ++ (plain_text s t ++ end_line)

-- "K times", I from the number given: costs ws and terms ts.
unfoldable pub variant_replies : Store → ℕ → List ℕ → List ℕ → List ℕ
variant_replies s i [] ts = []
variant_replies s i (w ∷ ws) [] = []
variant_replies s i (w ∷ ws) (t ∷ ts) = variant_reply s i w t ++ variant_replies s (suc i) ws ts

-- "`variants K P`, then K times .."
unfoldable pub variants_text : Store → List ℕ → List ℕ → ℕ → ℕ → List ℕ
variants_text s costs terms k p = variants_line k p ++ variant_replies s 1 (take k costs) (take k terms)

unfoldable pub variants_reply : VariantsAfter → Kept → List ℕ
variants_reply a k = variants_text a.store a.costs a.terms k.count k.passes

unfoldable pub best_answer : Bool → Store → Answer BestTerm → Answer (List ℕ)
best_answer plain s (value b) = value (best_reply plain s b)
best_answer plain s (refusal k) = refusal k

unfoldable pub variants_answer : VariantsAfter → Answer Kept → Answer (List ℕ)
variants_answer a (value k) = value (variants_reply a k)
variants_answer a (refusal k) = refusal k

-- The two calls that a query can make, on a store that starts empty: a text or a refusal.
unfoldable pub best_told : Bool → After BestTerm → Answer (List ℕ)
best_told plain a = best_answer plain a.store a.answer

unfoldable pub best_call : Bool → List ℕ → ℕ → ℕ → Answer (List ℕ)
best_call plain file sort v = best_told plain (best_at file sort v empty_store)

unfoldable pub variants_told : VariantsAfter → Answer (List ℕ)
variants_told a = variants_answer a a.answer

unfoldable pub variants_call : List ℕ → ℕ → ℕ → ℕ → Answer (List ℕ)
variants_call file sort v most = variants_told (variants_at file sort v most empty_lending)

-- "0 best with let text, 1 variants, 2 best with plain text"
unfoldable pub call_of : Query → List ℕ → Answer (List ℕ)
call_of q file =
    elim (eqb q.mode 1) [
      | true ↦ variants_call file q.sort q.value q.most
      | false ↦ best_call (eqb q.mode 2) file q.sort q.value
    ]

-- "The program reads its query fields first, in order, each checked as it is read (1, or 16 at the mode), then makes
-- the call."
unfoldable pub answer_to : List ℕ → Answer (List ℕ)
answer_to input =
    elim (query_at input) [
      | fault r ↦ refuse r
      | got q p ↦ call_of q (drop 3 input)
    ]

-- "Output in at most .. bytes, else NoRoom": a text where there is room for n bytes.
unfoldable pub in_room : ℕ → Answer (List ℕ) → Answer (List ℕ)
in_room n (value text) = elim (leb (length text) n) [ true ↦ value text | false ↦ refuse NoRoom ]
in_room n (refusal k) = refusal k

-- What is written: the text, or "`refused K`".
unfoldable pub written : Answer (List ℕ) → List ℕ
written (value text) = text
written (refusal k) = refused_line k

-- What the program writes: "Output in at most 16,384 bytes".
unfoldable pub reply : List ℕ → List ℕ
reply input = written (in_room 16384 (answer_to input))

-- What a call on a lent buffer gives back: the length of the text, or a refusal; and the buffer as it is then.
pub record Replied : Type 0 where
  pub answer : Answer ℕ
  pub out : List ℕ

-- The text stands at the start of the buffer, and what is past it stays; a refusal changes nothing.
unfoldable pub put_in : Answer (List ℕ) → List ℕ → Replied
put_in (value text) out = record { answer = value (length text); out = text ++ drop (length text) out }
put_in (refusal k) out = record { answer = refusal k; out = out }

-- The answer to an input in a lent buffer: NoRoom exactly where the text is longer than the buffer.
unfoldable pub replied : List ℕ → List ℕ → Replied
replied input out = put_in (in_room (length out) (answer_to input)) out

-- What the program writes, in a lent buffer: NoRoom exactly where that is longer than the buffer.
unfoldable pub responded : List ℕ → List ℕ → Replied
responded input out = put_in (in_room (length out) (value (reply input))) out
