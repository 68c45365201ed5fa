-- What the program's function promises, beside its contracts: document 01, 'The program' and 'Refusal numbers'.
-- `replied` and `responded` are the definitions that `answer` and `respond` equal, `answer_to` is what answers an input and
-- `reply` what the program writes. Assumes nothing: a record, with one field for each theorem.
use Rattle.std.specs.Prelude.{Result}
use Rattle.std.specs.Prelude.{ℕ, ◌<◌, ◌≤◌, ◌≡◌, List, ◌++◌, length, drop}
use Rattle.refusal.specs.declared.Refusal.{Refusal}
use Rattle.refusal.specs.declared.Refusal.TheVariants.{NoRoom}
use Rattle.refusal.specs.Numbers.{refusal_no}
use Rattle.refusal.specs.Answer.{value, refusal}
use Rattle.program_rules.specs.Lines.{refused_line}
use Rattle.program_rules.specs.Reply.{answer_to, reply, Replied, replied, responded}
use Rattle.program_rules.specs.Seen.{seen}

-- The text stands at the start of the buffer, its length is told, and what is past it stays.
pub record Stands (text out : List ℕ) (r : Replied) : Type 0 where
  pub long : r.answer ≡ value (length text)
  pub bytes : r.out ≡ text ++ drop (length text) out

-- "Each returns its number alone. Nothing lent is changed."
pub record Refuses (k : ℕ) (out : List ℕ) (r : Replied) : Type 0 where
  pub number : r.answer ≡ refusal k
  pub unchanged : r.out ≡ out

pub record Promises : Type 0 where
  -- A text that answers an input stands in a lent buffer that has room for it;
  pub written :
      (input out text : List ℕ) →
      answer_to input ≡ value text →
      length text ≤ length out →
      Stands text out (replied input out)
  -- NoRoom where "the result [exceeds] its lent buffer";
  pub too_long :
      (input out text : List ℕ) →
      answer_to input ≡ value text →
      length out < length text →
      Refuses (refusal_no NoRoom) out (replied input out)
  -- a refusal of the query, the file, the root or the store, whatever the buffer.
  pub refused : (input out : List ℕ) (k : ℕ) → answer_to input ≡ refusal k → Refuses k out (replied input out)
  -- "`refused K` with its number": each is one of the table's.
  pub known : (input : List ℕ) (k : ℕ) → answer_to input ≡ refusal k → (r : Refusal) × (k ≡ refusal_no r)
  -- "Output in at most 16,384 bytes, else NoRoom"; "A refusal prints `refused K` with its number."
  pub text : (input text : List ℕ) → answer_to input ≡ value text → length text ≤ 16384 → reply input ≡ text
  pub no_room :
      (input text : List ℕ) →
      answer_to input ≡ value text →
      16384 < length text →
      reply input ≡ refused_line (refusal_no NoRoom)
  pub line : (input : List ℕ) (k : ℕ) → answer_to input ≡ refusal k → reply input ≡ refused_line k
  pub at_most : (input : List ℕ) → length (reply input) ≤ 16384
  -- What is written stands in a lent buffer that has room for it, else NoRoom.
  pub responds :
      (input out : List ℕ) → length (reply input) ≤ length out → Stands (reply input) out (responded input out)
  pub responds_not :
      (input out : List ℕ) → length out < length (reply input) → Refuses (refusal_no NoRoom) out (responded input out)
  -- "any two results allowed by a statement coincide": of `answer`, and of `respond`.
  pub one_answer :
      (input out a b : List ℕ) (r q : Result ℕ Refusal) →
      seen r a ≡ replied input out →
      seen q b ≡ replied input out →
      (r ≡ q) × (a ≡ b)
  pub one_response :
      (input out a b : List ℕ) (r q : Result ℕ Refusal) →
      seen r a ≡ responded input out →
      seen q b ≡ responded input out →
      (r ≡ q) × (a ≡ b)
