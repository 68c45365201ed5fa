-- What the program leaves in its buffer. Assumes nothing.
use Rattle.std.specs.Prelude.{Result, Ok, Err}
use mathlib.Core.Path.{◌≡◌, refl, sym, ap, subst, ◌∙◌}
use mathlib.Core.Bool.{Bool, true, false}
use mathlib.Core.List.{List, [], ◌++◌, append_assoc}
use Prim.Native.Nat.{ℕ, ◌+◌, ◌<◌, ◌≤◌}
use native.Mathlib.Omega.{arith}
use lib.Dec.{leb}
use lib.ListN.{length, take, drop, length-append, take-append-drop}
use lib.Seq.{length-take-le, take_at, drop-append-le}
use borrow.Author.Tests.{leb-true}
use Rattle.refusal.specs.declared.Refusal.{Refusal}
use Rattle.refusal.specs.declared.Refusal.TheVariants.{NoRoom}
use Rattle.refusal.specs.Numbers.{refusal_no}
use Rattle.refusal.specs.Answer.{refuse}
use Rattle.decimal.specs.Written.{Wrote}
use Rattle.answer_rules.specs.Answers.{Answer, value, refusal}
use Rattle.program_rules.specs.Lines.{refused_line}
use Rattle.program_rules.specs.Step.{Step}
use Rattle.program_rules.proofs.headlines.StepLaws.{step-whole}
use Rattle.program_rules.proofs.Replies.RoomLaws.{fits, no_room}
use Rattle.program_rules.specs.Reply.{answer_to, in_room, put_in, replied, written, reply, responded, Replied}
use Rattle.program_rules.specs.Seen.{seen}

is_value : Answer ℕ → ℕ
is_value (value n) = 1
is_value (refusal k) = 0

value_in : Answer ℕ → ℕ
value_in (value n) = n
value_in (refusal k) = k

-- by what was put into a buffer p
module _ (p : List ℕ) where
  pub record IsWritten (a : Answer (List ℕ)) (n : ℕ) (after : List ℕ) : Type 0 where
    pub text : List ℕ
    pub is : a ≡ value text
    pub long : n ≡ length text
    pub bytes : after ≡ text ++ drop (length text) p

  pub record IsRefused (a : Answer (List ℕ)) (k : ℕ) (after : List ℕ) : Type 0 where
    pub is : a ≡ refusal k
    pub stays : after ≡ p

  pub when-written :
      (a : Answer (List ℕ)) (n : ℕ) (after : List ℕ) → seen (Ok n) after ≡ put_in a p → IsWritten a n after
  unfolding put_in is_value value_in
  when-written (value text) n after e = record {
    text = text;
    is = refl;
    long = ap (λ (x : Replied). value_in x.answer) e;
    bytes = ap (λ (x : Replied). x.out) e;
  }
  when-written (refusal k) n after e =
      let z : ◌≡◌ {A = ℕ} 1 0 = ap (λ (x : Replied). is_value x.answer) e in
      let f : ⊥ = omega (arith, z) in
      absurd f

  pub when-refused :
      (a : Answer (List ℕ)) (r : Refusal) (after : List ℕ) →
      seen (Err r) after ≡ put_in a p →
      IsRefused a (refusal_no r) after
  unfolding put_in is_value value_in
  when-refused (value text) r after e =
      let z : ◌≡◌ {A = ℕ} 0 1 = ap (λ (x : Replied). is_value x.answer) e in
      let f : ⊥ = omega (arith, z) in
      absurd f
  when-refused (refusal k) r after e = record {
    is = ap refusal (sym (ap (λ (x : Replied). value_in x.answer) e));
    stays = ap (λ (x : Replied). x.out) e;
  }

is_text : Answer (List ℕ) → ℕ
is_text (value t) = 1
is_text (refusal k) = 0

text_in : Answer (List ℕ) → List ℕ
text_in (value t) = t
text_in (refusal k) = []

-- a text that is told has room
in-room-fits : (n : ℕ) (a : Answer (List ℕ)) (text : List ℕ) → in_room n a ≡ value text → length text ≤ n
unfolding in_room is_text text_in
in-room-fits n (value t) text e = by (leb (length t) n) refl e
  where
    by :
        (b : Bool) →
        leb (length t) n ≡ b →
        ◌≡◌ {A = Answer (List ℕ)} (elim b [ true ↦ value t | false ↦ refuse NoRoom ]) (value text) →
        length text ≤ n
    by true l h = subst (λ (x : List ℕ). length x ≤ n) (ap text_in h) (leb-true (length t) n l)
    by false l h =
        let z : ◌≡◌ {A = ℕ} 0 1 = ap is_text h in
        let f : ⊥ = omega (arith, z) in
        absurd f
in-room-fits n (refusal k) text e =
    let z : ◌≡◌ {A = ℕ} 0 1 = ap is_text e in
    let f : ⊥ = omega (arith, z) in
    absurd f

module _ (input out : List ℕ) (room : ℕ) (er : room ≡ 16384) (l : room ≤ length out) where
  part-long : length (take room out) ≡ room
  part-long = length-take-le room out l

  reply-is : (a : Answer (List ℕ)) → in_room (length (take room out)) (answer_to input) ≡ a → reply input ≡ written a
  unfolding reply
  reply-is a e =
      ap (λ (n : ℕ). written (in_room n (answer_to input))) (sym (part-long ∙ er)) ∙ ap written e

  -- the text stands at the front of the whole buffer
  pub wrote-text :
      (n : ℕ) (after : List ℕ) →
      seen (Ok n) after ≡ replied input (take room out) →
      Wrote (reply input) n out (after ++ drop room out)
  unfolding replied written
  wrote-text n after e =
      let w = when-written (take room out) (in_room (length (take room out)) (answer_to input)) n after e in
      let small : length w.text ≤ length (take room out) =
      in-room-fits (length (take room out)) (answer_to input) w.text w.is in
      let same : reply input ≡ w.text = reply-is (value w.text) w.is in
      let whole : after ++ drop room out ≡ w.text ++ drop (length w.text) out =
      ap (λ (x : List ℕ). x ++ drop room out) w.bytes
      ∙ (append_assoc w.text (drop (length w.text) (take room out)) (drop room out)
      ∙ ap (λ (x : List ℕ). w.text ++ x)
      (sym (drop-append-le (length w.text) (take room out) (drop room out) small)
      ∙ ap (drop (length w.text)) (take-append-drop room out))) in
      subst (λ (x : List ℕ). Wrote x n out (after ++ drop room out)) (sym same)
      (record { long = w.long; bytes = whole })

  -- the refusal's line stands there
  pub wrote-line :
      (r : Refusal) (after : List ℕ) →
      seen (Err r) after ≡ replied input (take room out) →
      (z : ℕ) (o₂ : List ℕ) →
      Step (refused_line (refusal_no r)) 0 z (after ++ drop room out) o₂ →
      Wrote (reply input) z out o₂
  unfolding replied written
  wrote-line r after e z o₂ s =
      let w = when-refused (take room out) (in_room (length (take room out)) (answer_to input)) r after e in
      let same : reply input ≡ refused_line (refusal_no r) = reply-is (refusal (refusal_no r)) w.is in
      let back : after ++ drop room out ≡ out =
      ap (λ (x : List ℕ). x ++ drop room out) w.stays ∙ take-append-drop room out in
      let q = step-whole out (refused_line (refusal_no r)) o₂ z
      (subst (λ (x : List ℕ). Step (refused_line (refusal_no r)) 0 z x o₂) back s) in
      subst (λ (x : List ℕ). Wrote x z out o₂) (sym same) (record { long = q.0; bytes = q.1 })

-- What was written is part of the buffer ..
pub wrote-inside :
    (text before after : List ℕ) (r : ℕ) → Wrote text r before after → (r ≤ length after) × (length text ≤ length after)
wrote-inside text before after r w =
    let long : length after ≡ length text + length (drop (length text) before) =
    ap length w.bytes ∙ length-append text (drop (length text) before) in
    (omega (arith, long, w.long), omega (arith, long))

-- .. and stands at its front.
pub wrote-front : (text before after : List ℕ) (r : ℕ) → Wrote text r before after → take r after ≡ text
wrote-front text before after r w = rw w.bytes (take_at text (drop (length text) before) r (sym w.long))

-- What the program writes, in a buffer that has room for it ..
pub responds :
    (input before after : List ℕ) (r : ℕ) →
    Wrote (reply input) r before after →
    length after ≡ length before →
    seen (Ok r) after ≡ responded input before
unfolding responded
responds input before after r w e =
    fits (reply input) before after r
    (subst (λ (n : ℕ). length (reply input) ≤ n) e (wrote-inside (reply input) before after r w).1) w.long w.bytes

-- .. as a piece of text at its start ..
pub responds-piece :
    (input before after piece : List ℕ) (r : ℕ) →
    piece ≡ reply input →
    Step piece 0 r before after →
    length after ≡ length before →
    seen (Ok r) after ≡ responded input before
responds-piece input before after piece r e s same =
    let q = step-whole before (reply input) after r (subst (λ (x : List ℕ). Step x 0 r before after) e s) in
    responds input before after r (record { long = q.0; bytes = q.1 }) same

-- .. and in one that has not.
pub responds_not :
    (input before : List ℕ) (n : ℕ) →
    n ≡ length (reply input) →
    length before < n →
    seen (Err NoRoom) before ≡ responded input before
unfolding responded
responds_not input before n e l = no_room (reply input) before (subst (λ (x : ℕ). length before < x) e l)

-- What is told to be written is part of the buffer.
pub response-inside :
    (input before after : List ℕ) (r : Result ℕ Refusal) (k : ℕ) →
    seen r after ≡ responded input before →
    r ≡ Ok k →
    k ≤ length after
unfolding responded
response-inside input before after r k e is =
    let w = when-written before (in_room (length before) (value (reply input))) k after
    (subst (λ (x : Result ℕ Refusal). seen x after ≡ put_in (in_room (length before) (value (reply input))) before) is e) in
    let long : length after ≡ length w.text + length (drop (length w.text) before) =
    ap length w.bytes ∙ length-append w.text (drop (length w.text) before) in
    omega (arith, long, w.long)
