-- What the promises of the program rest on: the answer in a buffer, by what answers the input and whether it has room.
-- Assumes nothing.
use Rattle.std.specs.Prelude.{Result, Ok, Err}
use Prim.Native.Nat.{ℕ, ◌<◌, ◌≤◌}
use mathlib.Core.Path.{◌≡◌, refl, sym, ap, subst, ◌∙◌}
use mathlib.Core.Bool.{Bool, true, false}
use mathlib.Core.List.{List}
use native.Mathlib.Omega.{arith}
use borrow.Author.Tests.{leb-true}
use lib.Dec.{leb}
use lib.ListN.{length}
use Rattle.refusal.specs.declared.Refusal.{Refusal}
use Rattle.refusal.specs.declared.Refusal.TheVariants.{NoRoom}
use Rattle.refusal.specs.Numbers.{refusal_no}
use Rattle.refusal.specs.Answer.{Answer, value, refusal, refuse}
use Rattle.refusal.proofs.NumberLaws.{number-once}
use Rattle.program_rules.specs.Lines.{refused_line}
use Rattle.program_rules.specs.Reply.{answer_to, in_room, written, reply, Replied, put_in}
use Rattle.program_rules.specs.Seen.{answer_of, seen}
use Rattle.program_rules.proofs.headlines.LineLaws.{digits-few, refused-length}
use Rattle.program_rules.proofs.Replies.RoomLaws.{in-room, not-in-room}
use Rattle.program_rules.proofs.Replies.KnownLaws.{in_table, Known, answer-known, room-known}
use Rattle.program.specs.Promises.{Stands, Refuses}

-- An answer in a buffer.
module _ (out : List ℕ) where
  pub text-stands :
      (a : Answer (List ℕ)) (text : List ℕ) →
      a ≡ value text →
      length text ≤ length out →
      Stands text out (put_in (in_room (length out) a) out)
  unfolding put_in
  text-stands a text e l =
      subst (λ (x : Answer (List ℕ)). Stands text out (put_in x out))
      (sym (ap (in_room (length out)) e ∙ in-room text (length out) l)) (record { long = refl; bytes = refl })

  pub text-refused :
      (a : Answer (List ℕ)) (text : List ℕ) →
      a ≡ value text →
      length out < length text →
      Refuses (refusal_no NoRoom) out (put_in (in_room (length out) a) out)
  unfolding put_in
  text-refused a text e l =
      subst (λ (x : Answer (List ℕ)). Refuses (refusal_no NoRoom) out (put_in x out))
      (sym (ap (in_room (length out)) e ∙ not-in-room text (length out) l)) (record { number = refl; unchanged = refl })

  pub refusal-refused :
      (a : Answer (List ℕ)) (k : ℕ) → a ≡ refusal k → Refuses k out (put_in (in_room (length out) a) out)
  unfolding put_in in_room
  refusal-refused a k e =
      subst (λ (x : Answer (List ℕ)). Refuses k out (put_in (in_room (length out) x) out)) (sym e)
      (record { number = refl; unchanged = refl })

-- What the program writes.
module _ (input : List ℕ) where
  pub reply-text : (text : List ℕ) → answer_to input ≡ value text → length text ≤ 16384 → reply input ≡ text
  unfolding reply written
  reply-text text e l = ap written (ap (in_room 16384) e ∙ in-room text 16384 l)

  pub reply-no-room :
      (text : List ℕ) → answer_to input ≡ value text → 16384 < length text → reply input ≡ refused_line (refusal_no NoRoom)
  unfolding reply written
  reply-no-room text e l = ap written (ap (in_room 16384) e ∙ not-in-room text 16384 l)

  pub reply-line : (k : ℕ) → answer_to input ≡ refusal k → reply input ≡ refused_line k
  unfolding reply written in_room
  reply-line k e = ap (λ (a : Answer (List ℕ)). written (in_room 16384 a)) e

short-line : (k : ℕ) → (r : Refusal) × (k ≡ refusal_no r) → length (refused_line k) ≤ 16384
short-line k h =
    let l : k ≤ 17 = omega (arith, h.1, (in_table h.0).to_17) in
    omega (arith, refused-length k, digits-few k (omega (arith, l)))

written-at-most : (a : Answer (List ℕ)) → Known (in_room 16384 a) → length (written (in_room 16384 a)) ≤ 16384
unfolding in_room written
written-at-most (value text) h = by (leb (length text) 16384) refl
  where
    by :
        (b : Bool) →
        leb (length text) 16384 ≡ b →
        length (written (elim b [ true ↦ value text | false ↦ refuse NoRoom ])) ≤ 16384
    by true l = leb-true (length text) 16384 l
    by false l = short-line (refusal_no NoRoom) (NoRoom, refl)
written-at-most (refusal k) h = short-line k h

pub reply-at-most : (input : List ℕ) → length (reply input) ≤ 16384
unfolding reply
reply-at-most input = written-at-most (answer_to input) (room-known 16384 (answer_to input) (answer-known input))

-- The code's answer is told by its numbers alone.
is_text : Answer ℕ → ℕ
is_text (value n) = 1
is_text (refusal k) = 0

number_in : Answer ℕ → ℕ
number_in (value n) = n
number_in (refusal k) = k

pub not-value : (n k : ℕ) → ◌≡◌ {A = Answer ℕ} (value n) (refusal k) → ⊥
unfolding is_text
not-value n k e =
    let z : ◌≡◌ {A = ℕ} 1 0 = ap is_text e in
    omega (arith, z)

same_answer : (r q : Result ℕ Refusal) → answer_of r ≡ answer_of q → r ≡ q
unfolding number_in
same_answer (Ok n) (Ok m) e = ap (λ (a : Answer ℕ). Ok (number_in a)) e
same_answer (Ok n) (Err y) e = absurd (not-value n (refusal_no y) e)
same_answer (Err x) (Ok m) e = absurd (not-value m (refusal_no x) (sym e))
same_answer (Err x) (Err y) e = ap Err (number-once x y (ap number_in e))

pub one_seen : (a b : List ℕ) (r q : Result ℕ Refusal) → seen r a ≡ seen q b → (r ≡ q) × (a ≡ b)
one_seen a b r q e = (
  same_answer r q (ap (λ (x : Replied). x.answer) e),
  ap (λ (x : Replied). x.out) e,
)
