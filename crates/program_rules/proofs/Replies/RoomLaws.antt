-- A text in a lent buffer: written where it fits, else NoRoom. Assumes nothing.
use mathlib.Core.Path.{◌≡◌, refl}
use mathlib.Core.List.{List, ◌++◌}
use Prim.Native.Nat.{ℕ, ◌<◌, ◌≤◌}
use lib.ListN.{length, drop}
use borrow.Author.Tests.{le-leb, lt-leb}
use Rattle.std.specs.Prelude.{Ok, Err}
use Rattle.refusal.specs.declared.Refusal.TheVariants.{NoRoom}
use Rattle.refusal.specs.Answer.{refuse}
use Rattle.answer_rules.specs.Answers.{value}
use Rattle.program_rules.specs.Reply.{in_room, put_in}
use Rattle.program_rules.specs.Seen.{seen}

pub in-room : (text : List ℕ) (n : ℕ) → length text ≤ n → in_room n (value text) ≡ value text
unfolding in_room
in-room text n l = rw (le-leb _ _ l, in_room) refl

pub not-in-room : (text : List ℕ) (n : ℕ) → n < length text → in_room n (value text) ≡ refuse NoRoom
unfolding in_room
not-in-room text n l = rw (lt-leb _ _ l, in_room) refl

pub fits :
    (text out after : List ℕ) (n : ℕ) →
    length text ≤ length out →
    n ≡ length text →
    after ≡ text ++ drop (length text) out →
    seen (Ok n) after ≡ put_in (in_room (length out) (value text)) out
unfolding put_in
fits text out after n l e b = rw (in-room text (length out) l, put_in) (rw (e, b) refl)

pub no_room :
    (text out : List ℕ) → length out < length text → seen (Err NoRoom) out ≡ put_in
    (in_room (length out) (value text)) out
unfolding put_in
no_room text out l = rw (not-in-room text (length out) l, put_in) refl
