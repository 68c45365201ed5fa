-- The adds made one by one: one step of the definition, what each add keeps, and what a list that is given has. Assumes
-- nothing.
use Prim.Native.Nat.{ℕ, zero, suc, ◌+◌, ◌≤◌, ◌<◌}
use mathlib.Core.Path.{◌≡◌, refl, sym, ap, ◌∙◌}
use mathlib.Core.List.{List, [], ◌∷◌, ◌++◌}
use native.Mathlib.Omega.{arith}
use borrow.Author.Tests.{lt-ltb, le-ltb, ltb-true, ltb-false}
use lib.Dec.{ltb}
use lib.ListN.{length, length-append}
use Rattle.refusal.specs.declared.Refusal.TheVariants.{NoRoom}
use Rattle.term_rules.specs.Lent.{Store}
use Rattle.term_rules.specs.Nodes.{Node, literal, variable, application}
use Rattle.term_rules.specs.Growing.{Takes}
use Rattle.term_rules.proofs.TestLaws.{cases}
use Rattle.term.specs.Answers.{Answer, given, refused, refuse}
use Rattle.term.proofs.DeterminedLaws.{given-same, given-refused}
use Rattle.term.proofs.Promises.{promises}
use Rattle.term_one.specs.Wanted.{Wanted, Asked, node, fault, asked_at, settled}
use Rattle.term_one.specs.One.{single, add_one}
use Rattle.term_many.specs.Many.{add_from}

-- an answer is a value or a refusal
pub answer-cases :
    {P A : Type 0} (a : Answer A) → ((v : A) → a ≡ given v → P) → ((k : ℕ) → a ≡ refused k → P) → P
answer-cases (given v) f g = f v refl
answer-cases (refused k) f g = g k refl

-- the store's own calls: a number comes with the term in a store that grew, a refusal with the store as it was
pub single-takes : (s : Store) (a : Node) (i : ℕ) → (single s a).0 ≡ given i → Takes s a i (single s a).1
unfolding single
single-takes s (literal z) i e = (promises.literal_added s z).takes i e
single-takes s (variable n) i e = (promises.variable_added s n).takes i e
single-takes s (application n ks) i e = (promises.application_added s n ks).takes i e

pub single-kept : (s : Store) (a : Node) (k : ℕ) → (single s a).0 ≡ refused k → (single s a).1 ≡ s
unfolding single
single-kept s (literal z) k e = (promises.literal_added s z).unchanged k e
single-kept s (variable n) k e = (promises.variable_added s n).unchanged k e
single-kept s (application n ks) k e = (promises.application_added s n ks).unchanged k e

-- an add of the list: it asked for a node, which is a term now
pub record Took (s : Store) (got : List ℕ) (q : Asked) (i : ℕ) (t : Store) : Type 0 where
  pub asked : Node
  pub is : q ≡ node asked
  pub takes : Takes s (settled got asked) i t

pub one-takes :
    (s : Store) (got : List ℕ) (q : Asked) (i : ℕ) → (add_one s got q).0 ≡ given i → Took s got q i (add_one s got q).1
unfolding add_one
one-takes s got (node a) i e =
    record { asked = a; is = refl; takes = single-takes s (settled got a) i e }
one-takes s got (fault r) i e = given-refused (sym e)

pub one_kept :
    (s : Store) (got : List ℕ) (q : Asked) (k : ℕ) → (add_one s got q).0 ≡ refused k → (add_one s got q).1 ≡ s
unfolding add_one
one_kept s got (node a) k e = single-kept s (settled got a) k e
one_kept s got (fault r) k e = refl

-- one step
module _ (w : Wanted) (room : ℕ) (s : Store) (got : List ℕ) where
  abbrev pub next : Answer ℕ × Store
  next = add_one s got (asked_at w (length got))

  pub from_end : add_from w room s got 0 ≡ given (got, s)
  unfolding add_from
  from_end = refl

  module _ (n : ℕ) where
    pub from-go :
        (i : ℕ) →
        next.0 ≡ given i →
        length got < room →
        add_from w room s got (suc n) ≡ add_from w room next.1 (got ++ (i ∷ [])) n
    unfolding add_from
    from-go i e h = rw (e, lt-ltb (length got) room h, add_from)

    pub from-full :
        (i : ℕ) → next.0 ≡ given i → room ≤ length got → add_from w room s got (suc n) ≡ refuse NoRoom
    unfolding add_from
    from-full i e h = rw (e, le-ltb (length got) room h, add_from)

    pub from-stop : (k : ℕ) → next.0 ≡ refused k → add_from w room s got (suc n) ≡ refused k
    unfolding add_from
    from-stop k e = rw (e, add_from)

    pub from-cases :
        {P : Type 0} →
        ((i : ℕ) → next.0 ≡ given i → length got < room → P) →
        ((i : ℕ) → next.0 ≡ given i → room ≤ length got → P) →
        ((k : ℕ) → next.0 ≡ refused k → P) →
        P
    from-cases go full stop =
        answer-cases next.0
        (λ i e.
        cases (ltb (length got) room) (λ b. go i e (ltb-true (length got) room b))
        (λ b. full i e (ltb-false (length got) room b)))
        stop

pub snoc-length : (got : List ℕ) (i : ℕ) → length (got ++ (i ∷ [])) ≡ length got + 1
snoc-length got i = length-append got (i ∷ [])

-- a list of adds that is given has a number for each, and a place for each number
pub record Whole (room n : ℕ) (got : List ℕ) (p : List ℕ × Store) : Type 0 where
  pub count : length p.0 ≡ length got + n
  pub places : length got + n ≤ room

pub from-whole :
    (w : Wanted) (room n : ℕ) (s : Store) (got : List ℕ) (p : List ℕ × Store) →
    length got ≤ room →
    add_from w room s got n ≡ given p →
    Whole room n got p
from-whole w room zero s got p h e =
    let d : (got, s) ≡ p = given-same (sym (from_end w room s got) ∙ e) in
    let l : length got ≡ length p.0 = ap (λ (x : List ℕ × Store). length x.0) d in
    record { count = omega (arith, l); places = omega arith }
from-whole w room (suc n) s got p h e =
    from-cases w room s got n
    (λ i a l.
    let d = from-whole w room n (next w room s got).1 (got ++ (i ∷ [])) p (omega (arith, snoc-length got i))
    (sym (from-go w room s got n i a l) ∙ e) in
    record { count = omega (arith, d.count, snoc-length got i); places = omega (arith, d.places, snoc-length got i) })
    (λ i a l. given-refused (sym e ∙ from-full w room s got n i a l))
    (λ k a. given-refused (sym e ∙ from-stop w room s got n k a))
