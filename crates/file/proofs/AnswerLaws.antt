-- What a file is answered, by its table or its first fault. Assumes nothing.
use Prim.Native.Nat.{ℕ}
use mathlib.Core.Path.{◌≡◌, refl, sym, ap}
use mathlib.Core.List.{List, []}
use native.Mathlib.Omega.{arith}
use Rattle.std.specs.Prelude.{Result, Ok, Err}
use Rattle.refusal.specs.declared.Refusal.{Refusal}
use Rattle.refusal.specs.Numbers.{refusal_no}
use Rattle.refusal.specs.Answer.{Answer, value, refusal}
use Rattle.refusal.proofs.NumberLaws.{number-once}
use Rattle.bits.specs.Got.{Got, got, refused}
use Rattle.file_rules.specs.declared.Counts.{Counts as Told}
use Rattle.file_rules.specs.Table.{Table}
use Rattle.file_rules.specs.File.{table_at}
use Rattle.file.specs.Lent.{Arrays, lent, Counts, counts, After, answer_of, seen, read_of}
use Rattle.file.specs.Promises.{Holding, Refused, Read}

-- which case an answer is, and its number
is_value : Answer Counts → ℕ
is_value (value c) = 1
is_value (refusal k) = 0

number_in : Answer Counts → ℕ
number_in (value c) = 0
number_in (refusal k) = k

not-value : (k : ℕ) (c : Counts) → ◌≡◌ {A = Answer Counts} (value c) (refusal k) → ⊥
unfolding is_value
not-value k c e =
    let z : ◌≡◌ {A = ℕ} 1 0 = ap is_value e in
    omega (arith, z)

pub refused-by : (s : List ℕ) (x : Refusal) → table_at s ≡ refused x → Refused s (refusal_no x)
refused-by s x e = record {
  number = λ before. ap (λ (g : Got Table). (read_of g before).answer) e;
  unchanged = λ before. ap (λ (g : Got Table). (read_of g before).arrays) e;
}

pub read_as : (s : List ℕ) (t : Table) → Holding s t → Read s t
read_as s t h = record {
  told = λ before. ap (λ (g : Got Table). (read_of g before).answer) h.is;
  stands = λ before. ap (λ (g : Got Table). (read_of g before).arrays) h.is;
}

-- A file that holds no table is refused.
by_answer :
    (s : List ℕ) (g : Got Table) →
    table_at s ≡ g →
    ((t : Table) → Holding s t → ⊥) →
    (x : Refusal) × Refused s (refusal_no x)
by_answer s (got t k) e none = absurd (none t (record { end = k; is = e }))
by_answer s (refused x) e none = (x, refused-by s x e)

pub otherwise : (s : List ℕ) → ((t : Table) → Holding s t → ⊥) → (x : Refusal) × Refused s (refusal_no x)
otherwise s = by_answer s (table_at s) refl

-- A refused file has a fault, whose number was told.
pub record Faulty (g : Got Table) (k : ℕ) : Type 0 where
  pub fault : Refusal
  pub is : g ≡ refused fault
  pub told : k ≡ refusal_no fault

faulty-by : (g : Got Table) (k : ℕ) (before : Arrays) → (read_of g before).answer ≡ refusal k → Faulty g k
unfolding number_in
faulty-by (got t p) k before e = absurd (not-value k _ e)
faulty-by (refused x) k before e = record { fault = x; is = refl; told = sym (ap number_in e) }

pub faulty : (s : List ℕ) (k : ℕ) → Refused s k → Faulty (table_at s) k
faulty s k h =
    let before : Arrays = lent [] [] [] [] [] [] [] [] [] [] [] [] [] [] in
    faulty-by (table_at s) k before (h.number before)

-- The code's answer is told by its numbers alone.
counts_in : Answer Counts → Counts
counts_in (value c) = c
counts_in (refusal k) = counts 0 0 0 0

told_of : Counts → Told
told_of c = record { sorts = c.sorts; literals = c.literals; functions = c.functions; rows = c.rows }

same_answer : (r q : Result Told Refusal) → answer_of r ≡ answer_of q → r ≡ q
unfolding number_in counts_in told_of
same_answer (Ok c) (Ok d) e = ap (λ (a : Answer Counts). Ok (told_of (counts_in a))) e
same_answer (Ok c) (Err y) e = absurd (not-value (refusal_no y) _ e)
same_answer (Err x) (Ok d) e = absurd (not-value (refusal_no x) _ (sym e))
same_answer (Err x) (Err y) e = ap Err (number-once x y (ap number_in e))

pub one_answer : (a b : Arrays) (r q : Result Told Refusal) → seen r a ≡ seen q b → (r ≡ q) × (a ≡ b)
one_answer a b r q e = (
  same_answer r q (ap (λ (x : After). x.answer) e),
  ap (λ (x : After). x.arrays) e,
)
