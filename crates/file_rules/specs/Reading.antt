-- What a reader of a part of the file promises: its answer is the definition's, and what was read stands in the arrays.
-- Assumes nothing: definitions.
use Prim.{Unit}
use Rattle.std.specs.Prelude.{ℕ, ◌≡◌, List, length, Result, Ok, Err}
use Rattle.refusal.specs.declared.Refusal.{Refusal}
use Rattle.bits.specs.Got.{Got, got, refused}
use Rattle.file_rules.specs.declared.Counted.{Counted}

-- The code's answer for a reading.
abbrev pub step_of : {A : Type 0} → Got A → Result ℕ Refusal
step_of (got a k) = Ok k
step_of (refused r) = Err r

-- P of what was read, where something was.
unfoldable pub OnGot : {A : Type 0} → Got A → (A → Type 0) → Type 0
OnGot (got a k) P = P a
OnGot (refused r) P = Unit {0}

pub record Reads {A : Type 0} (g : Got A) (r : Result ℕ Refusal) (P : A → Type 0) : Type 0 where
  pub answer : r ≡ step_of g
  pub filled : OnGot g P

-- The code's answer for a reading of many things: how many, and the position after them.
abbrev pub part_of : {A : Type 0} → Got (List A) → Result Counted Refusal
part_of (got xs k) = Ok (record { count = length xs; next = k })
part_of (refused r) = Err r

pub record Counts {A : Type 0} (g : Got (List A)) (r : Result Counted Refusal) (P : List A → Type 0) : Type 0 where
  pub answer : r ≡ part_of g
  pub filled : OnGot g P
