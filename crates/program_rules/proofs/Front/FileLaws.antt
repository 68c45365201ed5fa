-- The front of a long file has the fault of the whole. Assumes nothing.
use Prim.{Dec, yes, no}
use Prim.Native.Nat.{ℕ, ◌*◌, ◌≤◌}
use mathlib.Core.List.{List, ◌++◌}
use mathlib.Core.Path.{◌≡◌, refl, sym, ap, ◌∙◌}
use native.Mathlib.Decide.{dec_le}
use native.Mathlib.Omega.{arith}
use lib.ListN.{length, take, drop, take-append-drop}
use lib.Seq.{take_all, length-take-le}
use Rattle.refusal.specs.declared.Refusal.{Refusal}
use Rattle.refusal.specs.declared.Refusal.TheVariants.{Short}
use Rattle.bits.specs.Got.{Got, got, refused}
use Rattle.bits.proofs.GotLaws.{all-at}
use Rattle.file_rules.specs.Table.{Table}
use Rattle.file_rules.specs.Sorts.{kinds_of}
use Rattle.file_rules.specs.File.{table_at}
use Rattle.file_rules.proofs.TableLaws.{table_kept, functions-in, tight-of}
use Rattle.file_rules.proofs.Coding.ExtendLaws.{fault_stays}
use Rattle.program_rules.proofs.Front.WithinLaws.{Within, within-got, within-not-short, within-then}
use Rattle.program_rules.proofs.Front.PartLaws.{
  version-within,
  sorts-within,
  literals-within,
  functions-within,
  rows-within,
  end-within,
}

-- 4 bits, 346, 32,713, 46,870 and 91,147 are 171,080, the bits of 21,385 bytes: reading comes to no bit past them.
pub table-within : (s : List ℕ) → 21385 ≤ length s → Within (8 * 21385) (table_at s)
unfolding table_at
table-within s h =
    within-then (version-within s 0 (omega arith)) (λ version a _ l₁.
    within-then (sorts-within s a (omega arith)) (λ sorts b _ l₂.
    within-then (literals-within s b (omega arith)) (λ literals c _ l₃.
    within-then (functions-within s (kinds_of sorts) c (omega arith)) (λ functions d e l₄.
    let tight = tight-of (all-at (rw e at (functions-in s (kinds_of sorts) c))).ok in
    within-then (rows-within s sorts (length literals) functions tight d (omega arith)) (λ rows e _ l₅.
    within-then (end-within s 21385 e (omega arith) h) (λ end f _ l₆. within-got l₆))))))

pub long_not_short : (s : List ℕ) → 21385 ≤ length s → table_at s ≡ refused Short → ⊥
long_not_short s h e = within-not-short (rw e at (table-within s h))

refused-by : (s : List ℕ) (g : Got Table) → table_at s ≡ g → 21386 ≤ length s → (x : Refusal) × (table_at s ≡ refused x)
refused-by s (got t k) e h =
    let kept = all-at (rw e at (table_kept s)) in
    let none : ⊥ = omega (arith, kept.last, kept.near) in
    absurd none
refused-by s (refused x) e h = (x, e)

pub long_refused : (s : List ℕ) → 21386 ≤ length s → (x : Refusal) × (table_at s ≡ refused x)
long_refused s h = refused-by s (table_at s) refl h

-- A file of more than 21,385 bytes keeps its fault when bytes follow.
pub more_same : (s rest : List ℕ) → 21386 ≤ length s → table_at s ≡ table_at (s ++ rest)
more_same s rest h =
    let f = long_refused s h in
    let other : f.0 ≡ Short → ⊥ = λ e. long_not_short s (omega arith) (f.1 ∙ ap refused e) in
    f.1 ∙ sym (fault_stays s rest f.1 other)

-- What stays whatever follows m bytes or more is told by a front of m bytes or more.
module _ {A : Type 0} (f : List ℕ → A) (m : ℕ) (stays : (s rest : List ℕ) → m ≤ length s → f s ≡ f (s ++ rest)) where
  front_by : (s : List ℕ) (n : ℕ) → m ≤ n → Dec (length s ≤ n) → f (take n s) ≡ f s
  front_by s n h (yes l) = ap f (take_all n s l)
  front_by s n h (no g) =
      let e : length (take n s) ≡ n = length-take-le n s (omega arith) in
      stays (take n s) (drop n s) (omega arith) ∙ ap f (take-append-drop n s)

  pub front_same : (s : List ℕ) (n : ℕ) → m ≤ n → f (take n s) ≡ f s
  front_same s n h = front_by s n h (dec_le (length s) n)

pub same_fault : (s : List ℕ) (n : ℕ) → 21386 ≤ n → table_at (take n s) ≡ table_at s
same_fault = front_same table_at 21386 more_same
