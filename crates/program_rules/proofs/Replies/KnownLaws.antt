-- Every refusal of the program has a number of document 01's table. Assumes nothing.
use Prim.{Unit}
use Prim.Native.Nat.{ℕ, ◌≤◌}
use mathlib.Core.Path.{◌≡◌, refl, subst}
use mathlib.Core.Bool.{Bool, true, false}
use mathlib.Core.List.{List}
use native.Mathlib.Omega.{arith}
use lib.Dec.{eqb, leb}
use lib.ListN.{length, drop}
use Rattle.refusal.specs.declared.Refusal.{Refusal}
use Rattle.refusal.specs.declared.Refusal.TheVariants.{
  Short,
  BadVersion,
  BadSize,
  BadName,
  DupName,
  BadSort,
  BadFunction,
  BadValue,
  Trailing,
  BadRoot,
  NoTerm,
  TooDear,
  NoRoom,
  BadTerm,
  Absent,
  BadMode,
  BadStore,
}
use Rattle.refusal.specs.Numbers.{refusal_no}
use Rattle.refusal.specs.Answer.{Answer, value, refusal}
use Rattle.bits.specs.Got.{Got, got, refused as fault}
use Rattle.term_rules.specs.Lent.{Store}
use Rattle.term_rules.specs.WellFormed.{well_formed}
use Rattle.term_rules.specs.Adding.{Adds, at, no_room}
use Rattle.choice_rules.specs.Answer as choice
use Rattle.build.specs.Building.{Out, done, full}
use Rattle.build.specs.Whole.{Left, whole}
use Rattle.std.specs.Prelude.{Option, Some, None}
use Rattle.file_rules.specs.Table.{Table}
use Rattle.file_rules.specs.File.{table_at}
use Rattle.table_rules.specs.Rules.Classes.{sort_of, is_root}
use Rattle.table_rules.specs.Rules.Choosing.{Prices, prices_for}
use Rattle.answer_rules.specs.Answers.{After, found, refused}
use Rattle.answer_rules.specs.Plan.{plan_for, order_for}
use Rattle.answer_rules.specs.Best.{BestTerm, best_term, best_literal, best_built, best_class, best_of, best_at}
use Rattle.answer_rules.specs.Variants.{Kept, Lending, VariantsAfter, variants_kept, room_for_results, variant_literal, variants_built, variants_of_rows, variants_of, variants_at, any_dear}
use Rattle.program_rules.specs.Query.{Query, query_at}
use Rattle.program_rules.specs.Reply.{
  empty_store,
  empty_lending,
  best_answer,
  best_told,
  best_call,
  variants_answer,
  variants_told,
  variants_call,
  call_of,
  answer_to,
  in_room,
}

-- the table's numbers are 1 to 17
pub record InTable (k : ℕ) : Type 0 where
  pub from_one : 1 ≤ k
  pub to_17 : k ≤ 17

pub in_table : (r : Refusal) → InTable (refusal_no r)
in_table Short = record { from_one = omega arith; to_17 = omega arith }
in_table BadVersion = record { from_one = omega arith; to_17 = omega arith }
in_table BadSize = record { from_one = omega arith; to_17 = omega arith }
in_table BadName = record { from_one = omega arith; to_17 = omega arith }
in_table DupName = record { from_one = omega arith; to_17 = omega arith }
in_table BadSort = record { from_one = omega arith; to_17 = omega arith }
in_table BadFunction = record { from_one = omega arith; to_17 = omega arith }
in_table BadValue = record { from_one = omega arith; to_17 = omega arith }
in_table Trailing = record { from_one = omega arith; to_17 = omega arith }
in_table BadRoot = record { from_one = omega arith; to_17 = omega arith }
in_table NoTerm = record { from_one = omega arith; to_17 = omega arith }
in_table TooDear = record { from_one = omega arith; to_17 = omega arith }
in_table NoRoom = record { from_one = omega arith; to_17 = omega arith }
in_table BadTerm = record { from_one = omega arith; to_17 = omega arith }
in_table Absent = record { from_one = omega arith; to_17 = omega arith }
in_table BadMode = record { from_one = omega arith; to_17 = omega arith }
in_table BadStore = record { from_one = omega arith; to_17 = omega arith }

-- a refusal is one of the table's
abbrev pub Known : {A : Type 0} → Answer A → Type 0
Known (value a) = Unit {0}
Known (refusal k) = (r : Refusal) × (k ≡ refusal_no r)

pub known-refusal : {A : Type 0} (a : Answer A) (k : ℕ) → Known a → a ≡ refusal k → (r : Refusal) × (k ≡ refusal_no r)
known-refusal a k h e = subst (λ (x : Answer _). Known x) e h

-- by a test, and by what was read
by-test : {A : Type 0} (P : A → Type 0) (b : Bool) {x y : A} → P x → P y → P (elim b [ true ↦ x | false ↦ y ])
by-test P true p q = p
by-test P false p q = q

by-got :
    {A B : Type 0} (P : B → Type 0) (g : Got A) {x : Refusal → B} {y : A → ℕ → B} →
    ((r : Refusal) → P (x r)) →
    ((a : A) (n : ℕ) → P (y a n)) →
    P (elim g [ fault r ↦ x r | got a n ↦ y a n ])
by-got P (fault r) p q = p r
by-got P (got a n) p q = q a n

-- Best, from the innermost test out.
abbrev BestKnown : After BestTerm → Type 0
BestKnown a = Known a.answer

module _ (s : Store) where
  literal-known : (x : Adds) → BestKnown (best_literal s x)
  unfolding best_literal
  literal-known (at i t) = tt
  literal-known no_room = (NoRoom, refl)

  abbrev built : ℕ → ℕ → Left → Option ℕ → After BestTerm
  built w p l b =
      elim b [
        | Some i ↦ found (best_term w i p) l.store
        | None ↦ refused NoRoom s
      ]

  by-built : (w p : ℕ) (l : Left) (b : Option ℕ) → BestKnown (built w p l b)
  by-built w p l (Some b) = tt
  by-built w p l None = (NoRoom, refl)

  class-known : (t : Table) (p : Prices) (n c : ℕ) (a : choice.Answer) → BestKnown (best_class t p n c s a)
  unfolding best_class best_built
  class-known t p n c choice.no_term = (NoTerm, refl)
  class-known t p n c choice.too_dear = (TooDear, refl)
  class-known t p n c (choice.best w) =
      let l : Left = whole (plan_for t p) (order_for p c) s c in
      by-built w n l l.answer

  pub best-known : (file : List ℕ) (root v : ℕ) → Known (best_at file root v s).answer
  unfolding best_at best_of
  best-known file root v =
      by-got BestKnown (table_at file) (λ r. (r, refl)) (λ t p.
      by-test BestKnown (is_root t root v)
      (by-test BestKnown (well_formed s)
      (by-test BestKnown (eqb (sort_of t root).kind 0) (literal-known _) (class-known t (prices_for t root) _ _ _))
      (BadStore, refl))
      (BadRoot, refl))

-- Variants likewise.
abbrev VariantsKnown : VariantsAfter → Type 0
VariantsKnown a = Known a.answer

module _ (l : Lending) where
  variant-literal-known : (x : Adds) → VariantsKnown (variant_literal l x)
  unfolding variant_literal variants_kept
  variant-literal-known (at i t) = by-test VariantsKnown (room_for_results l 1) tt (NoRoom, refl)
  variant-literal-known no_room = (NoRoom, refl)

  variants-built-known :
      (t : Table) (p : Prices) (n : ℕ) (rows : List ℕ) (o : Out (List ℕ)) → VariantsKnown (variants_built t p n l rows o)
  unfolding variants_built variants_kept
  variants-built-known t p n rows (done ts s) = tt
  variants-built-known t p n rows (full me rs ls ns) = (NoRoom, refl)

  rows-known : (t : Table) (p : Prices) (n : ℕ) (rows : List ℕ) → VariantsKnown (variants_of_rows t p n l rows)
  unfolding variants_of_rows
  rows-known t p n rows =
      by-test VariantsKnown (any_dear t p rows) (TooDear, refl)
      (by-test VariantsKnown (room_for_results l (length rows)) (variants-built-known t p n rows _) (NoRoom, refl))

  pub variants-known : (file : List ℕ) (root v n : ℕ) → Known (variants_at file root v n l).answer
  unfolding variants_at variants_of
  variants-known file root v n =
      by-got VariantsKnown (table_at file) (λ r. (r, refl)) (λ t p.
      by-test VariantsKnown (is_root t root v)
      (by-test VariantsKnown (well_formed l.store)
      (by-test VariantsKnown (eqb (sort_of t root).kind 0) (variant-literal-known _) (rows-known t (prices_for t root) _ _))
      (BadStore, refl))
      (BadRoot, refl))

-- The answer to an input, and in a buffer.
best-told-known : (plain : Bool) (s : Store) (a : Answer BestTerm) → Known a → Known (best_answer plain s a)
unfolding best_answer
best-told-known plain s (value b) h = tt
best-told-known plain s (refusal k) h = h

variants-told-known : (v : VariantsAfter) (a : Answer Kept) → Known a → Known (variants_answer v a)
unfolding variants_answer
variants-told-known v (value k) h = tt
variants-told-known v (refusal k) h = h

abbrev TextKnown : Answer (List ℕ) → Type 0
TextKnown a = Known a

call_known : (q : Query) (file : List ℕ) → TextKnown (call_of q file)
unfolding call_of best_call best_told variants_call variants_told
call_known q file =
    by-test TextKnown (eqb q.mode 1)
    (variants-told-known _ _ (variants-known empty_lending file q.sort q.value q.most))
    (best-told-known _ _ _ (best-known empty_store file q.sort q.value))

pub answer-known : (input : List ℕ) → Known (answer_to input)
unfolding answer_to
answer-known input =
    by-got TextKnown (query_at input) (λ r. (r, refl)) (λ q p. call_known q (drop 3 input))

pub room-known : (n : ℕ) (a : Answer (List ℕ)) → Known a → Known (in_room n a)
unfolding in_room
room-known n (value text) h = by-test TextKnown (leb (length text) n) tt (NoRoom, refl)
room-known n (refusal k) h = h
