-- The first fault of a table file is one of document 01's numbers 1 to 9. Assumes nothing.
use mathlib.Core.Path.{◌≡◌, refl, subst}
use mathlib.Core.Bool.{Bool, true, false}
use mathlib.Core.List.{List, [], ◌∷◌, ◌++◌}
use Prim.Native.Nat.{ℕ, zero, suc, ◌≤◌}
use native.Mathlib.Omega.{arith}
use lib.ListN.{length}
use Rattle.refusal.specs.declared.Refusal.{Refusal}
use Rattle.refusal.specs.Numbers.{refusal_no}
use Rattle.bits.specs.Got.{Got, got, refused, then, must, pick, many}
use Rattle.bits.specs.Field.{field}
use Rattle.file_rules.specs.Table.{Sort, Function}
use Rattle.file_rules.specs.Sorts.{kinds_of, classes_of, sort_at, sorts_at}
use Rattle.file_rules.specs.Literals.{literal_at, literals_at}
use Rattle.file_rules.specs.Functions.{
  name_at,
  new_name_at,
  cost_at,
  flags_at,
  output_at,
  argument_at,
  arguments_at,
  function_at,
  functions_at,
}
use Rattle.file_rules.specs.Rows.{columns, function_no, range, cell_at, cells_at, row_at, rows_at}
use Rattle.file_rules.specs.File.{
  version_at,
  sorts_part,
  literals_part,
  functions_part,
  rows_part,
  pad_bits,
  end_at,
  table_at,
}

-- A fault of a reading is one of the file's.
pub record Early {A : Type 0} (g : Got A) : Type 0 where
  pub told : (r : Refusal) → g ≡ refused r → refusal_no r ≤ 9

module _ {A : Type 0} where
  differ : {P : Type 0} {a : A} {k : ℕ} {r : Refusal} → got a k ≡ refused r → P
  differ e =
      let z : ◌≡◌ {A = ℕ} 0 1 = cc in
      absurd (omega arith)

  same : {r q : Refusal} → ◌≡◌ {A = Got A} (refused r) (refused q) → r ≡ q
  same e = cc

  got_early : {a : A} {k : ℕ} → Early (got a k)
  got_early = record { told = λ r e. differ e }

  fault-early : (q : Refusal) → refusal_no q ≤ 9 → Early {A = A} (refused q)
  fault-early q n = record { told = λ r e. subst (λ (x : Refusal). refusal_no x ≤ 9) (same e) n }

  must-early : (b : Bool) (r : Refusal) {g : Got A} → refusal_no r ≤ 9 → Early g → Early (must b r g)
  unfolding must
  must-early true r n e = e
  must-early false r n e = fault-early r n

  pick-early : (b : Bool) {g h : Got A} → Early g → Early h → Early (pick b g h)
  unfolding pick
  pick-early true e d = e
  pick-early false e d = d

then-early :
    {A B : Type 0} {g : Got A} {f : A → ℕ → Got B} →
    Early g →
    ((a : A) (k : ℕ) → Early (f a k)) →
    Early (then g f)
unfolding then
then-early {g = got a k} e h = h a k
then-early {g = refused r} e h = fault-early r (e.told r refl)

many-early :
    {A : Type 0} (f : List A → ℕ → Got A) →
    ((xs : List A) (k : ℕ) → Early (f xs k)) →
    (n at : ℕ) (xs : List A) →
    Early (many f n at xs)
unfolding many
many-early f e zero at xs = got_early
many-early f e (suc n) at xs = then-early (e xs at) (λ x p. many-early f e n p (xs ++ (x ∷ [])))

module _ (s : List ℕ) where
  field-early : (k w : ℕ) → Early (field s k w)
  unfolding field
  field-early k w = must-early _ _ (omega arith) got_early

  -- the sorts
  sort-early : (at t : ℕ) → Early (sort_at s at t)
  unfolding sort_at
  sort-early at t =
      then-early (field-early at 1) (λ kind p.
      pick-early _ got_early (then-early (field-early p 10) (λ n q.
      must-early _ _ (omega arith) (must-early _ _ (omega arith) got_early))))

  sorts-early : (at : ℕ) → Early (sorts_part s at)
  unfolding sorts_part sorts_at
  sorts-early at =
      then-early (field-early at 5) (λ n p.
      many-early (λ xs q. sort_at s q (classes_of xs)) (λ xs q. sort-early q (classes_of xs)) n p [])

  -- the literals
  literal-early : (at : ℕ) → Early (literal_at s at)
  unfolding literal_at
  literal-early at = then-early (field-early at 64) (λ v p. got_early)

  literals-early : (at : ℕ) → Early (literals_part s at)
  unfolding literals_part literals_at
  literals-early at =
      then-early (field-early at 9) (λ n p.
      many-early (λ xs q. literal_at s q) (λ xs q. literal-early q) n p [])

  -- the functions
  name-early : (at : ℕ) → Early (name_at s at)
  unfolding name_at
  name-early at =
      then-early (field-early at 5) (λ n p.
      must-early _ _ (omega arith) (must-early _ _ (omega arith) (must-early _ _ (omega arith) got_early)))

  new-name-early : (before : List Function) (at : ℕ) → Early (new_name_at s before at)
  unfolding new_name_at
  new-name-early before at = then-early (name-early at) (λ name p. must-early _ _ (omega arith) got_early)

  cost-early : (at : ℕ) → Early (cost_at s at)
  unfolding cost_at
  cost-early at =
      then-early (field-early at 1) (λ has p.
      pick-early _ got_early (then-early (field-early p 64) (λ cost q. got_early)))

  flags-early : (at : ℕ) → Early (flags_at s at)
  unfolding flags_at
  flags-early at = then-early (field-early at 1) (λ u p. then-early (field-early p 1) (λ h q. got_early))

  output-early : (kinds : List ℕ) (at : ℕ) → Early (output_at s kinds at)
  unfolding output_at
  output-early kinds at =
      then-early (field-early at 5) (λ k p. must-early _ _ (omega arith) (must-early _ _ (omega arith) got_early))

  argument-early : (n at : ℕ) → Early (argument_at s n at)
  unfolding argument_at
  argument-early n at = then-early (field-early at 5) (λ k p. must-early _ _ (omega arith) got_early)

  arguments-early : (n at : ℕ) → Early (arguments_at s n at)
  unfolding arguments_at
  arguments-early m at =
      then-early (field-early at 4) (λ n p.
      must-early _ _ (omega arith) (many-early (λ xs q. argument_at s m q) (λ xs q. argument-early m q) n p []))

  function-early : (kinds : List ℕ) (before : List Function) (at : ℕ) → Early (function_at s kinds before at)
  unfolding function_at
  function-early kinds before at =
      then-early (new-name-early before at) (λ name p.
      then-early (cost-early p) (λ cost q.
      then-early (flags-early q) (λ flags t.
      then-early (output-early kinds t) (λ output u.
      then-early (arguments-early (length kinds) u) (λ arguments v. got_early)))))

  functions-early : (kinds : List ℕ) (at : ℕ) → Early (functions_part s kinds at)
  unfolding functions_part functions_at
  functions-early kinds at =
      then-early (field-early at 7) (λ n p.
      many-early (λ fs q. function_at s kinds fs q) (λ fs q. function-early kinds fs q) n p [])

  -- the rows
  cell-early : (bound at : ℕ) → Early (cell_at s bound at)
  unfolding cell_at
  cell-early bound at = then-early (field-early at 9) (λ v p. must-early _ _ (omega arith) got_early)

  cells-early : (sorts : List Sort) (l : ℕ) (ks : List ℕ) (at : ℕ) → Early (cells_at s sorts l ks at)
  unfolding cells_at
  cells-early sorts l [] at = got_early
  cells-early sorts l (k ∷ ks) at =
      then-early (cell-early (range sorts l k) at)
      (λ x p. then-early (cells-early sorts l ks p) (λ xs q. got_early))

  row-early : (sorts : List Sort) (l : ℕ) (functions : List Function) (at : ℕ) → Early (row_at s sorts l functions at)
  unfolding row_at
  row-early sorts l functions at =
      then-early (field-early at 7) (λ f p.
      must-early _ _ (omega arith) (then-early (field-early p 1) (λ subsumed q.
      then-early (cells-early sorts l (columns (function_no functions f)) q) (λ cells t. got_early))))

  rows-early :
      (sorts : List Sort) (l : ℕ) (functions : List Function) (at : ℕ) → Early (rows_part s sorts l functions at)
  unfolding rows_part rows_at
  rows-early sorts l functions at =
      then-early (field-early at 11) (λ n p.
      must-early _ _ (omega arith)
      (many-early (λ rows q. row_at s sorts l functions q) (λ rows q. row-early sorts l functions q) n p []))

  -- the ends
  version-early : (at : ℕ) → Early (version_at s at)
  unfolding version_at
  version-early at = then-early (field-early at 4) (λ v p. must-early _ _ (omega arith) got_early)

  end-early : (at : ℕ) → Early (end_at s at)
  unfolding end_at
  end-early at =
      then-early (field-early at (pad_bits at)) (λ v p.
      must-early _ _ (omega arith) (must-early _ _ (omega arith) got_early))

  file-early : Early (table_at s)
  unfolding table_at
  file-early =
      then-early (version-early 0) (λ version a.
      then-early (sorts-early a) (λ sorts b.
      then-early (literals-early b) (λ literals c.
      then-early (functions-early (kinds_of sorts) c) (λ functions d.
      then-early (rows-early sorts (length literals) functions d) (λ rows e.
      then-early (end-early e) (λ end f. got_early))))))

-- "1" to "9"
pub fault-number : (file : List ℕ) (x : Refusal) → table_at file ≡ refused x → refusal_no x ≤ 9
fault-number file x e = (file-early file).told x e
