-- Reading looks at nothing past the first fault's field: a file that goes on after a fault keeps the fault. Assumes
-- nothing.
use Prim.Native.Nat.{ℕ, zero, suc, ◌+◌, ◌*◌, ◌≤◌}
use mathlib.Core.Bool.{Bool, true, false}
use mathlib.Core.List.{List, [], ◌∷◌, ◌++◌, append-nil}
use mathlib.Core.Path.{◌≡◌, refl, sym, ap, ◌∙◌}
use native.Mathlib.Omega.{arith}
use lib.Dec.{eqb}
use lib.ListN.{length, drop, length-append, length-drop}
use lib.Seq.{take-append-le, drop-append-le}
use borrow.Author.Tests.{ne_eqb}
use Rattle.refusal.specs.declared.Refusal.{Refusal}
use Rattle.refusal.specs.declared.Refusal.TheVariants.{Short, BadName, Trailing}
use Rattle.name.specs.Name.{all_allowed}
use Rattle.bits.specs.Bits.{bits_of, number}
use Rattle.bits.specs.Got.{Got, got, refused, then, must, pick, many}
use Rattle.bits.specs.Field.{field, holds}
use Rattle.file_rules.specs.Table.{Sort, Function, Table}
use Rattle.file_rules.specs.Sorts.{kinds_of, classes_of, sort_at, sorts_at}
use Rattle.file_rules.specs.Literals.{signed, literal_at, literals_at}
use Rattle.file_rules.specs.Functions.{
  bytes_at,
  name_at,
  new_name_at,
  cost_at,
  flags_at,
  output_at,
  argument_at,
  arguments_at,
  function_at,
  functions_at,
}
use Rattle.file_rules.specs.Rows.{function_no, columns, cell_at, cells_at, row_at, rows_at}
use Rattle.file_rules.specs.File.{version_at, sorts_part, literals_part, functions_part, rows_part, pad_bits, end_at, table_at}
use Rattle.bits.proofs.BitsLaws.{bits_of-length}
use Rattle.bits.proofs.FieldLaws.{holds-true, holds-of-le, field-of-holds, field-refuses, field-read}

-- The second reading is the first, unless that was Short.
pub data Ext {A : Type 0} (g h : Got A) : Type 0 where
  ext_same : g ≡ h → Ext g h
  ext-short : g ≡ refused Short → Ext g h

clash : {A B : Type 0} {a : A} {k : ℕ} {r : Refusal} → got a k ≡ refused r → B
clash {B = B} e =
    let z : ◌≡◌ {A = ℕ} 0 1 = cc in
    let n : ⊥ = omega arith in
    absurd n

refusal-same : {B : Type 0} {r x : Refusal} → ◌≡◌ {A = Got B} (refused r) (refused x) → r ≡ x
refusal-same e = cc

module _ {A : Type 0} where
  pub ext-then : {B : Type 0} {f f' : B → ℕ → Got A} (g h : Got B) → Ext g h
      → ((b : B) (k : ℕ) → g ≡ got b k → Ext (f b k) (f' b k))
      → Ext (then g f) (then h f')
  unfolding then
  ext-then (got b k) h (ext_same e) j = rw (← e) (j b k refl)
  ext-then (got b k) h (ext-short e) j = clash e
  ext-then (refused r) h (ext_same e) j = ext_same (rw (← e))
  ext-then (refused r) h (ext-short e) j = ext-short (ap refused (refusal-same e))

  pub ext-must : (b : Bool) (r : Refusal) {g h : Got A} → (b ≡ true → Ext g h) → Ext (must b r g) (must b r h)
  unfolding must
  ext-must true r j = j refl
  ext-must false r j = ext_same refl

  pub ext-pick : (b : Bool) {g h g' h' : Got A} → Ext g g' → Ext h h' → Ext (pick b g h) (pick b g' h')
  unfolding pick
  ext-pick true p q = p
  ext-pick false p q = q

  pub ext-got : (a : A) (k : ℕ) → Ext (got a k) (got a k)
  ext-got a k = ext_same refl

pub ext-many : {A : Type 0} (f f' : List A → ℕ → Got A) → ((xs : List A) (p : ℕ) → Ext (f xs p) (f' xs p))
    → (n at : ℕ) (xs : List A)
    → Ext (many f n at xs) (many f' n at xs)
unfolding many
ext-many f f' e zero at xs = ext_same refl
ext-many f f' e (suc n) at xs = ext-then (f xs at) (f' xs at) (e xs at) (λ x p _. ext-many f f' e n p (xs ++ (x ∷ [])))

bits_of-append : (s r : List ℕ) → bits_of (s ++ r) ≡ bits_of s ++ bits_of r
unfolding bits_of
bits_of-append [] r = refl
bits_of-append (b ∷ s) r = rw (bits_of-append s r)

-- What is there is the same in a longer file.
module _ (s r : List ℕ) where
  pub number_same : (k w : ℕ) → k + w ≤ 8 * length s → number s k w ≡ number (s ++ r) k w
  unfolding number
  number_same k w h =
      let l : k + w ≤ length (bits_of s) = rw bits_of-length h in
      let a : k ≤ length (bits_of s) = omega arith in
      let b : w ≤ length (drop k (bits_of s)) = rw length-drop (omega arith) in
      rw (
        bits_of-append s r,
        drop-append-le k (bits_of s) (bits_of r) a,
        take-append-le w (drop k (bits_of s)) (bits_of r) b,
      )

  pub holds_same : (k w : ℕ) → holds s k w ≡ true → holds (s ++ r) k w ≡ true
  holds_same k w h = holds-of-le (s ++ r) k w (rw length-append (omega (arith, holds-true s k w h)))

  ext-by : (k w : ℕ) (b : Bool) → holds s k w ≡ b → Ext (field s k w) (field (s ++ r) k w)
  ext-by k w true h =
      ext_same (rw (
        field-of-holds s k w h,
        field-of-holds (s ++ r) k w (holds_same k w h),
        number_same k w (holds-true s k w h),
      ))
  ext-by k w false h = ext-short (field-refuses s k w h)

  pub ext-field : (k w : ℕ) → Ext (field s k w) (field (s ++ r) k w)
  ext-field k w = ext-by k w (holds s k w) refl

  bytes_same : (k n : ℕ) → k + 8 * n ≤ 8 * length s → bytes_at s k n ≡ bytes_at (s ++ r) k n
  unfolding bytes_at
  bytes_same k zero h = refl
  bytes_same k (suc n) h = rw (number_same k 8 (omega arith), bytes_same (k + 8) n (omega arith))

  pub ext-sort : (at t : ℕ) → Ext (sort_at s at t) (sort_at (s ++ r) at t)
  unfolding sort_at
  ext-sort at t =
      ext-then _ _ (ext-field at 1) (λ kind p _.
      ext-pick (eqb kind 0) (ext-got _ p)
      (ext-then _ _ (ext-field p 10) (λ n q _. ext-must _ _ (λ _. ext-must _ _ (λ _. ext-got _ q)))))

  pub ext-sorts : (n at : ℕ) → Ext (sorts_at s n at) (sorts_at (s ++ r) n at)
  unfolding sorts_at
  ext-sorts n at = ext-many _ _ (λ xs p. ext-sort p (classes_of xs)) n at []

  pub ext-literals : (n at : ℕ) → Ext (literals_at s n at) (literals_at (s ++ r) n at)
  unfolding literals_at literal_at
  ext-literals n at = ext-many _ _ (λ xs p. ext-then _ _ (ext-field p 64) (λ v q _. ext-got (signed v) q)) n at []

  name_by : (p n : ℕ) (b : Bool) → holds s p (8 * n) ≡ b
      → Ext (must (holds s p (8 * n)) Short
      (must (all_allowed (bytes_at s p n)) BadName (got (bytes_at s p n) (p + 8 * n))))
      (must (holds (s ++ r) p (8 * n)) Short
      (must (all_allowed (bytes_at (s ++ r) p n)) BadName (got (bytes_at (s ++ r) p n) (p + 8 * n))))
  unfolding must
  name_by p n true h =
      ext_same (rw (h, holds_same p (8 * n) h, bytes_same p n (holds-true s p (8 * n) h)))
  name_by p n false h = ext-short (rw h)

  pub ext-name : (at : ℕ) → Ext (name_at s at) (name_at (s ++ r) at)
  unfolding name_at
  ext-name at = ext-then _ _ (ext-field at 5) (λ n p _. ext-must _ _ (λ _. name_by p n (holds s p (8 * n)) refl))

  pub ext-new : (before : List Function) (at : ℕ) → Ext (new_name_at s before at) (new_name_at (s ++ r) before at)
  unfolding new_name_at
  ext-new before at = ext-then _ _ (ext-name at) (λ name p _. ext-must _ _ (λ _. ext-got name p))

  pub ext-cost : (at : ℕ) → Ext (cost_at s at) (cost_at (s ++ r) at)
  unfolding cost_at
  ext-cost at =
      ext-then _ _ (ext-field at 1) (λ has p _.
      ext-pick (eqb has 0) (ext-got _ p) (ext-then _ _ (ext-field p 64) (λ c q _. ext-got _ q)))

  pub ext-flags : (at : ℕ) → Ext (flags_at s at) (flags_at (s ++ r) at)
  unfolding flags_at
  ext-flags at = ext-then _ _ (ext-field at 1) (λ u p _. ext-then _ _ (ext-field p 1) (λ h q _. ext-got _ q))

  pub ext-output : (kinds : List ℕ) (at : ℕ) → Ext (output_at s kinds at) (output_at (s ++ r) kinds at)
  unfolding output_at
  ext-output kinds at = ext-then _ _ (ext-field at 5) (λ k p _. ext-must _ _ (λ _. ext-must _ _ (λ _. ext-got k p)))

  pub ext-arguments : (n at : ℕ) → Ext (arguments_at s n at) (arguments_at (s ++ r) n at)
  unfolding arguments_at argument_at
  ext-arguments n at =
      ext-then _ _ (ext-field at 4) (λ m p _. ext-must _ _ (λ _.
      ext-many _ _ (λ xs q. ext-then _ _ (ext-field q 5) (λ k t _. ext-must _ _ (λ _. ext-got k t))) m p []))

  pub ext-function : (kinds : List ℕ) (before : List Function) (at : ℕ)
      → Ext (function_at s kinds before at) (function_at (s ++ r) kinds before at)
  unfolding function_at
  ext-function kinds before at =
      ext-then _ _ (ext-new before at) (λ name p _.
      ext-then _ _ (ext-cost p) (λ cost q _.
      ext-then _ _ (ext-flags q) (λ flags t _.
      ext-then _ _ (ext-output kinds t) (λ output u _.
      ext-then _ _ (ext-arguments (length kinds) u) (λ arguments v _. ext-got _ v)))))

  pub ext-functions : (kinds : List ℕ) (n at : ℕ) → Ext (functions_at s kinds n at) (functions_at (s ++ r) kinds n at)
  unfolding functions_at
  ext-functions kinds n at = ext-many _ _ (λ fs p. ext-function kinds fs p) n at []

  ext-cells : (sorts : List Sort) (l : ℕ) (ks : List ℕ) (at : ℕ)
      → Ext (cells_at s sorts l ks at) (cells_at (s ++ r) sorts l ks at)
  unfolding cells_at cell_at
  ext-cells sorts l [] at = ext-got [] at
  ext-cells sorts l (k ∷ ks) at =
      ext-then _ _ (ext-then _ _ (ext-field at 9) (λ v q _. ext-must _ _ (λ _. ext-got v q)))
      (λ x p _. ext-then _ _ (ext-cells sorts l ks p) (λ xs q _. ext-got (x ∷ xs) q))

  pub ext-rows : (sorts : List Sort) (l : ℕ) (fs : List Function) (n at : ℕ)
      → Ext (rows_at s sorts l fs n at) (rows_at (s ++ r) sorts l fs n at)
  unfolding rows_at row_at
  ext-rows sorts l fs n at =
      ext-many _ _
      (λ rows p.
      ext-then _ _ (ext-field p 7) (λ f q _. ext-must _ _ (λ _.
      ext-then _ _ (ext-field q 1) (λ bit t _.
      ext-then _ _ (ext-cells sorts l (columns (function_no fs f)) t) (λ cells u _. ext-got _ u)))))
      n at []

-- How a reading stands to that of a longer file: it was Short, it was refused in the same way, or it was accepted, and
-- bytes follow.
pub data After {A : Type 0} (g h : Got A) : Type 0 where
  after-short : g ≡ refused Short → After g h
  after-fault : {x : Refusal} → g ≡ refused x → h ≡ refused x → After g h
  after_more : {a : A} {k : ℕ} → g ≡ got a k → h ≡ refused Trailing → After g h

after_then : {A B : Type 0} {f f' : B → ℕ → Got A} (g h : Got B) → Ext g h
    → ((b : B) (k : ℕ) → g ≡ got b k → After (f b k) (f' b k))
    → After (then g f) (then h f')
unfolding then
after_then (got b k) h (ext_same e) j = rw (← e) (j b k refl)
after_then (got b k) h (ext-short e) j = clash e
after_then (refused r) h (ext_same e) j = after-fault refl (rw (← e))
after_then (refused r) h (ext-short e) j = after-short (ap refused (refusal-same e))

-- A fault of the end is passed on, and so is its absence.
after_map : {A B : Type 0} (a : A) (g h : Got B) → After g h
    → After (then g (λ b k. got a k)) (then h (λ b k. got a k))
unfolding then
after_map a g h (after-short e) = after-short (rw e)
after_map a g h (after-fault {x = x} e d) = after-fault {x = x} (rw e) (rw d)
after_map a g h (after_more {k = k} e d) = after_more {a = a} {k = k} (rw e) (rw d)

module _ (s : List ℕ) (b : ℕ) (r : List ℕ) where
  longer : (p : ℕ) → p ≤ 8 * length s → p ≡ 8 * length (s ++ (b ∷ r)) → ⊥
  longer p h e =
      let d : length (s ++ (b ∷ r)) ≡ length s + suc (length r) = length-append s (b ∷ r) in
      omega arith

  end_by : (v p : ℕ) (z e : Bool) → eqb p (8 * length (s ++ (b ∷ r))) ≡ false
      → After (must z Trailing (must e Trailing (got p p)))
      (must z Trailing (must (eqb p (8 * length (s ++ (b ∷ r)))) Trailing (got p p)))
  unfolding must
  end_by v p true true n = after_more refl (rw n)
  end_by v p true false n = after-fault refl (rw n)
  end_by v p false e n = after-fault refl refl

  after-end : (at : ℕ) → After (end_at s at) (end_at (s ++ (b ∷ r)) at)
  unfolding end_at
  after-end at =
      after_then _ _ (ext-field s (b ∷ r) at (pad_bits at)) (λ v p e.
      let f = field-read s at (pad_bits at) e in
      end_by v p (eqb v 0) (eqb p (8 * length s)) (ne_eqb _ _ (longer p (omega (arith, f.end, f.here)))))

  after_table : After (table_at s) (table_at (s ++ (b ∷ r)))
  unfolding table_at version_at sorts_part literals_part functions_part rows_part
  after_table =
      let t = b ∷ r in
      after_then _ _ (ext-then _ _ (ext-field s t 0 4) (λ v p _. ext-must _ _ (λ _. ext-got v p))) (λ version a _.
      after_then _ _ (ext-then _ _ (ext-field s t a 5) (λ n p _. ext-sorts s t n p)) (λ sorts b _.
      after_then _ _ (ext-then _ _ (ext-field s t b 9) (λ n p _. ext-literals s t n p)) (λ literals c _.
      after_then _ _ (ext-then _ _ (ext-field s t c 7)
      (λ n p _. ext-functions s t (kinds_of sorts) n p)) (λ functions d _.
      after_then _ _
      (ext-then _ _ (ext-field s t d 11)
      (λ n p _. ext-must _ _ (λ _. ext-rows s t sorts (length literals) functions n p))) (λ rows e _.
      after_map _ _ _ (after-end e))))))

refused-by : {g h : Got Table} {x : Refusal} → After g h → g ≡ refused x → (x ≡ Short → ⊥) → h ≡ refused x
refused-by (after-short e) d n = absurd (n (refusal-same (sym d ∙ e)))
refused-by (after-fault e f) d n = f ∙ sym e ∙ d
refused-by (after_more e f) d n = clash (sym e ∙ d)

accepted-by : {g h : Got Table} {t : Table} {k : ℕ} → After g h → g ≡ got t k → h ≡ refused Trailing
accepted-by (after-short e) d = clash (sym d ∙ e)
accepted-by (after-fault e f) d = clash (sym d ∙ e)
accepted-by (after_more e f) d = f

-- A fault other than Short stays, whatever follows.
pub fault_stays : (s r : List ℕ) {x : Refusal} → table_at s ≡ refused x → (x ≡ Short → ⊥) → table_at (s ++ r) ≡ refused x
fault_stays s [] e n = rw append-nil e
fault_stays s (b ∷ r) e n = refused-by (after_table s b r) e n

-- An accepted file with bytes after it is Trailing.
pub trailing-when-more : (s : List ℕ) (b : ℕ) (r : List ℕ) {t : Table} {k : ℕ} → table_at s ≡ got t k
    → table_at (s ++ (b ∷ r)) ≡ refused Trailing
trailing-when-more s b r e = accepted-by (after_table s b r) e
