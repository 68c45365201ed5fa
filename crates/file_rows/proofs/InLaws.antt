-- Where the arrays hold the sorts and the functions, the rows read against the arrays are those of the definition.
-- Assumes nothing.
use Prim.{Dec, yes, no}
use Prim.Native.Nat.{ℕ, zero, suc, ◌+◌, ◌-◌, ◌*◌, ◌≤◌, ◌<◌}
use mathlib.Core.Bool.{Bool, true, false}
use mathlib.Core.List.{List, [], ◌∷◌, ◌++◌, map}
use mathlib.Core.Path.{◌≡◌, refl, sym, ap, ◌∙◌, fun_ext}
use native.Mathlib.Decide.{dec_lt}
use native.Mathlib.Omega.{arith}
use lib.Dec.{ltb}
use lib.ListN.{length, get_or, replicate, length-append, get_or-append, get_or-map}
use lib.Seq.{get_or-drop, get_or-append_seam}
use borrow.Author.Tests.{ltb-true}
use Rattle.refusal.specs.declared.Refusal.{Refusal}
use Rattle.refusal.specs.declared.Refusal.TheVariants.{BadFunction}
use Rattle.bits.specs.Got.{Got, got, then, must, many}
use Rattle.bits.specs.Field.{field}
use Rattle.file_rules.specs.Table.{Sort, Function}
use Rattle.file_rules.specs.Every.{Every}
use Rattle.file_rules.specs.Rows.{sort_no, function_no, columns, range, cell_at, cells_at, row_at, rows_at}
use Rattle.file_rules.specs.Arrays.{pad_with, pad, blocks, HoldsSorts, HoldsFunctions}
use Rattle.file_rules.proofs.ArraysLaws.{pad_with-length}
use Rattle.file_rules.proofs.BlockLaws.{every_map, every_get, blocks-drop}
use Rattle.file_rules.proofs.CellLaws.{cell_after, cells-many}
use Rattle.file_rows.specs.In.{range_in, column_in, cell_in, cells_in, row_in, rows_in}
use Rattle.file_rows.proofs.CellLaws.{column-when-argument, column-when-output}

replicate-get : (m k : ℕ) → ◌≡◌ {A = ℕ} (get_or (replicate m 0) k 0) 0
replicate-get zero k = refl
replicate-get (suc m) zero = refl
replicate-get (suc m) (suc k) = replicate-get m k

zeros-get : (xs : List ℕ) (m k : ℕ) → get_or (xs ++ replicate m 0) k 0 ≡ get_or xs k 0
zeros-get [] m k = replicate-get m k
zeros-get (x ∷ xs) m zero = refl
zeros-get (x ∷ xs) m (suc k) = zeros-get xs m k

-- What stands at any place of an array is what stands there in the list, zero past its end.
pub pad-get : (n : ℕ) (xs : List ℕ) (k : ℕ) → get_or (pad n xs) k 0 ≡ get_or xs k 0
unfolding pad_with
pad-get n xs k = zeros-get xs (n - length xs) k

pub pad-map-get : {A : Type 0} (n : ℕ) (f : A → ℕ) (xs : List A) (k : ℕ) (d : A) → f d ≡ 0
    → get_or (pad n (map f xs)) k 0 ≡ f (get_or xs k d)
pad-map-get n f xs k d e = pad-get n (map f xs) k ∙ rw (← e) (get_or-map f xs k d)

-- The readings of many things are the same where the reading of each is.
then_same : {A B : Type 0} (g : Got A) {f h : A → ℕ → Got B} → ((a : A) (k : ℕ) → f a k ≡ h a k) → then g f ≡ then g h
then_same g e = ap (then g) (fun_ext (λ a. fun_ext (λ k. e a k)))

pub many-same : {A : Type 0} (f g : List A → ℕ → Got A) (m : ℕ)
    → ((xs : List A) (p : ℕ) → length xs < m → f xs p ≡ g xs p)
    → (n at : ℕ) (xs : List A) → length xs + n ≡ m → many f n at xs ≡ many g n at xs
unfolding many
many-same f g m e zero at xs c = refl
many-same f g m e (suc n) at xs c =
    rw (e xs at (omega arith))
    (then_same (g xs at) (λ x p. many-same f g m e n p (xs ++ (x ∷ [])) (simp length-append (omega arith))))

module _ {kinds classes : List ℕ} {sorts : List Sort} (h : HoldsSorts kinds classes sorts) (l k : ℕ) where
  range-is : range_in kinds classes l k ≡ range sorts l k
  unfolding range_in range
  range-is =
      rw (
        h.kinds_are,
        h.classes_are,
        pad-map-get 32 (λ (x : Sort). x.kind) sorts k (sort_no [] 0) refl,
        pad-map-get 32 (λ (x : Sort). x.classes) sorts k (sort_no [] 0) refl,
      )

-- The 8 places of a function's argument sorts.
abbrev places_of : Function → List ℕ
places_of f = pad 8 f.arguments

-- What stands in the arrays of function f.
module _ {names declared costs unextractable hidden outputs arities arguments : List ℕ} {fs : List Function}
    (h : HoldsFunctions names declared costs unextractable hidden outputs arities arguments fs)
    (tight : Every (λ (f : Function). length f.arguments ≤ 8) fs) (f : ℕ) (b : f < length fs) where
  arity-is : get_or arities f 0 ≡ length (function_no fs f).arguments
  arity-is =
      rw h.arities_are (pad-map-get 128 (λ (f : Function). length f.arguments) fs f (function_no [] 0) refl)

  output-is : get_or outputs f 0 ≡ (function_no fs f).output
  output-is = rw h.outputs_are (pad-map-get 128 (λ (f : Function). f.output) fs f (function_no [] 0) refl)

  argument_is : (j : ℕ) → j < length (function_no fs f).arguments
      → get_or arguments (f * 8 + j) 0 ≡ get_or (function_no fs f).arguments j 0
  unfolding pad_with
  argument_is j l =
      let a : List ℕ = (function_no fs f).arguments in
      let few : length a ≤ 8 = every_get tight f (function_no [] 0) b in
      let long =
      every_map (λ (f : Function) (l : length f.arguments ≤ 8). pad_with-length 0 8 f.arguments l) tight in
      let m : j < length (pad 8 a) = rw (pad_with-length 0 8 a few) (omega arith) in
      rw (h.arguments_are, ← get_or-drop (f * 8) (pad 1024 (blocks places_of fs)) j 0)
      (ap (λ (x : List ℕ). get_or x j 0) (blocks-drop places_of 8 long f (function_no [] 0) _ b)
      ∙ get_or-append (pad 8 a) _ 0 j m
      ∙ pad-get 8 a j)

  column-by : (j : ℕ) → j < length (function_no fs f).arguments + 1 → Dec (j < length (function_no fs f).arguments)
      → column_in outputs arities arguments f j ≡ get_or (columns (function_no fs f)) j 0
  column-by j l (yes m) =
      column-when-argument outputs arities arguments f j (rw arity-is m)
      ∙ argument_is j m
      ∙ sym (get_or-append (function_no fs f).arguments _ 0 j m)
  column-by j l (no n) =
      let e : j ≡ length (function_no fs f).arguments = omega arith in
      column-when-output outputs arities arguments f j (rw arity-is (omega arith))
      ∙ output-is
      ∙ rw e (sym (get_or-append_seam (function_no fs f).arguments (function_no fs f).output [] 0))

  column-is : (j : ℕ) → j < length (function_no fs f).arguments + 1
      → column_in outputs arities arguments f j ≡ get_or (columns (function_no fs f)) j 0
  column-is j l = column-by j l (dec_lt j (length (function_no fs f).arguments))

  cells_are : (s : List ℕ) {kinds classes : List ℕ} {sorts : List Sort} → HoldsSorts kinds classes sorts → (l at : ℕ)
      → cells_in s kinds classes l outputs arities arguments f at ≡ cells_at s sorts l (columns (function_no fs f)) at
  unfolding cells_in
  cells_are s {kinds} {classes} {sorts} o l at =
      let n : length (columns (function_no fs f)) ≡ length (function_no fs f).arguments + 1 =
      length-append (function_no fs f).arguments _ in
      let by-many : many (cell_in s kinds classes l outputs arities arguments f) (get_or arities f 0 + 1) at []
      ≡ many (cell_after s sorts l (columns (function_no fs f))) (length (columns (function_no fs f))) at [] =
      rw (arity-is, n)
      (many-same _ _ (length (function_no fs f).arguments + 1)
      (λ xs p m.
      ap (λ (b : ℕ). cell_at s b p)
      (range-is o l (column_in outputs arities arguments f (length xs)) ∙ ap (range sorts l) (column-is (length xs) m)))
      (length (function_no fs f).arguments + 1) at [] (omega arith)) in
      by-many ∙ sym (cells-many s sorts l (columns (function_no fs f)) at)

must-same : {A : Type 0} (b : Bool) (r : Refusal) {g h : Got A} → (b ≡ true → g ≡ h) → must b r g ≡ must b r h
unfolding must
must-same true r e = e refl
must-same false r e = refl

module _ (s : List ℕ) {kinds classes : List ℕ} {sorts : List Sort} (o : HoldsSorts kinds classes sorts)
    {names declared costs unextractable hidden outputs arities arguments : List ℕ} {fs : List Function}
    (h : HoldsFunctions names declared costs unextractable hidden outputs arities arguments fs)
    (tight : Every (λ (f : Function). length f.arguments ≤ 8) fs) (l : ℕ) where
  row_is : (at : ℕ) → row_in s kinds classes l (length fs) outputs arities arguments at ≡ row_at s sorts l fs at
  unfolding row_in row_at
  row_is at =
      then_same (field s at 7) (λ f p.
      must-same (ltb f (length fs)) BadFunction (λ b.
      then_same (field s p 1) (λ bit q.
      ap
      (λ (g : Got (List ℕ)). then g (λ cells t. got (record { function = f; subsumed = bit; cells = cells }) t))
      (cells_are h tight f (ltb-true _ _ b) s o l q))))

  -- The rows read against the arrays are those of the definition.
  pub rows_are : (n at : ℕ)
      → rows_in s kinds classes l (length fs) outputs arities arguments n at ≡ rows_at s sorts l fs n at
  unfolding rows_in rows_at
  rows_are n at = many-same _ _ n (λ rows p _. row_is p) n at [] (omega arith)
