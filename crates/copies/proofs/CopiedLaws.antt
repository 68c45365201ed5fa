-- Laws on copying: what was saved is put back. Assumes nothing.
use Prim.Native.Nat.{ℕ, ◌+◌, min}
use mathlib.Core.Path.{◌≡◌, refl, sym, ap, subst, ◌∙◌}
use mathlib.Core.Bool.{Bool, true, false}
use mathlib.Core.List.{List, ◌++◌}
use native.Mathlib.Nat.{zero-add}
use native.Mathlib.Omega.{arith}
use lib.ListN.{length, take, drop, take-append-drop, drop_of_length-le, replicate, length-replicate}
use lib.Seq.{paste, take-paste, length-paste}
use lib.Dec.{ltb}
use borrow.Author.Tests.{ltb-true, ltb-false}
use Rattle.copies.specs.Copied.{copied}

-- What was saved in z is put back over what came of it, if nothing changed past the places that z has.
module _ {A : Type 0} (z kept left : List A) (same : length left ≡ length kept) where
  past :
      drop (length z) left ≡ drop (length z) kept →
      (b : Bool) →
      ltb (length z) (length kept) ≡ b →
      drop (min (length z) (length kept)) left ≡ drop (min (length z) (length kept)) kept
  past h true b =
      let e : min (length z) (length kept) ≡ length z = omega (arith, ltb-true (length z) (length kept) b) in
      rw e h
  past h false b =
      let m : ℕ = min (length z) (length kept) in
      let e : m ≡ length kept = omega (arith, ltb-false (length z) (length kept) b) in
      drop_of_length-le left {i = m} (omega arith) ∙ sym (drop_of_length-le kept {i = m} (omega arith))

  copied-back : drop (length z) left ≡ drop (length z) kept → copied left (copied z kept) ≡ kept
  unfolding copied
  copied-back h =
      let m : ℕ = min (length z) (length kept) in
      let saved : List A = paste z 0 kept m in
      let long : length saved ≡ length z = length-paste z 0 kept m (omega arith) (omega arith) in
      let n : min (length left) (length saved) ≡ m = omega arith in
      let first : take m saved ≡ take m kept =
      ap (λ (k : ℕ). take k saved) (sym (zero-add m)) ∙ take-paste z 0 kept m (omega arith) (omega arith) in
      let rest : drop (0 + m) left ≡ drop m kept =
      ap (λ (k : ℕ). drop k left) (zero-add m) ∙ past h (ltb (length z) (length kept)) refl in
      ap (paste left 0 saved) n
      ∙ ap (λ (t : List A). t ++ drop (0 + m) left) first
      ∙ ap (λ (t : List A). take m kept ++ t) rest
      ∙ take-append-drop m kept

-- what was saved in n places is put back
pub saved-back :
    {A : Type 0} (n : ℕ) (d : A) (kept left : List A) →
    length left ≡ length kept →
    drop n left ≡ drop n kept →
    copied left (copied (replicate n d) kept) ≡ kept
saved-back n d kept left e h =
    copied-back (replicate n d) kept left e
    (subst (λ (m : ℕ). drop m left ≡ drop m kept) (sym (length-replicate n d)) h)
