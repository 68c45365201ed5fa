-- Pieces of text that follow each other. Assumes nothing.
use mathlib.Core.Path.{◌≡◌, refl, sym, ap, ◌∙◌}
use mathlib.Core.List.{List, [], ◌∷◌, ◌++◌, append_assoc}
use Prim.Native.Nat.{ℕ, ◌+◌, ◌-◌, ◌<◌, ◌≤◌}
use native.Mathlib.Omega.{arith}
use native.Mathlib.Nat.{zero-add, add-zero}
use native.Mathlib.Numerals.{add-one}
use lib.ListN.{length, set, take, drop, length-append, length-drop, take-append-drop}
use lib.Seq.{length-take-le, drop-append-le, drop-drop, drop_at, take_at, set_split}
use borrow.Rule.Slice.PartMut.{put_mid}
use Rattle.decimal.specs.Written.{Wrote}
use Rattle.decimal.proofs.WrittenLaws.{laid, Stands, stands-then}
use Rattle.program_rules.specs.Step.{Step}

module _ (o e : List ℕ) (p : ℕ) (l : p ≤ length o) where
  long : length (take p o ++ e) ≡ p + length e
  long = rw (length-append, length-take-le p o l) refl

  whole : laid o (take p o ++ e) ≡ take p o ++ (e ++ drop (p + length e) o)
  unfolding laid
  whole = rw (long, append_assoc) refl

  pub step-of-stands : (o' : List ℕ) (r : ℕ) → Stands o (take p o ++ e) o' r → Step e p r o o'
  step-of-stands o' r v = record { place = v.long ∙ long; bytes = v.bytes ∙ whole }

  pub stands-of-step : (o' : List ℕ) (r : ℕ) → Step e p r o o' → Stands o (take p o ++ e) o' r
  stands-of-step o' r s = record { long = s.place ∙ sym long; bytes = s.bytes ∙ sym whole }

-- What is there before a first piece.
stands-front : (o : List ℕ) (p : ℕ) → p ≤ length o → Stands o (take p o) o p
unfolding laid
stands-front o p l = record {
  long = sym (length-take-le p o l);
  bytes = sym (take-append-drop p o) ∙ rw (length-take-le p o l) refl;
}

-- A callee wrote e in the tail from p on.
pub step-of-tail :
    (o e q : List ℕ) (p r : ℕ) →
    p ≤ length o →
    Wrote e r (take (length o - p) (drop p o)) q →
    Step e p (p + r) o (put_mid p (length o - p) o q)
step-of-tail o e q p r l w =
    step-of-stands o e p l (put_mid p (length o - p) o q) (p + r)
    (stands-then o (take p o) o p (stands-front o p l) e q r w)

-- One byte.
pub step-byte : (o : List ℕ) (b p : ℕ) → p < length o → Step (b ∷ []) p (p + 1) o (set o p b)
step-byte o b p l = record { place = refl; bytes = set_split o p b l ∙ rw (add-one p) refl }

-- The length stays.
pub step-length : (o e o' : List ℕ) (p r : ℕ) → Step e p r o o' → p + length e ≤ length o → length o' ≡ length o
step-length o e o' p r s l =
    ap length s.bytes
    ∙ rw (length-append, length-append, length-drop, length-take-le p o (omega (arith, l))) (omega (arith, l))

-- One piece, then the next.
pub step_then :
    (o e o₁ f o₂ : List ℕ) (p r q : ℕ) →
    Step e p r o o₁ →
    Step f r q o₁ o₂ →
    p + length e ≤ length o →
    Step (e ++ f) p q o o₂
step_then o e o₁ f o₂ p r q s t l =
    let low : p ≤ length o = omega (arith, l) in
    let front : o₁ ≡ (take p o ++ e) ++ drop (p + length e) o =
    s.bytes ∙ sym (append_assoc (take p o) e (drop (p + length e) o)) in
    let seam : length (take p o ++ e) ≡ p + length e = long o e p low in
    let kept : take (p + length e) o₁ ≡ take p o ++ e =
    ap (take (p + length e)) front ∙ take_at (take p o ++ e) (drop (p + length e) o) (p + length e) seam in
    let rest : drop (p + length e) o₁ ≡ drop (p + length e) o =
    ap (drop (p + length e)) front ∙ drop_at (take p o ++ e) (drop (p + length e) o) (p + length e) seam in
    let sum : p + length e + length f ≡ p + length (e ++ f) = rw length-append (omega arith) in
    let after : drop (p + length e + length f) o₁ ≡ drop (p + length (e ++ f)) o =
    sym (drop-drop (length f) (p + length e) o₁)
    ∙ (ap (drop (length f)) rest ∙ (drop-drop (length f) (p + length e) o ∙ ap (λ (k : ℕ). drop k o) sum)) in
    record {
      place = t.place ∙ (rw (s.place, length-append) (omega arith));
      bytes = t.bytes ∙ rw (s.place, kept, after, append_assoc, append_assoc) refl;
    }

-- Nothing.
pub step-none : (o : List ℕ) (p : ℕ) → Step [] p p o o
step-none o p = record { place = omega arith; bytes = sym (take-append-drop p o) ∙ rw (add-zero p) refl }

-- From the start: the text, then what was past it.
pub step-whole : (o e o' : List ℕ) (r : ℕ) → Step e 0 r o o' → (r ≡ length e) × (o' ≡ e ++ drop (length e) o)
step-whole o e o' r s = (s.place ∙ zero-add (length e), s.bytes ∙ ap (λ (k : ℕ). e ++ drop k o) (zero-add (length e)))

-- A callee wrote e at the start of the part from p to q.
pub step-of-middle :
    (o e m : List ℕ) (p q r : ℕ) →
    p ≤ q →
    q ≤ length o →
    length e ≤ q - p →
    Wrote e r (take (q - p) (drop p o)) m →
    Step e p (p + r) o (put_mid p (q - p) o m)
step-of-middle o e m p q r l h small w =
    let mid : length (take (q - p) (drop p o)) ≡ q - p =
    length-take-le (q - p) (drop p o) (omega (arith, l, h, length-drop p o)) in
    let rest : drop (length e) (take (q - p) (drop p o)) ++ drop (q - p) (drop p o) ≡ drop (p + length e) o =
    sym
    (drop-append-le (length e) (take (q - p) (drop p o)) (drop (q - p) (drop p o)) (omega (arith, small, mid)))
    ∙ (ap (drop (length e)) (take-append-drop (q - p) (drop p o)) ∙ drop-drop (length e) p o) in
    let all : m ++ drop (q - p) (drop p o) ≡ e ++ drop (p + length e) o =
    ap (λ (x : List ℕ). x ++ drop (q - p) (drop p o)) w.bytes
    ∙ (append_assoc e (drop (length e) (take (q - p) (drop p o))) (drop (q - p) (drop p o))
    ∙ ap (λ (x : List ℕ). e ++ x) rest) in
    record { place = ap (λ (k : ℕ). p + k) w.long; bytes = ap (λ (x : List ℕ). take p o ++ x) all }

-- A text in front of what was written from its end on.
pub step-front :
    (o f o₁ e o₂ : List ℕ) (p r z : ℕ) →
    p ≡ length e →
    p + length f ≤ length o →
    Step f p r o o₁ →
    Step e 0 z o₁ o₂ →
    Step (e ++ f) 0 r o o₂
step-front o f o₁ e o₂ p r z h l s t =
    let seam : length (take p o) ≡ p = length-take-le p o (omega (arith, l)) in
    let tail : drop (length e) o₁ ≡ f ++ drop (p + length f) o =
    ap (λ (k : ℕ). drop k o₁) (sym h)
    ∙ (ap (drop p) s.bytes ∙ drop_at (take p o) (f ++ drop (p + length f) o) p seam) in
    let sum : p + length f ≡ 0 + length (e ++ f) = rw length-append (omega (arith, h)) in
    record {
      place = s.place ∙ sum;
      bytes =
          (step-whole o₁ e o₂ z t).1
          ∙ (ap (λ (x : List ℕ). e ++ x) tail
          ∙ (sym (append_assoc e f (drop (p + length f) o)) ∙ ap (λ (k : ℕ). (e ++ f) ++ drop k o) sum));
    }
