-- The loop that measures an application: the capped length of its head and of the children passed. Assumes nothing.
use mathlib.Core.Path.{◌≡◌, ap, ◌∙◌}
use mathlib.Core.List.{List, [], ◌∷◌, ◌++◌}
use Prim.Native.Nat.{ℕ, ◌+◌, ◌<◌, ◌≤◌}
use native.Mathlib.Omega.{arith}
use lib.ListN.{length, take, get_or, length-append}
use lib.Seq.{take_all}
use Rattle.text_rules.specs.Forms.{each}
use Rattle.text_rules.proofs.FormLaws.{each_none, each_more}
use Rattle.text_pieces.specs.Pieces.{capped}
use Rattle.text_write.proofs.WritingLaws.{so_far}

pub record Measuring (head gap : List ℕ) (g : ℕ → List ℕ) (ks : List ℕ) (acc j : ℕ) : Type 0 where
  pub at : j ≤ length ks
  pub same : acc ≡ capped (length (so_far head gap g ks j))

pub measuring-none :
    (head gap : List ℕ) (g : ℕ → List ℕ) (ks : List ℕ) (acc : ℕ) →
    acc ≡ capped (length head) →
    Measuring head gap g ks acc 0
measuring-none head gap g ks acc e =
    let z : length (each gap g []) ≡ 0 = ap length (each_none gap g) in
    record { at = omega arith; same = omega (arith, length-append head (each gap g [])) }

module _ (head gap : List ℕ) (g : ℕ → List ℕ) (ks : List ℕ) (acc j : ℕ) (v : Measuring head gap g ks acc j) where
  -- the gap, and then a child
  pub measuring-again :
      j < length ks →
      (l₁ r₁ l₂ r₂ : ℕ) →
      l₁ ≡ length gap →
      r₁ ≡ capped (acc + l₁) →
      l₂ ≡ capped (length (g (get_or ks j 0))) →
      r₂ ≡ capped (r₁ + l₂) →
      Measuring head gap g ks r₂ (j + 1)
  measuring-again l l₁ r₁ l₂ r₂ e₁ s₁ e₂ s₂ =
      let n : length (each gap g (take (j + 1) ks))
      ≡ length (each gap g (take j ks)) + length gap + length (g (get_or ks j 0)) =
      ap length (each_more gap g ks j l)
      ∙ (length-append (each gap g (take j ks) ++ gap) (g (get_or ks j 0))
      ∙ ap (λ (x : ℕ). x + length (g (get_or ks j 0))) (length-append (each gap g (take j ks)) gap)) in
      record {
        at = omega arith;
        same =
            omega (
              arith,
              v.same,
              length-append head (each gap g (take j ks)),
              length-append head (each gap g (take (j + 1) ks)),
            );
      }

  -- and the bracket
  pub measuring-end :
      length ks ≤ j → (r : ℕ) → r ≡ capped (acc + 1) → r ≡ capped (length (head ++ (each gap g ks ++ (41 ∷ []))))
  measuring-end l r e =
      let n : length (each gap g (take j ks)) ≡ length (each gap g ks) =
      ap (λ (x : List ℕ). length (each gap g x)) (take_all j ks l) in
      omega (
        arith,
        v.same,
        length-append head (each gap g (take j ks)),
        length-append head (each gap g ks ++ (41 ∷ [])),
        length-append (each gap g ks) (41 ∷ []),
      )
