-- Lists of zeros, as a call's own arrays are before. Assumes nothing.
use mathlib.Core.Path.{◌≡◌, refl, ap, sym, ◌∙◌, subst}
use mathlib.Core.List.{List, ◌∷◌}
use Prim.Native.Nat.{ℕ, zero, suc, ◌≤◌}
use native.Mathlib.Omega.{arith}
use lib.ListN.{length, get_or, take, replicate, length-replicate}
use Rattle.choice_rules.proofs.ListLaws.{replicate-get}
use Rattle.price.specs.Solved.{Blank}

abbrev pub zeros : ℕ → List ℕ
zeros n = replicate n 0

-- The first places of a list of zeros.
take-zeros : (w n : ℕ) → w ≤ n → take w (zeros n) ≡ zeros w
take-zeros zero n h = refl
take-zeros (suc w) zero h = absurd (omega arith)
take-zeros (suc w) (suc n) h = ap (λ (x : List ℕ). 0 ∷ x) (take-zeros w n (omega arith))

pub zeros-room : (n k : ℕ) → k ≤ n → k ≤ length (zeros n)
zeros-room n k h = subst (λ (m : ℕ). k ≤ m) (sym (length-replicate n 0)) h

pub take-zeros-length : (w n : ℕ) → w ≤ n → w ≡ length (take w (zeros n))
take-zeros-length w n h = sym (ap length (take-zeros w n h) ∙ length-replicate w 0)

-- The lists of the call's own, before: zeros for each of w classes.
pub blank-lists :
    (w n : ℕ) (xs : List ℕ) → xs ≡ take w (zeros n) → w ≤ n → Blank (length xs) xs xs xs
blank-lists w n xs e h =
    let z : xs ≡ zeros w = e ∙ take-zeros w n h in
    record {
      fresh = record {
        long = refl;
        costs_zero = λ c. ap (λ (x : List ℕ). get_or x c 0) z ∙ replicate-get w c;
        ranks_zero = λ c. ap (λ (x : List ℕ). get_or x c 0) z ∙ replicate-get w c;
      };
      ranks_length = refl;
      edges_length = refl;
    }
