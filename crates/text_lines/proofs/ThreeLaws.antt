-- Three texts one after the other, each written into the tail after what stands, and two bytes. Assumes nothing.
use mathlib.Core.Path.{◌≡◌}
use mathlib.Core.List.{List, [], ◌∷◌, ◌++◌}
use Prim.Native.Nat.{ℕ, ◌+◌, ◌-◌, ◌≤◌}
use native.Mathlib.Omega.{arith}
use lib.ListN.{length, take, drop, set, length-append}
use borrow.Rule.Slice.PartMut.{put_mid}
use Rattle.decimal.specs.Written.{Wrote}
use Rattle.decimal.proofs.WrittenLaws.{
  Stands,
  stands-of-wrote,
  wrote-of-stands,
  stands-then,
  stands-length,
  stands-fits,
}
use Rattle.text_lines.proofs.LineLaws.{stands-two}

module _
    (o₀ a b d : List ℕ)
    (room : length a + length b + length d + 2 ≤ length o₀)
    (o₁ : List ℕ)
    (p₁ : ℕ)
    (w₁ : Wrote a p₁ o₀ o₁)
  where
    s₁ : Stands o₀ a o₁ p₁
    s₁ = stands-of-wrote o₀ a o₁ p₁ w₁

    pub second_fits : length b ≤ length (take (length o₁ - p₁) (drop p₁ o₁))
    second_fits = stands-fits o₀ a o₁ p₁ s₁ b (omega arith)

    module _ (q₂ : List ℕ) (r₂ : ℕ) (w₂ : Wrote b r₂ (take (length o₁ - p₁) (drop p₁ o₁)) q₂) where
      abbrev o₂ : List ℕ
      o₂ = put_mid p₁ (length o₁ - p₁) o₁ q₂

      s₂ : Stands o₀ (a ++ b) o₂ (p₁ + r₂)
      s₂ = stands-then o₀ a o₁ p₁ s₁ b q₂ r₂ w₂

      long₂ : length (a ++ b) ≡ length a + length b
      long₂ = length-append a b

      pub third-fits :
          length d
          ≤ length
          (take (length (put_mid p₁ (length o₁ - p₁) o₁ q₂) - (p₁ + r₂))
          (drop (p₁ + r₂) (put_mid p₁ (length o₁ - p₁) o₁ q₂)))
      third-fits = stands-fits o₀ (a ++ b) o₂ (p₁ + r₂) s₂ d (omega (arith, long₂))

      module _ (q₃ : List ℕ) (r₃ : ℕ)
          (w₃ :
          Wrote d r₃
          (take (length (put_mid p₁ (length o₁ - p₁) o₁ q₂) - (p₁ + r₂))
          (drop (p₁ + r₂) (put_mid p₁ (length o₁ - p₁) o₁ q₂))) q₃) where
        abbrev o₃ : List ℕ
        o₃ = put_mid (p₁ + r₂) (length o₂ - (p₁ + r₂)) o₂ q₃

        s₃ : Stands o₀ ((a ++ b) ++ d) o₃ (p₁ + r₂ + r₃)
        s₃ = stands-then o₀ (a ++ b) o₂ (p₁ + r₂) s₂ d q₃ r₃ w₃

        long₃ : length ((a ++ b) ++ d) ≡ length a + length b + length d
        long₃ = omega (arith, length-append (a ++ b) d, long₂)

        pub third-end : p₁ + r₂ + r₃ + 2 ≤ length o₀
        third-end = omega (arith, s₃.long, long₃)

        pub third-length :
            length
            (put_mid (p₁ + r₂) (length (put_mid p₁ (length o₁ - p₁) o₁ q₂) - (p₁ + r₂))
            (put_mid p₁ (length o₁ - p₁) o₁ q₂) q₃)
            ≡ length o₀
        third-length = stands-length o₀ ((a ++ b) ++ d) o₃ (p₁ + r₂ + r₃) s₃ (omega (arith, long₃))

        pub third-wrote :
            (x y : ℕ) →
            Wrote (((a ++ b) ++ d) ++ (x ∷ y ∷ [])) (p₁ + r₂ + r₃ + 2) o₀
            (set
            (set
            (put_mid (p₁ + r₂) (length (put_mid p₁ (length o₁ - p₁) o₁ q₂) - (p₁ + r₂))
            (put_mid p₁ (length o₁ - p₁) o₁ q₂) q₃) (p₁ + r₂ + r₃) x) (p₁ + r₂ + r₃ + 1) y)
        third-wrote x y =
            wrote-of-stands o₀ (((a ++ b) ++ d) ++ (x ∷ y ∷ [])) _ (p₁ + r₂ + r₃ + 2)
            (stands-two o₀ ((a ++ b) ++ d) o₃ (p₁ + r₂ + r₃) x y s₃ (omega (arith, long₃)))
