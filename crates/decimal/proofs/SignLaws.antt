-- The text of a literal of each sign. Assumes nothing.
use mathlib.Core.Path.{◌≡◌, refl, sym, subst}
use Prim.Native.Nat.{ℕ, ◌<◌}
use native.Mathlib.Omega.{arith}
use lib.IntN.{ℤ, pos, negsuc, nat_abs}
use lib.Signed.{non_neg, lt_z, ◌<ℤ◌}
use lib.Dec.{T, ltb→lt}
use mathlib.Core.Bool.{true, false}
use mathlib.Core.List.{◌∷◌}
use mir.Syntax.{w64}
use mir.Val.{SFits, to_z, of_z}
use mir.Facts.{to_z-of_z}
use Rattle.decimal.specs.Decimal.{digits, literal_text}

pub literal_text-of-negative : (z : ℤ) → z <ℤ pos 0 → literal_text z ≡ 45 ∷ digits (nat_abs z)
unfolding literal_text
literal_text-of-negative (pos n) l =
    let h : n < 0 = ltb→lt n 0 l.lt in
    absurd (omega arith)
literal_text-of-negative (negsuc n) l = refl

pub literal_text-of-nonneg : (z : ℤ) → T (non_neg z) → literal_text z ≡ digits (nat_abs z)
unfolding literal_text
literal_text-of-nonneg (pos n) l = refl
literal_text-of-nonneg (negsuc n) l = absurd l

below : (z : ℤ) → lt_z z (pos 0) ≡ true → z <ℤ pos 0
below z l = record { lt = subst T (sym l) tt }

not-below : (z : ℤ) → lt_z z (pos 0) ≡ false → T (non_neg z)
not-below (pos n) l = tt
not-below (negsuc n) l = subst T l tt

-- the same, by the magnitude that the code computes
module _ (z : ℤ) (m : ℕ) (fz : SFits w64 z) (e : m ≡ nat_abs (to_z w64 (of_z w64 z))) where
  pub told-negative : lt_z (to_z w64 (of_z w64 z)) (pos 0) ≡ true → literal_text z ≡ 45 ∷ digits m
  told-negative l = rw (e, to_z-of_z fz) (literal_text-of-negative z (below z (rw (to_z-of_z fz) at l)))

  pub told-nonneg : lt_z (to_z w64 (of_z w64 z)) (pos 0) ≡ false → literal_text z ≡ digits m
  told-nonneg l = rw (e, to_z-of_z fz) (literal_text-of-nonneg z (not-below z (rw (to_z-of_z fz) at l)))
