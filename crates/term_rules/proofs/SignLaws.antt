-- Literals as 64 bits: equal bits are equal literals. Assumes nothing.
use mathlib.Core.Path.{◌≡◌, ap, sym, ◌∙◌}
use lib.Dec.{lit<}
use lib.IntN.{ℤ, pos}
use mir.Syntax.{w64}
use mir.Val.{SFits, of_z, to_z}
use mir.ValLaws.{to_z-of_z}

pub bits-same : (a b : ℤ) → SFits w64 a → SFits w64 b → of_z w64 a ≡ of_z w64 b → a ≡ b
bits-same a b f g e = sym (to_z-of_z w64 a f) ∙ ap (to_z w64) e ∙ to_z-of_z w64 b g

pub bits-zero : (a : ℤ) → SFits w64 a → of_z w64 a ≡ 0 → a ≡ pos 0
bits-zero a f e = bits-same a (pos 0) f (record { sfits = lit< tt }) e

pub bits-apart : (a b : ℤ) → (of_z w64 a ≡ of_z w64 b → ⊥) → a ≡ b → ⊥
bits-apart a b n e = n (ap (of_z w64) e)
