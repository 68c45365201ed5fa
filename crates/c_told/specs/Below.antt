-- A refusal as a number below zero. Assumes nothing: a definition.
use Rattle.std.specs.Prelude.{ℤ, pos, neg_ℤ}
use Rattle.refusal.specs.declared.Refusal.{Refusal}
use Rattle.refusal.specs.Numbers.{refusal_no}

-- "Each returns its number alone": below zero, so that no length and no term's number is the same.
abbrev pub below_zero : Refusal → ℤ
below_zero r = neg_ℤ (pos (refusal_no r))
