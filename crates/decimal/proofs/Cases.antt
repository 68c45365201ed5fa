-- Zero prints one digit: document 01, "no literal a plus or leading zero". Assumes nothing.
use mathlib.Core.Path.{◌≡◌, refl}
use mathlib.Core.List.{[], ◌∷◌}
use lib.IntN.{pos}
use Rattle.decimal.specs.Decimal.{digits_in, digits, literal_text}

zero-literal : literal_text (pos 0) ≡ 48 ∷ []
unfolding literal_text digits digits_in
zero-literal = refl
