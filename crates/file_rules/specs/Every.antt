-- What holds of every element of a list. Assumes nothing: a definition.
use Rattle.std.specs.Prelude.{List, [], ◌∷◌}

pub data Every {A : Type 0} (P : A → Type 0) : List A → Type 0 where
  every-nil : Every P []
  every-cons : {x : A} {xs : List A} → P x → Every P xs → Every P (x ∷ xs)
