-- Laws on the children of a record. Assumes nothing.
use Prim.Native.Nat.{ℕ, ◌≤◌}
use mathlib.Core.Path.{◌≡◌}
use mathlib.Core.List.{List}
use native.Mathlib.Omega.{arith}
use lib.ListN.{length, length-take}
use Rattle.term_rules.specs.Lent.{HasRecord, arity_at, places_at, kids_at}
use Rattle.term_rules.proofs.LayoutLaws.{children-length}

pub kids-length : (rs : List ℕ) (i : ℕ) → length (kids_at rs i) ≤ arity_at rs i
kids-length rs i = omega (arith, length-take (arity_at rs i) (places_at rs i))

pub kids-all : (rs : List ℕ) (i : ℕ) → HasRecord rs i → arity_at rs i ≤ 8 → length (kids_at rs i) ≡ arity_at rs i
kids-all rs i h l = omega (arith, length-take (arity_at rs i) (places_at rs i), children-length rs i h)
