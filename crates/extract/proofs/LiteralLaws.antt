-- A literal is added in a store of the same room, or no store of that room that keeps the first one's terms and names
-- holds it. Assumes nothing.
use Prim.Native.Nat.{ℕ}
use mathlib.Core.Path.{◌≡◌, refl, subst}
use mathlib.Core.Bool.{true}
use lib.IntN.{ℤ}
use Rattle.term_rules.specs.Lent.{Store}
use Rattle.term_rules.specs.WellFormed.{well_formed}
use Rattle.term_rules.specs.Nodes.{literal, number}
use Rattle.term_rules.specs.Adding.{at, no_room, add}
use Rattle.answer_rules.specs.Room.{Fits, NoRoomFor}
use Rattle.answer_rules.proofs.Room.StepLaws.{within-of-fits, Within, GoodAdd, add-fits, add-within}

module _ (s : Store) (f : well_formed s ≡ true) (z : ℤ) where
  pub literal-fits : (i : ℕ) (s' : Store) → add s (literal z) ≡ at i s' → Fits s s'
  literal-fits i s' e = subst (GoodAdd (Fits s) Unit) e (add-fits s (literal z) f tt)

  pub literal-full : add s (literal z) ≡ no_room → NoRoomFor s (number z)
  literal-full e s' g k =
      subst (GoodAdd (λ (b : Store). Within b s') ⊥) e
      (add-within s s' f g.formed (within-of-fits s s' f g) (literal z) (number z) tt refl k)
