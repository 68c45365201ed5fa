-- What is picked for each kind of record. Assumes nothing.
use Prim.Native.Nat.{ℕ}
use mathlib.Core.Path.{◌≡◌}
use mathlib.Core.Bool.{false}
use lib.Dec.{eqb}
use Rattle.term_rules.specs.Lent.{by_kind}

module _ {A : Type 0} (l v a o : A) (k : ℕ) where
  pub by_kind-literal : k ≡ 0 → by_kind k l v a o ≡ l
  unfolding by_kind
  by_kind-literal e = rw e

  pub by_kind-variable : k ≡ 1 → by_kind k l v a o ≡ v
  unfolding by_kind
  by_kind-variable e = rw e

  pub by_kind-application : k ≡ 2 → by_kind k l v a o ≡ a
  unfolding by_kind
  by_kind-application e = rw e

  pub by_kind-other : eqb k 0 ≡ false → eqb k 1 ≡ false → eqb k 2 ≡ false → by_kind k l v a o ≡ o
  unfolding by_kind
  by_kind-other e f g = rw (e, f, g, by_kind)
