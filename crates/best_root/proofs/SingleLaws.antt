-- Each answer of the code is the definition's. Assumes nothing.
use mathlib.Core.Path.{◌≡◌, refl, ap, sym, ◌∙◌, subst}
use mathlib.Core.Bool.{true, false}
use mathlib.Core.List.{List}
use Prim.Native.Nat.{ℕ, ◌≤◌}
use native.Mathlib.Omega.{arith}
use lib.IntN.{ℤ}
use Rattle.refusal.specs.declared.Refusal.TheVariants.{NoRoom, BadStore}
use Rattle.term_rules.specs.Lent.{Store, store}
use Rattle.term_rules.specs.WellFormed.{well_formed}
use Rattle.term_rules.specs.Nodes.{literal}
use Rattle.term_rules.specs.Adding.{at, no_room, add}
use Rattle.term_add.specs.declared.Added.{Added}
use Rattle.term_add.specs.Interning.{Leaves}
use Rattle.std.specs.Prelude.{Option, Some, None}
use Rattle.answer_rules.specs.Answers.{After, found, refused}
use Rattle.answer_rules.specs.Best.{BestTerm, best_term, best_literal}
use Rattle.best_class.specs.Flat.{BestReady}
use Rattle.best_root.specs.Single.{if_formed, literal_answer}

-- "17": by what the store is.
module _ (s : Store) (a : After BestTerm) where
  pub unformed-refuses : well_formed s ≡ false → refused BadStore s ≡ if_formed s a
  unfolding if_formed
  unformed-refuses e = rw (e, if_formed)

  pub formed-is : well_formed s ≡ true → a ≡ if_formed s a
  unfolding if_formed
  formed-is e = rw (e, if_formed)

-- A literal that was added, or had no room.
module _ (s : Store) (z : ℤ) (formed : well_formed s ≡ true) where
  pub literal_found :
      (r : Option Added) (b : Added) (rs : List ℕ) (ls : List ℤ) (ns : List ℕ) →
      Leaves s (add s (literal z)) r rs ls ns → r ≡ Some b →
      found (best_term 1 b.term 1) (store rs ls ns b.terms b.symbols) ≡ literal_answer z s
  unfolding best_literal
  literal_found r b rs ls ns w e =
      let a : at b.term (store rs ls ns b.terms b.symbols) ≡ add s (literal z) = rw e at w.answer in
      ap (best_literal s) a ∙ formed-is s (best_literal s (add s (literal z))) formed

  pub literal-full :
      (r : Option Added) (rs : List ℕ) (ls : List ℤ) (ns : List ℕ) →
      Leaves s (add s (literal z)) r rs ls ns → r ≡ None →
      refused NoRoom (store rs ls ns s.terms s.symbols) ≡ literal_answer z s
  unfolding best_literal
  literal-full r rs ls ns w e =
      let a : no_room ≡ add s (literal z) = rw e at w.answer in
      ap (refused NoRoom) (w.kept e)
      ∙ ap (best_literal s) a
      ∙ formed-is s (best_literal s (add s (literal z))) formed

pub few_classes :
    {outputs heads starts children order functions labels : List ℕ} {values : List ℤ} {n c : ℕ} {s : Store} →
    BestReady outputs heads starts children order functions labels values n c s →
    n ≤ 512
few_classes r = omega (arith, r.classes, r.is.known.few_classes)

-- The same lists with their own length for the number of classes.
pub ready_with :
    {outputs heads starts children order functions labels : List ℕ} {values : List ℤ} {n m c : ℕ} {s : Store} →
    n ≡ m →
    BestReady outputs heads starts children order functions labels values n c s →
    BestReady outputs heads starts children order functions labels values m c s
ready_with {outputs} {heads} {starts} {children} {order} {functions} {labels} {values} {c = c} {s = s} e r =
    subst (λ (k : ℕ). BestReady outputs heads starts children order functions labels values k c s) e r
