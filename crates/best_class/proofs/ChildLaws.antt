-- The children of a table's rows: as child numbers, as the builder's children, and in range. Assumes nothing.
use mathlib.Core.Path.{◌≡◌, refl, ap, sym, subst}
use mathlib.Core.List.{List, [], ◌∷◌, map}
use Prim.Native.Nat.{ℕ, suc, ◌-◌, ◌<◌}
use native.Mathlib.Omega.{arith}
use lib.Dec.{ltb, eqb}
use lib.IntN.{ℤ, pos}
use lib.ListN.{length, get_or}
use Rattle.order.proofs.OrderLaws.{cases}
use Rattle.choice_rules.specs.Rows.{Child, literal, class, row_at, child_at}
use Rattle.price_passes.specs.Flat.{child_of as flat_child}
use Rattle.build.specs.Plan.{value, child_of as plan_number}
use Rattle.file_rules.specs.Table.{Table}
use Rattle.table_rules.specs.Rules.Classes.{sort_of, child_of, range_of}
use Rattle.table_rules.specs.Rules.Rows.{function_of, table_row_of, table_rows}
use Rattle.table_rules.specs.Rules.Terms.{literal_of}
use Rattle.table_rules.specs.Rules.Facts.{arity_of, Known}
use Rattle.table_rules.proofs.Rules.CoverLaws.{child-get, children-length}
use Rattle.answer_rules.specs.Plan.{plan_child}

-- a child that is a literal is one of the table's
abbrev pub InTable : Table → Child → Type 0
InTable t (literal i) = i < length t.literals
InTable t (class c) = Unit {0}

child_of-in : (t : Table) (s v : ℕ) → v < range_of t s → InTable t (child_of t s v)
unfolding child_of range_of
child_of-in t s v h =
    cases (eqb (sort_of t s).kind 0)
    (λ e. rw (e, child_of) (rw (e, range_of) at h)) (λ e. rw (e, child_of) tt)

module _ (t : Table) (k : Known t) where
  pub row-children-in :
      (r : ℕ) →
      r < length t.rows →
      (j : ℕ) →
      j < length (row_at (table_rows t) r).children →
      InTable t (child_at (row_at (table_rows t) r) j)
  row-children-in r l j m =
      let a : j < arity_of t r = omega (arith, m, children-length t k r l) in
      subst (InTable t) (sym (child-get t k r l j a))
      (child_of-in t (get_or (function_of t (table_row_of t r).function).arguments j 0) (get_or (table_row_of t r).cells j 0)
      (k.argument_cell r j l a))

-- a child number as the builder's child
module _
    (t : Table) (values : List ℤ) (same : (i : ℕ) → i < length t.literals → get_or values i (pos 0) ≡ literal_of t i)
  where
    number-child : (x : ℕ) → InTable t (flat_child x) → plan_number values x ≡ plan_child t (flat_child x)
    unfolding plan_number flat_child plan_child
    number-child x i =
        cases (ltb x 512) (λ e. rw (e, plan_number) refl)
        (λ e. rw (e, plan_number) (ap value (same (x - 512) (rw e at i))))

    pub number-children :
        (xs : List ℕ) →
        ((j : ℕ) → j < length xs → InTable t (flat_child (get_or xs j 0))) →
        map (plan_number values) xs ≡ map (plan_child t) (map flat_child xs)
    number-children [] i = refl
    number-children (x ∷ xs) i =
        let a = number-child x (i 0 (omega arith)) in
        let b = number-children xs (λ j l. i (suc j) (omega arith)) in
        rw (a, b) refl
