-- The root of a table from the arrays of its sorts. Assumes nothing.
use Prim.Native.Nat.{ℕ, ◌+◌, ◌≤◌, ◌<◌}
use mathlib.Core.Path.{◌≡◌, refl, sym, ◌∙◌}
use mathlib.Core.Bool.{true, false}
use mathlib.Core.List.{List, map}
use native.Mathlib.Omega.{arith}
use native.Mathlib.Decide.{dec_lt}
use borrow.Author.Tests.{eq-eqb, ne_eqb, lt-ltb, le-ltb}
use lib.ListN.{length, get_or}
use Rattle.name.specs.Entries.{table_length, entry}
use Rattle.file_rules.specs.declared.Counts.{Counts}
use Rattle.file_rules.specs.declared.Sorts.{Sorts}
use Rattle.file_rules.specs.Table.{Sort, Function, Row, Table}
use Rattle.file_rules.specs.Arrays.{pad, blocks}
use Rattle.table_flat.specs.Classes.{first_class, Bases}
use Rattle.table_rules.specs.Rules.Classes.{no_sort, sort_of, flat_class, range_of, is_root}
use Rattle.table_rules.specs.Rules.Facts.{Known}
use Rattle.table_rules.proofs.Rules.ClassLaws.{flat_class-below}
use Rattle.table_rules.proofs.Rules.CoverLaws.{range_of-eq}
use Rattle.table_rows.specs.Held.{Holds}
use Rattle.table_rows.proofs.Held.PlaceLaws.{pad-map-get}
use Rattle.table_rows.proofs.Held.KnownLaws.{known-of-accepted}
use Rattle.table_rows.proofs.Held.HeldLaws.{class-count-held, class-held}
use Rattle.table_rows.proofs.Held.ArrayLaws.{padded-long}
use Rattle.table_rows.specs.Given.{sorts_stand}
use Rattle.table_rows.specs.Rooted.{root_of}
use Rattle.table_rows.specs.declared.prepare.Root.TheVariants.{Class, Literal}
use Rattle.std.specs.Prelude.{Some, None}

-- The arrays of a table's functions and rows, where only its sorts stand in arrays.
abbrev numbers : (Function → ℕ) → Table → List ℕ
numbers f t = pad 128 (map f t.functions)

module _ (q : Counts) (x : Sorts) (t : Table) (h : sorts_stand q x t) where
  known : Known t
  known = known-of-accepted t h.accepted

  -- With the functions and rows in arrays of their own, the whole table is held.
  held :
      Holds t x.kinds x.classes
      (pad table_length (blocks (λ (f : Function). entry f.name) t.functions))
      (numbers (λ (f : Function). f.has_cost) t)
      (numbers (λ (f : Function). f.cost) t)
      (numbers (λ (f : Function). f.unextractable) t)
      (numbers (λ (f : Function). f.hidden) t)
      (numbers (λ (f : Function). f.output) t)
      (numbers (λ (f : Function). length f.arguments) t)
      (pad 1024 (blocks (λ (f : Function). pad 8 f.arguments) t.functions))
      (pad 1024 (map (λ (r : Row). r.function) t.rows))
      (pad 1024 (map (λ (r : Row). r.subsumed) t.rows))
      (pad 9216 (blocks (λ (r : Row). pad 9 r.cells) t.rows))
  held = record {
    sorts_held = h.held;
    functions_held = record {
      names_are = refl;
      declared_are = refl;
      costs_are = refl;
      unextractable_are = refl;
      hidden_are = refl;
      outputs_are = refl;
      arities_are = refl;
      arguments_are = refl;
    };
    rows_held = record { functions_are = refl; subsumed_are = refl; cells_are = refl };
  }

  pub sorts_few : q.sorts ≤ 31
  sorts_few = omega (arith, known.few_sorts, h.sorts_are)

  pub kinds_long : q.sorts ≤ length x.kinds
  kinds_long = rw h.held.kinds_are (padded-long 32 q.sorts _ (omega (arith, sorts_few)))

  pub classes-long : q.sorts ≤ length x.classes
  classes-long = rw h.held.classes_are (padded-long 32 q.sorts _ (omega (arith, sorts_few)))

  kind-is : (s : ℕ) → get_or x.kinds s 0 ≡ (sort_of t s).kind
  kind-is s = rw h.held.kinds_are (pad-map-get (λ (y : Sort). y.kind) no_sort refl 32 t.sorts s)

  classes-is : (s : ℕ) → get_or x.classes s 0 ≡ (sort_of t s).classes
  classes-is s = rw h.held.classes_are (pad-map-get (λ (y : Sort). y.classes) no_sort refl 32 t.sorts s)

  -- The classes of all sorts are few.
  pub count-few : first_class x.classes q.sorts ≤ 512
  count-few =
      rw h.sorts_are at
      (let e = class-count-held t known x.kinds x.classes _ _ _ _ _ _ _ _ _ _ _ held in
      let d : first_class x.classes (length t.sorts) ≤ 512 = omega (arith, e, known.few_classes) in
      d)

  module _ (s v : ℕ) where
    pub root-when-no-sort : q.sorts ≤ s → None ≡ root_of t s v
    unfolding root_of is_root
    root-when-no-sort l =
        let e : is_root t s v ≡ false = rw (le-ltb s (length t.sorts) (omega (arith, h.sorts_are))) in
        rw (e, root_of)

    module _ (l : s < q.sorts) where
      below : s < length t.sorts
      below = omega (arith, h.sorts_are)

      range-base : (sort_of t s).kind ≡ 0 → range_of t s ≡ q.literals
      unfolding range_of
      range-base e = rw (eq-eqb (sort_of t s).kind 0 e, range_of) h.literals_are

      root-out : range_of t s ≤ v → None ≡ root_of t s v
      unfolding root_of is_root
      root-out k =
          let e : is_root t s v ≡ false = rw (lt-ltb s (length t.sorts) below, le-ltb v (range_of t s) k) in
          rw (e, root_of)

      root_in : v < range_of t s → is_root t s v ≡ true
      unfolding is_root
      root_in k = rw (lt-ltb s (length t.sorts) below, lt-ltb v (range_of t s) k)

      pub root-when-no-literal : get_or x.kinds s 0 ≡ 0 → q.literals ≤ v → None ≡ root_of t s v
      root-when-no-literal e k = root-out (omega (arith, range-base (sym (kind-is s) ∙ e)))

      pub root-when-literal : get_or x.kinds s 0 ≡ 0 → v < q.literals → Some (Literal v) ≡ root_of t s v
      unfolding root_of
      root-when-literal e k =
          let z : (sort_of t s).kind ≡ 0 = sym (kind-is s) ∙ e in
          rw (root_in (omega (arith, range-base z)), eq-eqb (sort_of t s).kind 0 z, root_of)

      module _ (n : get_or x.kinds s 0 ≡ 0 → ⊥) where
        eq : (sort_of t s).kind ≡ 0 → ⊥
        eq e = n (kind-is s ∙ e)

        pub root-when-no-class : get_or x.classes s 0 ≤ v → None ≡ root_of t s v
        root-when-no-class k = root-out (omega (arith, range_of-eq t s eq, classes-is s))

        module _ (k : v < get_or x.classes s 0) (bases : List ℕ) (b : Bases q.sorts x.classes bases) where
          class-is : get_or bases s 0 + v ≡ flat_class t s v
          class-is =
              class-held t known x.kinds x.classes _ _ _ _ _ _ _ _ _ _ _ held bases
              (λ i d. b i (omega (arith, h.sorts_are))) s v below

          pub class-small : get_or bases s 0 + v < 512
          class-small =
              omega (arith, class-is, flat_class-below t s v below (omega (arith, classes-is s)), known.few_classes)

          pub root-when-class : Some (Class (get_or bases s 0 + v)) ≡ root_of t s v
          unfolding root_of
          root-when-class =
              rw (
                class-is,
                root_in (omega (arith, range_of-eq t s eq, classes-is s)),
                ne_eqb (sort_of t s).kind 0 eq,
                root_of,
              )

-- A root that is a class has a sort of the table.
pub root-sort : (t : Table) (s v c : ℕ) → Some (Class c) ≡ root_of t s v → s < length t.sorts
unfolding root_of is_root
root-sort t s v c e = go (dec_lt s (length t.sorts))
  where
    go : Dec (s < length t.sorts) → s < length t.sorts
    go (yes l) = l
    go (no n) =
        let z : is_root t s v ≡ false = rw (le-ltb s (length t.sorts) (omega arith)) in
        let b : root_of t s v ≡ None = rw (z, root_of) in
        let o : ◌≡◌ {A = ℕ} 0 1 = cc in
        absurd (omega arith)
