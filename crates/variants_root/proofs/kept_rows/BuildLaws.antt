-- The kept rows of a solved flat table can be built, if none is too dear, and at the definition's depth. Assumes
-- nothing.
use mathlib.Core.Path.{◌≡◌, ap, sym, ◌∙◌, subst}
use mathlib.Core.Bool.{true}
use mathlib.Core.List.{List, map}
use Prim.Native.Nat.{ℕ, ◌+◌, ◌-◌, ◌<◌, ◌≤◌, min}
use native.Mathlib.Omega.{arith}
use borrow.Author.Tests.{ltb-true}
use lib.IntN.{ℤ}
use lib.ListN.{length, get_or}
use Rattle.choice_rules.specs.Rows.{Child, literal, all_of, sum_of}
use Rattle.choice_rules.specs.Run.{priced, child_cost}
use Rattle.choice_rules.proofs.ListLaws.{all-each, each-of-sum, each-get}
use Rattle.choice_rules.proofs.Demand.OrderLaws.{map-length, map_get}
use Rattle.price_passes.specs.Flat.{top, part_of, child_of as flat_child}
use Rattle.price_passes.proofs.ChildLaws.{priced-of-class, cost-of-class, child-when-literal}
use Rattle.table_layout.specs.Packed.{PackedRow, Packed}
use Rattle.price.specs.Solved.{Solved, Priced}
use Rattle.build.specs.Ready.{Label}
use Rattle.file_rules.specs.Table.{Table}
use Rattle.table_rules.specs.Rules.Classes.{class_count}
use Rattle.table_rules.specs.Rules.Choosing.{prices_for}
use Rattle.answer_rules.specs.Variants.{depth_for}
use Rattle.answer_rules.proofs.PlanLaws.{build_rank, order-within}
use Rattle.best_class.specs.Flat.{FlatTable}
use Rattle.best_class.proofs.ChildLaws.{InTable}
use Rattle.best_class.proofs.SolvedLaws.{
  order_below,
  part_in,
  past-rank,
  row_label,
  rank_is,
  rank-of-priced,
}
use Rattle.variant_terms.specs.Rows.{Deep, KidIn}
use Rattle.variant_terms.specs.Turned.{Listed}
use Rattle.variant_rows.specs.Candidates.{price_of}
use Rattle.variants_root.specs.Flat.{VariantTable}
use Rattle.variants_root.proofs.kept_rows.RowLaws.{rows-many, few-kids}

-- a sum that does not saturate has parts that do not
pub below-min : (M h s : ℕ) → min M (h + s) < M → s < M
below-min M h s l = omega arith

module _
    (t : Table) (root : ℕ) (outputs heads starts children order functions labels : List ℕ) (values : List ℤ)
    (cells : List ℕ)
    (v : VariantTable t root outputs heads starts children order functions labels values cells)
    (costs ranks edges : List ℕ) (passes last : ℕ) (long : length ranks ≡ class_count t)
    (w : Solved (class_count t) passes last outputs heads starts children costs ranks edges)
  where
    abbrev f : FlatTable t root outputs heads starts children order functions labels values
    f = v.is

    many : length order ≡ length outputs
    many = rows-many t root outputs heads starts children order functions labels values cells v

    -- the definition's depth is enough
    pub deep : Deep ranks (depth_for (prices_for t root))
    deep c =
        omega (
          arith,
          rank_is t root outputs heads starts children order functions labels values f costs ranks edges passes last
              long w c,
          order-within (prices_for t root) c,
        )

    module _
        (i : ℕ) (h : i < length outputs) (p : all_of (priced ranks) (map flat_child (part_of starts children i)) ≡ true)
        (cheap : price_of costs heads starts children i < top) where
      abbrev ks : List ℕ
      ks = part_of starts children i

      spent : sum_of (child_cost costs) (map flat_child ks) < top
      spent = below-min top (get_or heads i 0) (sum_of (child_cost costs) (map flat_child ks)) cheap

      module _ (j : ℕ) (l : j < length ks) where
        place : j < length (map flat_child ks)
        place = omega (arith, l, map-length flat_child ks)

        child : get_or (map flat_child ks) j (literal 0) ≡ flat_child (get_or ks j 0)
        child = map_get flat_child ks j 0 (literal 0) l

        has-price : priced ranks (flat_child (get_or ks j 0)) ≡ true
        has-price =
            subst (λ (x : Child). priced ranks x ≡ true) child
            (each-get (λ (x : Child). priced ranks x ≡ true) (map flat_child ks) (literal 0) (all-each (priced ranks)
            (map flat_child ks) p) j place)

        is-cheap : child_cost costs (flat_child (get_or ks j 0)) < top
        is-cheap =
            subst (λ (x : Child). child_cost costs x < top) child
            (each-get (λ (x : Child). child_cost costs x < top) (map flat_child ks) (literal 0)
            (each-of-sum (child_cost costs) top (map flat_child ks) spent) j place)

        kid-priced : get_or ks j 0 < 512 → Priced costs ranks (get_or ks j 0)
        kid-priced m =
            let x : ℕ = get_or ks j 0 in
            record {
              ranked = ltb-true 0 (get_or ranks x 0) (priced-of-class x ranks m ∙ has-price);
              below = subst (λ (n : ℕ). n < top) (sym (cost-of-class x costs m)) is-cheap;
            }

        kid-rank : get_or ks j 0 < 512 → build_rank (prices_for t root) (get_or ks j 0) ≡ get_or ranks (get_or ks j 0) 0
        kid-rank m =
            rank-of-priced t root outputs heads starts children order functions labels values f costs ranks edges
            passes last long w (get_or ks j 0) (kid-priced m)

        kid-known : 512 ≤ get_or ks j 0 → get_or ks j 0 - 512 < length values
        kid-known m =
            let x : ℕ = get_or ks j 0 in
            let q =
            subst (InTable t) (child-when-literal x m)
            (part_in t root outputs heads starts children order functions labels values f i (omega (arith, h, many)) j
            l) in
            omega (arith, q, f.values_length)

        kid : KidIn (build_rank (prices_for t root)) ranks values (get_or ks j 0)
        kid = record {
          ranked = λ m. omega (arith, kid-rank m, (kid-priced m).ranked);
          place = λ m. past-rank ranks (get_or ks j 0) (kid-priced m).ranked;
          enough = λ m. omega (arith, kid-rank m);
          known = kid-known;
        }

      module _ (packed : List ℕ) (pk : Packed order functions outputs starts children packed (length outputs)) where
        row : PackedRow order functions outputs starts children packed i
        row = pk.each i h

        pub listed : Listed (build_rank (prices_for t root)) packed ranks labels values i
        listed = record {
          whole = omega (arith, h, pk.long);
          few = row.few;
          is = record {
            name =
                subst (Label labels) (sym row.function)
                (row_label t root outputs heads starts children order functions labels values f (get_or order i 0)
                (order_below t root outputs heads starts children order functions labels values f i (omega (
                  arith,
                  h,
                  many,
                ))));
            few =
                omega (
                  arith,
                  ap length row.children_are,
                  few-kids t root outputs heads starts children order functions labels values cells v i h,
                );
            each =
                subst
                (λ (xs : List ℕ).
                (j : ℕ) → j < length xs → KidIn (build_rank (prices_for t root)) ranks values (get_or xs j 0))
                (sym row.children_are) kid;
          };
        }
