-- The terms of rows by a solved flat table's packed rows are those of the table's own. Assumes nothing.
use mathlib.Core.Path.{◌≡◌, refl, ap, sym, ◌∙◌, subst}
use mathlib.Core.List.{List, [], ◌∷◌, ◌++◌, map}
use Prim.Native.Nat.{ℕ, suc, ◌<◌}
use native.Mathlib.Omega.{arith}
use borrow.Author.Tests.{ltb-true, ltb-false}
use lib.Dec.{ltb}
use lib.IntN.{ℤ}
use lib.ListN.{length, get_or}
use Rattle.order.proofs.OrderLaws.{cases}
use Rattle.price_passes.specs.Flat.{part_of}
use Rattle.name.specs.Entries.{name_at}
use Rattle.table_layout.specs.Rows.{children_at}
use Rattle.table_layout.specs.Packed.{Packed}
use Rattle.price.specs.Solved.{Solved}
use Rattle.build.specs.Plan.{Child, Plan, plan_of, child_of, children_of}
use Rattle.build.specs.Building.{State, Out, done, full, children_in, build_in}
use Rattle.build.specs.Ready.{Lower, AllLower}
use Rattle.build.proofs.PlanLaws.{child_of-class, child_of-value}
use Rattle.file_rules.specs.Table.{Table}
use Rattle.table_rules.specs.Rules.Classes.{class_count}
use Rattle.table_rules.specs.Rules.Rows.{table_rows}
use Rattle.table_rules.specs.Rules.Choosing.{prices_for}
use Rattle.table_rules.specs.Rules.Terms.{name_of}
use Rattle.variant_order.specs.Arrays.{AllBelow}
use Rattle.choice_rules.specs.Rows.{row_at}
use Rattle.answer_rules.specs.Plan.{plan_child, plan_children, plan_for}
use Rattle.answer_rules.specs.Variants.{file_row, own_variant, variant_in, variants_in}
use Rattle.answer_rules.proofs.AgreeLaws.{children_in-agrees, build_in-agrees}
use Rattle.answer_rules.proofs.PlanLaws.{build_rank}
use Rattle.best_class.specs.Flat.{FlatTable}
use Rattle.best_class.proofs.ChildLaws.{number-children}
use Rattle.best_class.proofs.SolvedLaws.{part-children, part_in, agree}
use Rattle.variant_terms.specs.Rows.{Deep, KidIn}
use Rattle.variant_terms.specs.Turned.{name_in, rows_in, Listed, AllListed}
use Rattle.variants_root.specs.Flat.{VariantTable}
use Rattle.variants_root.proofs.kept_rows.RowLaws.{rows-many, file_row-read, name-is}

-- children that can be built are below every depth that is enough
module _ (rank : ℕ → ℕ) (ranks : List ℕ) (values : List ℤ) (d : ℕ) (deep : Deep ranks d) where
  kid_lower : (x : ℕ) → KidIn rank ranks values x → Lower rank d (child_of values x)
  kid_lower x k =
      cases (ltb x 512)
      (λ e.
      let l : x < 512 = ltb-true x 512 e in
      subst (Lower rank d) (sym (child_of-class values x l)) (k.ranked l, omega (arith, k.enough l, deep x)))
      (λ e. subst (Lower rank d) (sym (child_of-value values x (ltb-false x 512 e))) tt)

  kids-lower :
      (xs : List ℕ) →
      ((j : ℕ) → j < length xs → KidIn rank ranks values (get_or xs j 0)) →
      AllLower rank d (map (child_of values) xs)
  kids-lower [] k = tt
  kids-lower (x ∷ xs) k = (kid_lower x (k 0 (omega arith)), kids-lower xs (λ j h. k (suc j) (omega arith)))

module _
    (t : Table) (root : ℕ) (outputs heads starts children order functions labels : List ℕ) (values : List ℤ)
    (cells : List ℕ)
    (v : VariantTable t root outputs heads starts children order functions labels values cells)
    (costs ranks edges : List ℕ) (passes last : ℕ) (long : length ranks ≡ class_count t)
    (w : Solved (class_count t) passes last outputs heads starts children costs ranks edges)
    (packed : List ℕ) (pk : Packed order functions outputs starts children packed (length outputs))
    (d : ℕ) (deep : Deep ranks d) where
  abbrev f : FlatTable t root outputs heads starts children order functions labels values
  f = v.is

  abbrev p : Plan
  p = plan_of packed edges labels values

  name-agrees : (i : ℕ) → i < length outputs → name_in labels packed i ≡ name_of t (file_row (prices_for t root) i)
  name-agrees i h =
      ap (name_at labels) (pk.each i h).function
      ∙ name-is t root outputs heads starts children order functions labels values cells v i h

  kids-are : (i : ℕ) → i < length outputs → plan_children t (file_row (prices_for t root) i) ≡ children_of packed values i
  unfolding plan_children
  kids-are i h =
      let m : i < length order =
      omega (arith, h, rows-many t root outputs heads starts children order functions labels values cells v) in
      sym
      (ap (map (child_of values)) (pk.each i h).children_are
      ∙ number-children t values f.value (part_of starts children i)
      (part_in t root outputs heads starts children order functions labels values f i m)
      ∙ ap (map (plan_child t))
      (part-children t root outputs heads starts children order functions labels values f i m)
      ∙ ap (λ (r : ℕ). map (plan_child t) (row_at (table_rows t) r).children)
      (file_row-read t root outputs heads starts children order functions labels values cells v i))

  variant_is :
      (i : ℕ) →
      i < length outputs →
      Listed (build_rank (prices_for t root)) packed ranks labels values i →
      (s : State) →
      variant_in t (prices_for t root) d s i
      ≡ own_variant (name_in labels packed i) (children_in (build_in p d) s [] (children_of packed values i))
  unfolding variant_in
  variant_is i h l s =
      let n = name-agrees i h in
      let k = kids-are i h in
      let c =
      children_in-agrees (build_rank (prices_for t root)) (build_in (plan_for t (prices_for t root)) d) (build_in p d)
      (build_in-agrees (plan_for t (prices_for t root)) p (build_rank (prices_for t root))
      (agree t root outputs heads starts children order functions labels values f costs ranks edges passes last long w
      packed pk) d) d s [] (children_of packed values i)
      (kids-lower (build_rank (prices_for t root)) ranks values d deep (children_at packed i) l.is.each) in
      ap (λ (x : List ℕ). own_variant x (children_in (build_in (plan_for t (prices_for t root)) d) s [] (plan_children t (file_row (prices_for t root)
      i)))) (sym n)
      ∙ ap
      (λ (xs : List Child). own_variant (name_in labels packed i) (children_in (build_in (plan_for t (prices_for t root)) d) s []
      xs)) k
      ∙ ap (own_variant (name_in labels packed i)) c

  pub variants-are :
      (rows : List ℕ) →
      AllBelow (length outputs) rows →
      AllListed (build_rank (prices_for t root)) packed ranks labels values rows →
      (s : State) (ts : List ℕ) →
      variants_in t (prices_for t root) d s ts rows
      ≡ rows_in p d (name_in labels packed) (children_of packed values) s ts rows
  unfolding variants_in rows_in
  variants-are [] b l s ts = refl
  variants-are (i ∷ rows) b l s ts =
      rw (variant_is i (b 0 (omega arith)) (l 0 (omega arith)) s, variants_in)
      (go
      (own_variant (name_in labels packed i) (children_in (build_in p d) s [] (children_of packed values i)))
      (λ u s'. variants-are rows (λ j h. b (suc j) (omega arith)) (λ j h. l (suc j) (omega arith)) s' (ts ++ (u ∷ []))))
    where
      go :
          (o : Out ℕ) →
          ((u : ℕ) (s' : State) →
          variants_in t (prices_for t root) d s' (ts ++ (u ∷ [])) rows
          ≡ rows_in p d (name_in labels packed) (children_of packed values) s' (ts ++ (u ∷ [])) rows) →
          ◌≡◌ {A = Out (List ℕ)}
          (elim o [
            | done u s' ↦ variants_in t (prices_for t root) d s' (ts ++ (u ∷ [])) rows
            | full me rs ls ns ↦ full me rs ls ns
          ])
          (elim o [
            | done u s' ↦ rows_in p d (name_in labels packed) (children_of packed values) s' (ts ++ (u ∷
                [])) rows
            | full me rs ls ns ↦ full me rs ls ns
          ])
      go (done u s') rest = rest u s'
      go (full me rs ls ns) rest = refl
