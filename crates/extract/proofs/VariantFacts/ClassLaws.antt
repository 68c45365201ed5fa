-- What variants answer of a class that the root sort reaches. Assumes nothing.
use mathlib.Core.Path.{◌≡◌, refl, ap, sym, subst, ◌∙◌}
use mathlib.Core.Bool.{true}
use mathlib.Core.List.{List, [], ◌∷◌, map}
use mathlib.Core.Logic.{inl, inr}
use Prim.Native.Nat.{ℕ, ◌<◌}
use native.Mathlib.Omega.{arith}
use lib.ListN.{length, get_or}
use lib.Seq.{paste, paste-zero}
use Rattle.term_rules.specs.WellFormed.{well_formed}
use Rattle.choice_rules.specs.Deriving.{Tree, node}
use Rattle.choice_rules.specs.Demand.Deriving.{Deriving}
use Rattle.choice_rules.proofs.Demand.OrderLaws.{map-length, map_get}
use Rattle.file_rules.specs.Table.{Table}
use Rattle.table_rules.specs.Rules.Rows.{table_rows, usable}
use Rattle.table_rules.specs.Rules.Choosing.{limit, Prices}
use Rattle.table_rules.specs.Rules.Prices.{TruePrices}
use Rattle.table_rules.specs.Rules.Facts.{Known}
use Rattle.answer_rules.specs.Answers.{value}
use Rattle.answer_rules.specs.Room.{Fits}
use Rattle.answer_rules.specs.Variants.{
  file_row,
  cost_for,
  kept_rows,
  variants_in,
  Kept,
  VariantsAfter,
  Lending,
  variants_kept,
}
use Rattle.extract.specs.Told.{NoPlaces, EmptyList}
use Rattle.extract.specs.First.{RowCost, kept_file_rows, kept_costs, Variant, ComeBack}
use Rattle.extract.proofs.VariantFacts.OutcomeLaws.{
  no-places,
  cheap-when,
  dear-then,
  Outcome,
  dear,
  no_places,
  stuck,
  kept,
  KeptRows,
  rows-kept,
}
use Rattle.extract.proofs.VariantFacts.CallLaws.{told-cost, told-term, rows-returned}
use Rattle.extract.proofs.VariantFacts.RoomLaws.{rows_fit}
use Rattle.extract.proofs.VariantFacts.FirstLaws.{kept-place, kept_variant, first_rows}
use Rattle.extract.proofs.VariantFacts.VariantLaws.{variant_is}

-- Where no row is kept nothing changes.
none_told : (t : Table) (ps : Prices) (np : ℕ) (l : Lending) (a : VariantsAfter) → Outcome t ps np l [] a → EmptyList l a
unfolding variants_in variants_kept
none_told t ps np l a (dear d e) = absurd (omega (arith, (dear-then t ps [] d).1.0))
none_told t ps np l a (no_places d p e) = absurd (go (no-places l 0 p))
  where
    go : NoPlaces l 0 → ⊥
    go (inl q) = omega arith
    go (inr q) = omega arith
none_told t ps np l a (stuck d p me rs ls ns b e) =
    let z : ◌≡◌ {A = ℕ} 0 1 = cc in
    absurd (omega arith)
none_told t ps np l a (kept d p ts s b e) =
    let q : ts ≡ [] = cc in
    let x : s.lent ≡ l.store = cc in
    record {
      passes = np;
      told = ap (λ (y : VariantsAfter). y.answer) e;
      unchanged = record {
        store_is = ap (λ (y : VariantsAfter). y.store) e ∙ x;
        costs_are = ap (λ (y : VariantsAfter). y.costs) e ∙ sym (paste-zero l.costs 0 []);
        terms_are =
            ap (λ (y : VariantsAfter). y.terms) e
            ∙ ap (λ (us : List ℕ). paste l.terms 0 us (length us)) q
            ∙ sym (paste-zero l.terms 0 []);
      };
    }

module _ (t : Table) (known : Known t) (In : ℕ → Type 0) (ps : Prices) (tp : TruePrices t In ps) (c : ℕ)
    (r : In c) (n np : ℕ) (l : Lending) (f : well_formed l.store ≡ true) (a : VariantsAfter)
    (o : Outcome t ps np l (kept_rows t ps c n) a) where
  module _ (k : Kept) (e : a.answer ≡ value k) where
    kept-rows : KeptRows t ps np l (kept_rows t ps c n) a k
    kept-rows = rows-kept t ps np l (kept_rows t ps c n) a o k e

    inside : (j : ℕ) → j < k.count → j < length (kept_rows t ps c n)
    inside j b = omega (arith, b, kept-rows.count_is)

    paid : (j : ℕ) → j < k.count → get_or a.costs j 0 ≡ cost_for t ps (get_or (kept_rows t ps c n) j 0)
    paid j b = told-cost t known In ps tp c n np l f a k kept-rows j b

    cheap : (j : ℕ) → j < k.count → cost_for t ps (get_or (kept_rows t ps c n) j 0) < limit
    cheap j b =
        subst (λ (x : ℕ). x < limit) (map_get (cost_for t ps) (kept_rows t ps c n) j 0 0 (inside j b))
        (cheap-when t ps (kept_rows t ps c n) kept-rows.not-dear-any j
        (omega (arith, inside j b, map-length (cost_for t ps) (kept_rows t ps c n))))

    variant : (j : ℕ) (b : j < k.count) →
        Variant t ps c (file_row ps (get_or (kept_rows t ps c n) j 0)) (cost_for t ps (get_or (kept_rows t ps c n) j 0))
        a.store (get_or a.terms j 0)
    variant j b =
        variant_is t known In ps tp c r (get_or (kept_rows t ps c n) j 0) (kept-place t known In ps tp c r n j (inside j b))
        (kept_variant t known In ps tp c r n j (inside j b)) (cheap j b) a.store (get_or a.terms j 0)
        (told-term t known In ps tp c n np l f a k kept-rows j b)

    fits : Fits l.store a.store
    unfolding variants_kept
    fits =
        subst (Fits l.store) (sym (ap (λ (y : VariantsAfter). y.store) kept-rows.is))
        (rows_fit t known In ps tp c n l.store f kept-rows.not-dear-any kept-rows.numbers kept-rows.state
        kept-rows.built)

    pub class-comes-back : ComeBack t ps c (kept_file_rows t ps c n) (kept_costs t ps c n) l a k
    class-comes-back = record {
      count_is = kept-rows.count_is ∙ sym (map-length (file_row ps) (kept_rows t ps c n));
      costs_are = λ j b.
          paid j b ∙ sym (map_get (cost_for t ps) (kept_rows t ps c n) j 0 0 (inside j b));
      below = λ j b. subst (λ (x : ℕ). x < limit) (sym (paid j b)) (cheap j b);
      variants = λ j b.
          rw (map_get (file_row ps) (kept_rows t ps c n) j 0 0 (inside j b), paid j b) (variant j b);
      fits = fits;
      grows = (rows-returned t known In ps tp c n np l f a k kept-rows).grows;
    }

    pub class-passes : k.passes ≡ np
    class-passes = kept-rows.passes-are

  -- "None is an empty list."
  module _ (no : (u : Tree) → Deriving (table_rows t) (usable t) c u → ⊥) where
    no_rows : kept_rows t ps c n ≡ []
    no_rows = go (kept_rows t ps c n) (first_rows t known In ps tp c r n).each
      where
        go :
            (rows : List ℕ) →
            ((j : ℕ) →
            j < length (map (file_row ps) rows) →
            RowCost t c (get_or (map (file_row ps) rows) j 0) (get_or (map (cost_for t ps) rows) j 0)) →
            rows ≡ []
        go [] each = refl
        go (i ∷ rows) each =
            let q = each 0 (omega arith) in
            absurd (no (node (file_row ps i) q.children) q.is_deriving)

    pub class-none : EmptyList l a
    class-none = none_told t ps np l a (subst (λ (rows : List ℕ). Outcome t ps np l rows a) no_rows o)
