-- Of variants, what is seen the same is the same. Assumes nothing.
use mathlib.Core.Path.{◌≡◌, refl, ap, sym, ◌∙◌}
use mathlib.Core.List.{List}
use Prim.Native.Nat.{ℕ}
use Rattle.term_rules.specs.Lent.{Store}
use Rattle.answer_rules.specs.Variants.{Kept as KeptRows, VariantsAfter}
use Rattle.std.specs.Prelude.{Result, Ok, Err}
use Rattle.refusal.specs.declared.Refusal.{Refusal}
use Rattle.variants_root.specs.Several.{Kept, seen_variants}
use Rattle.extract.proofs.VariantFacts.OutcomeLaws.{not-refused, same_number, same-value}
use Rattle.refusal.proofs.NumberLaws.{number-once}

kept_same :
    {k k' p p' : ℕ} →
    k ≡ k' → p ≡ p' →
    ◌≡◌ {A = Result Kept Refusal} (Ok (record { count = k; passes = p })) (Ok (record { count = k'; passes = p' }))
kept_same a b = rw (a, b)

module _ (s s' : Store) (ws ws' us us' : List ℕ) where
  answer-once : (r q : Result Kept Refusal) → seen_variants r s ws us ≡ seen_variants q s' ws' us' → r ≡ q
  answer-once (Ok b) (Ok b') e =
      let q = same-value (ap (λ (x : VariantsAfter). x.answer) e) in
      kept_same (ap (λ (x : KeptRows). x.count) q) (ap (λ (x : KeptRows). x.passes) q)
  answer-once (Ok b) (Err y) e = not-refused (ap (λ (x : VariantsAfter). x.answer) e)
  answer-once (Err x) (Ok b) e = not-refused (sym (ap (λ (x : VariantsAfter). x.answer) e))
  answer-once (Err x) (Err y) e =
      ap Err (number-once x y (same_number (ap (λ (x : VariantsAfter). x.answer) e)))

-- The store and the lists that are seen.
module _ (s : Store) (ws us : List ℕ) where
  store-seen : (r : Result Kept Refusal) → (seen_variants r s ws us).store ≡ s
  store-seen (Ok b) = refl
  store-seen (Err x) = refl

  pub costs-seen : (r : Result Kept Refusal) → (seen_variants r s ws us).costs ≡ ws
  costs-seen (Ok b) = refl
  costs-seen (Err x) = refl

  pub terms-seen : (r : Result Kept Refusal) → (seen_variants r s ws us).terms ≡ us
  terms-seen (Ok b) = refl
  terms-seen (Err x) = refl

pub variants-once :
    (r q : Result Kept Refusal) (s s' : Store) (ws ws' us us' : List ℕ) →
    seen_variants r s ws us ≡ seen_variants q s' ws' us' →
    (r ≡ q) × (s ≡ s') × (ws ≡ ws') × (us ≡ us')
variants-once r q s s' ws ws' us us' e = (
  answer-once s s' ws ws' us us' r q e,
  sym (store-seen s ws us r) ∙ ap (λ (x : VariantsAfter). x.store) e ∙ store-seen s' ws' us' q,
  sym (costs-seen s ws us r) ∙ ap (λ (x : VariantsAfter). x.costs) e ∙ costs-seen s' ws' us' q,
  sym (terms-seen s ws us r) ∙ ap (λ (x : VariantsAfter). x.terms) e ∙ terms-seen s' ws' us' q,
)
