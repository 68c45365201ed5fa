-- Of variants, what is seen the same is the same. Assumes nothing.
use mathlib.Core.Path.{◌≡◌, refl, ap, sym, ◌∙◌}
use mathlib.Core.List.{List}
use Prim.Native.Nat.{ℕ}
use lib.IntN.{ℤ}
use Rattle.answer_rules.specs.Variants.{Kept as KeptRows, VariantsAfter}
use Rattle.std.specs.Prelude.{Result, Ok, Err}
use Rattle.refusal.specs.declared.Refusal.{Refusal}
use Rattle.lent_extract.specs.declared.counted.Varied.{Varied}
use Rattle.lent_extract.specs.Counted.{seen_varied}
use Rattle.extract.proofs.VariantFacts.OutcomeLaws.{not-refused, same_number, same-value}
use Rattle.refusal.proofs.NumberLaws.{number-once}

kept_same :
    {k k' p p' n n' m m' : ℕ} →
    k ≡ k' → p ≡ p' → n ≡ n' → m ≡ m' →
    ◌≡◌ {A = Result Varied Refusal}
    (Ok (record { count = k; passes = p; terms = n; symbols = m }))
    (Ok (record { count = k'; passes = p'; terms = n'; symbols = m' }))
kept_same a b c d = rw (a, b, c, d)

module _ (n m : ℕ) (rs rs' : List ℕ) (ls ls' : List ℤ) (ns ns' ws ws' us us' : List ℕ) where
  abbrev Seen : Result Varied Refusal → Result Varied Refusal → Type 0
  Seen r q = seen_varied r n m rs ls ns ws us ≡ seen_varied q n m rs' ls' ns' ws' us'

  answer-once : (r q : Result Varied Refusal) → Seen r q → r ≡ q
  answer-once (Ok b) (Ok b') e =
      let q = same-value (ap (λ (x : VariantsAfter). x.answer) e) in
      kept_same (ap (λ (x : KeptRows). x.count) q) (ap (λ (x : KeptRows). x.passes) q)
      (ap (λ (x : VariantsAfter). x.store.terms) e) (ap (λ (x : VariantsAfter). x.store.symbols) e)
  answer-once (Ok b) (Err y) e = not-refused (ap (λ (x : VariantsAfter). x.answer) e)
  answer-once (Err x) (Ok b) e = not-refused (sym (ap (λ (x : VariantsAfter). x.answer) e))
  answer-once (Err x) (Err y) e =
      ap Err (number-once x y (same_number (ap (λ (x : VariantsAfter). x.answer) e)))

-- The lists that are seen.
module _ (n m : ℕ) (rs : List ℕ) (ls : List ℤ) (ns ws us : List ℕ) where
  abbrev seen : Result Varied Refusal → VariantsAfter
  seen r = seen_varied r n m rs ls ns ws us

  records-seen : (r : Result Varied Refusal) → (seen r).store.records ≡ rs
  records-seen (Ok b) = refl
  records-seen (Err x) = refl

  literals-seen : (r : Result Varied Refusal) → (seen r).store.literals ≡ ls
  literals-seen (Ok b) = refl
  literals-seen (Err x) = refl

  names-seen : (r : Result Varied Refusal) → (seen r).store.names ≡ ns
  names-seen (Ok b) = refl
  names-seen (Err x) = refl

  pub costs-seen : (r : Result Varied Refusal) → (seen r).costs ≡ ws
  costs-seen (Ok b) = refl
  costs-seen (Err x) = refl

  pub terms-seen : (r : Result Varied Refusal) → (seen r).terms ≡ us
  terms-seen (Ok b) = refl
  terms-seen (Err x) = refl

pub variants-once :
    (r q : Result Varied Refusal) (n m : ℕ) (rs rs' : List ℕ) (ls ls' : List ℤ) (ns ns' ws ws' us us' : List ℕ) →
    seen_varied r n m rs ls ns ws us ≡ seen_varied q n m rs' ls' ns' ws' us' →
    (r ≡ q) × (rs ≡ rs') × (ls ≡ ls') × (ns ≡ ns') × (ws ≡ ws') × (us ≡ us')
variants-once r q n m rs rs' ls ls' ns ns' ws ws' us us' e = (
  answer-once n m rs rs' ls ls' ns ns' ws ws' us us' r q e,
  sym (records-seen n m rs ls ns ws us r)
      ∙ ap (λ (x : VariantsAfter). x.store.records) e
      ∙ records-seen n m rs' ls' ns' ws' us' q,
  sym (literals-seen n m rs ls ns ws us r)
      ∙ ap (λ (x : VariantsAfter). x.store.literals) e
      ∙ literals-seen n m rs' ls' ns' ws' us' q,
  sym (names-seen n m rs ls ns ws us r)
      ∙ ap (λ (x : VariantsAfter). x.store.names) e
      ∙ names-seen n m rs' ls' ns' ws' us' q,
  sym (costs-seen n m rs ls ns ws us r)
      ∙ ap (λ (x : VariantsAfter). x.costs) e
      ∙ costs-seen n m rs' ls' ns' ws' us' q,
  sym (terms-seen n m rs ls ns ws us r)
      ∙ ap (λ (x : VariantsAfter). x.terms) e
      ∙ terms-seen n m rs' ls' ns' ws' us' q,
)
