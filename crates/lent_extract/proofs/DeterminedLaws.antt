-- What is seen the same is the same: refusals have different numbers. Assumes nothing.
use mathlib.Core.Path.{◌≡◌, refl, ap, sym, ◌∙◌}
use mathlib.Core.List.{List}
use Prim.Native.Nat.{ℕ}
use lib.IntN.{ℤ}
use Rattle.refusal.proofs.NumberLaws.{number-once}
use Rattle.answer_rules.specs.Answers.{After}
use Rattle.answer_rules.specs.Best.{BestTerm}
use Rattle.extract.proofs.VariantFacts.OutcomeLaws.{not-refused, same_number, same-value}
use Rattle.std.specs.Prelude.{Result, Ok, Err}
use Rattle.refusal.specs.declared.Refusal.{Refusal}
use Rattle.lent_extract.specs.declared.counted.Chosen.{Chosen}
use Rattle.lent_extract.specs.Counted.{seen_chosen}

found-same :
    {w w' i i' p p' n n' m m' : ℕ} →
    w ≡ w' → i ≡ i' → p ≡ p' → n ≡ n' → m ≡ m' →
    ◌≡◌ {A = Result Chosen Refusal}
    (Ok (record { cost = w; term = i; passes = p; terms = n; symbols = m }))
    (Ok (record { cost = w'; term = i'; passes = p'; terms = n'; symbols = m' }))
found-same a b c d e = rw (a, b, c, d, e)

module _ (rs rs' : List ℕ) (ls ls' : List ℤ) (ns ns' : List ℕ) (n m : ℕ) where
  abbrev Seen : Result Chosen Refusal → Result Chosen Refusal → Type 0
  Seen r q = seen_chosen r rs ls ns n m ≡ seen_chosen q rs' ls' ns' n m

  answer-once : (r q : Result Chosen Refusal) → Seen r q → r ≡ q
  answer-once (Ok b) (Ok b') e =
      let q = same-value (ap (λ (x : After BestTerm). x.answer) e) in
      found-same (ap (λ (x : BestTerm). x.cost) q) (ap (λ (x : BestTerm). x.term) q)
      (ap (λ (x : BestTerm). x.passes) q) (ap (λ (x : After BestTerm). x.store.terms) e)
      (ap (λ (x : After BestTerm). x.store.symbols) e)
  answer-once (Ok b) (Err y) e = not-refused (ap (λ (x : After BestTerm). x.answer) e)
  answer-once (Err x) (Ok b) e = not-refused (sym (ap (λ (x : After BestTerm). x.answer) e))
  answer-once (Err x) (Err y) e =
      ap Err (number-once x y (same_number (ap (λ (x : After BestTerm). x.answer) e)))

-- The lists that are seen.
module _ (rs : List ℕ) (ls : List ℤ) (ns : List ℕ) (n m : ℕ) where
  records-seen : (r : Result Chosen Refusal) → (seen_chosen r rs ls ns n m).store.records ≡ rs
  records-seen (Ok b) = refl
  records-seen (Err x) = refl

  literals-seen : (r : Result Chosen Refusal) → (seen_chosen r rs ls ns n m).store.literals ≡ ls
  literals-seen (Ok b) = refl
  literals-seen (Err x) = refl

  names-seen : (r : Result Chosen Refusal) → (seen_chosen r rs ls ns n m).store.names ≡ ns
  names-seen (Ok b) = refl
  names-seen (Err x) = refl

pub best-once :
    (r q : Result Chosen Refusal) (rs rs' : List ℕ) (ls ls' : List ℤ) (ns ns' : List ℕ) (n m : ℕ) →
    seen_chosen r rs ls ns n m ≡ seen_chosen q rs' ls' ns' n m →
    (r ≡ q) × (rs ≡ rs') × (ls ≡ ls') × (ns ≡ ns')
best-once r q rs rs' ls ls' ns ns' n m e = (
  answer-once rs rs' ls ls' ns ns' n m r q e,
  sym (records-seen rs ls ns n m r)
      ∙ ap (λ (x : After BestTerm). x.store.records) e
      ∙ records-seen rs' ls' ns' n m q,
  sym (literals-seen rs ls ns n m r)
      ∙ ap (λ (x : After BestTerm). x.store.literals) e
      ∙ literals-seen rs' ls' ns' n m q,
  sym (names-seen rs ls ns n m r)
      ∙ ap (λ (x : After BestTerm). x.store.names) e
      ∙ names-seen rs' ls' ns' n m q,
)
