-- What is seen the same is the same: refusals have different numbers. Assumes nothing.
use mathlib.Core.Path.{◌≡◌, refl, ap, sym, ◌∙◌}
use Prim.Native.Nat.{ℕ}
use Rattle.term_rules.specs.Lent.{Store}
use Rattle.refusal.proofs.NumberLaws.{number-once}
use Rattle.answer_rules.specs.Answers.{After}
use Rattle.answer_rules.specs.Best.{BestTerm}
use Rattle.extract.proofs.VariantFacts.OutcomeLaws.{not-refused, same_number, same-value}
use Rattle.std.specs.Prelude.{Result, Ok, Err}
use Rattle.refusal.specs.declared.Refusal.{Refusal}
use Rattle.best_root.specs.Single.{Best, seen_best}

found-same :
    {w w' i i' p p' : ℕ} →
    w ≡ w' → i ≡ i' → p ≡ p' →
    ◌≡◌ {A = Result Best Refusal}
    (Ok (record { cost = w; term = i; passes = p }))
    (Ok (record { cost = w'; term = i'; passes = p' }))
found-same a b c = rw (a, b, c)

answer-once : (r q : Result Best Refusal) (s s' : Store) → seen_best r s ≡ seen_best q s' → r ≡ q
answer-once (Ok b) (Ok b') s s' e =
    let q = same-value (ap (λ (x : After BestTerm). x.answer) e) in
    found-same (ap (λ (x : BestTerm). x.cost) q) (ap (λ (x : BestTerm). x.term) q) (ap (λ (x : BestTerm). x.passes) q)
answer-once (Ok b) (Err y) s s' e = not-refused (ap (λ (x : After BestTerm). x.answer) e)
answer-once (Err x) (Ok b) s s' e = not-refused (sym (ap (λ (x : After BestTerm). x.answer) e))
answer-once (Err x) (Err y) s s' e =
    ap Err (number-once x y (same_number (ap (λ (x : After BestTerm). x.answer) e)))

-- The store that is seen.
store-seen : (r : Result Best Refusal) (s : Store) → (seen_best r s).store ≡ s
store-seen (Ok b) s = refl
store-seen (Err x) s = refl

pub best-once : (r q : Result Best Refusal) (s s' : Store) → seen_best r s ≡ seen_best q s' → (r ≡ q) × (s ≡ s')
best-once r q s s' e = (
  answer-once r q s s' e,
  sym (store-seen r s) ∙ ap (λ (x : After BestTerm). x.store) e ∙ store-seen q s',
)
