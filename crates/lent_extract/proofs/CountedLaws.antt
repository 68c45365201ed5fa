-- A refusal leaves the counts of the store as they were. Assumes nothing.
use Prim.Native.Nat.{ℕ}
use mathlib.Core.Path.{◌≡◌, refl, sym, ap, ◌∙◌}
use mathlib.Core.List.{List}
use Rattle.std.specs.Prelude.{Result, Ok, Err}
use Rattle.refusal.specs.declared.Refusal.{Refusal}
use Rattle.refusal.specs.Numbers.{refusal_no}
use Rattle.term_rules.specs.Lent.{Store, store}
use Rattle.answer_rules.specs.Answers.{After, refused, refusal}
use Rattle.answer_rules.specs.Best.{BestTerm, best_at}
use Rattle.answer_rules.specs.Variants.{VariantsAfter, Lending, variants_at}
use Rattle.variant_answers.specs.Kept.{lending}
use Rattle.extract.proofs.Promises.{promises}
use Rattle.lent_extract.specs.declared.counted.Chosen.{Chosen}
use Rattle.lent_extract.specs.declared.counted.Varied.{Varied}
use Rattle.lent_extract.specs.Counted.{seen_chosen, seen_varied}

pub best-refused :
    (file : List ℕ) (root v : ℕ) (s t : Store) (r : Result Chosen Refusal) (x : Refusal) → r ≡ Err x →
    refused x t ≡ best_at file root v s →
    seen_chosen r t.records t.literals t.names s.terms s.symbols ≡ best_at file root v s
best-refused file root v s t r x e h =
    let a = sym (ap (λ (y : After BestTerm). y.answer) h) in
    let d : t ≡ s = ap (λ (y : After BestTerm). y.store) h ∙ promises.unchanged file root v s (refusal_no x) a in
    rw e (ap (λ (u : Store). refused x (store t.records t.literals t.names u.terms u.symbols)) (sym d) ∙ h)

pub variants-refused :
    (file : List ℕ) (root v n : ℕ) (l : Lending) (t : Store) (ws us : List ℕ) (r : Result Varied Refusal) (x : Refusal) →
    r ≡ Err x →
    (record { answer = refusal (refusal_no x); store = t; costs = ws; terms = us }) ≡ variants_at file root v n l →
    seen_varied r l.store.terms l.store.symbols t.records t.literals t.names ws us ≡ variants_at file root v n l
variants-refused file root v n l t ws us r x e h =
    let a = sym (ap (λ (y : VariantsAfter). y.answer) h) in
    let k = promises.variants_unchanged file root v n l (refusal_no x) a in
    let d : t ≡ l.store = ap (λ (y : VariantsAfter). y.store) h ∙ k.store_is in
    rw e
    (ap (λ (u : Store). record {
      answer = refusal (refusal_no x);
      store = store t.records t.literals t.names u.terms u.symbols;
      costs = ws;
      terms = us;
    }) (sym d) ∙ h)
