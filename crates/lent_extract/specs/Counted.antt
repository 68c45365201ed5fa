-- What best and variants tell with the store's counts. Assumes nothing: definitions.
use Rattle.std.specs.Prelude.{ℕ, List, ℤ, Result, Ok, Err}
use Rattle.refusal.specs.declared.Refusal.{Refusal}
use Rattle.refusal.specs.Numbers.{refusal_no}
use Rattle.term_rules.specs.Lent.{store}
use Rattle.answer_rules.specs.Answers.{After, found, refused, value, refusal}
use Rattle.answer_rules.specs.Best.{BestTerm, best_term}
use Rattle.answer_rules.specs.Variants.{VariantsAfter}
use Rattle.lent_extract.specs.declared.counted.Chosen.{Chosen}
use Rattle.lent_extract.specs.declared.counted.Varied.{Varied}

-- The code's answer as the definition's, with the flat lists as the call leaves them. A refusal leaves the counts n and
-- m, which were those before.
abbrev pub seen_chosen : Result Chosen Refusal → List ℕ → List ℤ → List ℕ → ℕ → ℕ → After BestTerm
seen_chosen (Ok b) rs ls ns n m = found (best_term b.cost b.term b.passes) (store rs ls ns b.terms b.symbols)
seen_chosen (Err r) rs ls ns n m = refused r (store rs ls ns n m)

-- The same of variants, with the two lists of results as they are then.
abbrev pub seen_varied :
    Result Varied Refusal → ℕ → ℕ → List ℕ → List ℤ → List ℕ → List ℕ → List ℕ → VariantsAfter
seen_varied (Ok k) n m rs ls ns ws ts = record {
  answer = value (record { count = k.count; passes = k.passes });
  store = store rs ls ns k.terms k.symbols;
  costs = ws;
  terms = ts;
}
seen_varied (Err r) n m rs ls ns ws ts = record {
  answer = refusal (refusal_no r);
  store = store rs ls ns n m;
  costs = ws;
  terms = ts;
}
