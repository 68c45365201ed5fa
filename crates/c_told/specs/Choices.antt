-- How best and variants are told in one struct: the answer's numbers, and the counts of the store that it leaves.
-- Assumes nothing: definitions.
use Rattle.std.specs.Prelude.{ℕ, [], pos, neg_ℤ, Result}
use Rattle.refusal.specs.declared.Refusal.{Refusal}
use Rattle.answer_rules.specs.Answers.{Answer, value, refusal, After}
use Rattle.answer_rules.specs.Best.{BestTerm}
use Rattle.answer_rules.specs.Variants.{Kept, VariantsAfter}
use Rattle.lent_extract.specs.declared.counted.Chosen.{Chosen as Found}
use Rattle.lent_extract.specs.Counted.{seen_chosen}
use Rattle.lent_extract.specs.declared.counted.Varied.{Varied as KeptRows}
use Rattle.lent_extract.specs.Counted.{seen_varied}
use Rattle.c_told.specs.declared.choices.Best.{Best}
use Rattle.c_told.specs.declared.choices.Variants.{Variants}

-- The answer of best, with the counts n and m of the store then.
abbrev pub best_with : Answer BestTerm → ℕ → ℕ → Best
best_with (value b) n m =
    record { status = pos 0; cost = b.cost; term = b.term; passes = b.passes; terms = n; symbols = m }
best_with (refusal k) n m = record { status = neg_ℤ (pos k); cost = 0; term = 0; passes = 0; terms = n; symbols = m }

abbrev pub best_told : After BestTerm → Best
best_told a = best_with a.answer a.store.terms a.store.symbols

-- the same of the code's answer, from a store of n terms and m symbols
abbrev pub best_told_of : Result Found Refusal → ℕ → ℕ → Best
best_told_of r n m = best_told (seen_chosen r [] [] [] n m)

-- The answer of variants, with the counts n and m of the store then.
abbrev pub variants_with : Answer Kept → ℕ → ℕ → Variants
variants_with (value k) n m =
    record { status = pos 0; count = k.count; passes = k.passes; terms = n; symbols = m }
variants_with (refusal k) n m = record { status = neg_ℤ (pos k); count = 0; passes = 0; terms = n; symbols = m }

abbrev pub variants_told : VariantsAfter → Variants
variants_told a = variants_with a.answer a.store.terms a.store.symbols

-- the same of the code's answer
abbrev pub variants_told_of : Result KeptRows Refusal → ℕ → ℕ → Variants
variants_told_of r n m = variants_told (seen_varied r n m [] [] [] [] [])
