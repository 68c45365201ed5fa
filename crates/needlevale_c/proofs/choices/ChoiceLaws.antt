-- What best and variants answered, told in one struct with what they leave. Assumes nothing.
use mathlib.Core.Path.{◌≡◌, refl, ap, ◌∙◌}
use Prim.Native.Nat.{ℕ}
use mathlib.Core.List.{List}
use lib.IntN.{ℤ}
use Rattle.term_rules.specs.declared.Term.{Term}
use Rattle.answer_rules.specs.Answers.{After}
use Rattle.answer_rules.specs.Best.{BestTerm}
use Rattle.answer_rules.specs.Variants.{VariantsAfter}
use Rattle.std.specs.Prelude.{Result, Ok, Err}
use Rattle.refusal.specs.declared.Refusal.{Refusal}
use Rattle.lent_extract.specs.declared.counted.Chosen.{Chosen as Found}
use Rattle.lent_extract.specs.Counted.{seen_chosen}
use Rattle.lent_extract.specs.declared.counted.Varied.{Varied}
use Rattle.lent_extract.specs.Counted.{seen_varied}
use Rattle.lent_extract.specs.Left.{LentBest, LentVariants}
use Rattle.c_told.specs.Choices.{best_told, best_told_of, variants_told, variants_told_of}
use Rattle.c_told.specs.declared.choices.Best.{Best}
use Rattle.c_told.specs.declared.choices.Variants.{Variants}
use Rattle.needlevale_c.specs.Choices.{BestLeft, VariantsLeft}

-- the numbers do not depend on the lists
best-alike :
    (r : Result Found Refusal) (rs : List ℕ) (ls : List ℤ) (bs : List ℕ) (n m : ℕ) →
    best_told_of r n m ≡ best_told (seen_chosen r rs ls bs n m)
best-alike (Ok b) rs ls bs n m = refl
best-alike (Err k) rs ls bs n m = refl

pub best-left :
    (ts : List Term) (ns : List (List ℕ)) (n m : ℕ) (wanted : After BestTerm) (r : Result Found Refusal) (b : Best)
    (ts' : List Term) (ns' : List (List ℕ)) →
    LentBest ts ns n m wanted r ts' ns' → b ≡ best_told_of r n m → BestLeft ts ns n m wanted b ts' ns'
best-left ts ns n m wanted r b ts' ns' h t = record {
  numbers = t ∙ best-alike r _ _ _ n m ∙ ap best_told h.answer;
  lists = record { records = h.records; entries = h.entries; held = h.held; unchanged = h.unchanged };
}

variants-alike :
    (r : Result Varied Refusal) (rs : List ℕ) (ls : List ℤ) (bs ws us : List ℕ) (n m : ℕ) →
    variants_told_of r n m ≡ variants_told (seen_varied r n m rs ls bs ws us)
variants-alike (Ok k) rs ls bs ws us n m = refl
variants-alike (Err k) rs ls bs ws us n m = refl

costs-alike :
    (r : Result Varied Refusal) (rs : List ℕ) (ls : List ℤ) (bs ws us : List ℕ) (n m : ℕ) →
    (ws ≡ (seen_varied r n m rs ls bs ws us).costs) × (us ≡ (seen_varied r n m rs ls bs ws us).terms)
costs-alike (Ok k) rs ls bs ws us n m = (refl, refl)
costs-alike (Err k) rs ls bs ws us n m = (refl, refl)

pub variants-left :
    (ts : List Term) (ns : List (List ℕ)) (n m : ℕ) (wanted : VariantsAfter) (r : Result Varied Refusal) (b : Variants)
    (ts' : List Term) (ns' : List (List ℕ)) (ws us : List ℕ) →
    LentVariants ts ns n m wanted r ts' ns' ws us → b ≡ variants_told_of r n m →
    VariantsLeft ts ns n m wanted b ts' ns' ws us
variants-left ts ns n m wanted r b ts' ns' ws us h t = record {
  numbers = t ∙ variants-alike r _ _ _ ws us n m ∙ ap variants_told h.answer;
  lists = record { records = h.records; entries = h.entries; held = h.held; unchanged = h.unchanged };
  costs_are = (costs-alike r _ _ _ ws us n m).0 ∙ ap (λ (x : VariantsAfter). x.costs) h.answer;
  terms_are = (costs-alike r _ _ _ ws us n m).1 ∙ ap (λ (x : VariantsAfter). x.terms) h.answer;
}
