-- What the calls on lent lists promise beside their contracts: all that `extract` promises, of the store that the lists
-- are before and after (`lent/specs/Promises.antt` says which that is), and document 01, 'Refusal numbers' and 'How tightly
-- the answers are fixed'. Assumes nothing: a record, with one field for each theorem.
use Rattle.std.specs.Prelude.{ℕ, ◌≡◌, List, Result}
use Rattle.refusal.specs.declared.Refusal.{Refusal}
use Rattle.term_rules.specs.declared.Term.{Term}
use Rattle.lent.specs.Records.{lent_store}
use Rattle.answer_rules.specs.Answers.{After, refusal}
use Rattle.answer_rules.specs.Best.{BestTerm, best_at}
use Rattle.answer_rules.specs.Variants.{VariantsAfter, variants_at}
use Rattle.variant_answers.specs.Kept.{lending}
use Rattle.lent_extract.specs.declared.counted.Chosen.{Chosen}
use Rattle.lent_extract.specs.Counted.{seen_chosen}
use Rattle.lent_extract.specs.declared.counted.Varied.{Varied}
use Rattle.lent_extract.specs.Counted.{seen_varied}
use Rattle.lent_extract.specs.Left.{LentBest, LentVariants}

-- What a call on lent lists has told, and the store that the lists are then.
abbrev pub seen_lent_best : Result Chosen Refusal → List Term → List (List ℕ) → ℕ → ℕ → After BestTerm
seen_lent_best r ts ns n m =
    seen_chosen r (lent_store ts ns n m).records (lent_store ts ns n m).literals (lent_store ts ns n m).names n m

-- With the two lists of results.
abbrev pub seen_lent_variants :
    Result Varied Refusal → List Term → List (List ℕ) → ℕ → ℕ → List ℕ → List ℕ → VariantsAfter
seen_lent_variants r ts ns n m ws us =
    seen_varied r n m (lent_store ts ns n m).records (lent_store ts ns n m).literals (lent_store ts ns n m).names ws us

pub record Promises : Type 1 where
  -- Whatever holds of `best_at` on the store that the lists are holds of what the call tells and of the store that the
  -- lists are after it: demand 3, the room, the passes, each refusal (`extract/specs/Promises.antt`).
  pub best_carried :
      (P : After BestTerm → Type 0) (ts ts' : List Term) (ns ns' : List (List ℕ)) (n m : ℕ) (wanted : After BestTerm)
      (r : Result Chosen Refusal) →
      LentBest ts ns n m wanted r ts' ns' →
      P wanted →
      P (seen_lent_best r ts' ns' n m)
  -- The same of `variants_at`, with the lists of results.
  pub variants_carried :
      (P : VariantsAfter → Type 0) (ts ts' : List Term) (ns ns' : List (List ℕ)) (n m : ℕ) (wanted : VariantsAfter)
      (r : Result Varied Refusal) (ws us : List ℕ) →
      LentVariants ts ns n m wanted r ts' ns' ws us →
      P wanted →
      P (seen_lent_variants r ts' ns' n m ws us)
  -- "Each returns its number alone. Nothing lent is changed": both lent lists are as they were, whatever they hold.
  pub best_kept :
      (file : List ℕ) (root v : ℕ) (ts ts' : List Term) (ns ns' : List (List ℕ)) (n m k : ℕ) (r : Result Chosen Refusal) →
      LentBest ts ns n m (best_at file root v (lent_store ts ns n m)) r ts' ns' →
      (best_at file root v (lent_store ts ns n m)).answer ≡ refusal k →
      (ts' ≡ ts) × (ns' ≡ ns)
  -- Any two results that a contract allows coincide: the answer, the records and the entries.
  pub best_determined :
      (ts ts' ts'' : List Term) (ns ns' ns'' : List (List ℕ)) (n m : ℕ) (wanted : After BestTerm) (r r' : Result Chosen Refusal) →
      LentBest ts ns n m wanted r ts' ns' →
      LentBest ts ns n m wanted r' ts'' ns'' →
      (r ≡ r') × ((ts' ≡ ts'') × (ns' ≡ ns''))
  -- The same of variants: both lent lists and both lists of results.
  pub variants_kept :
      (file : List ℕ) (root v most : ℕ) (ts ts' : List Term) (ns ns' : List (List ℕ)) (n m : ℕ)
      (costs found ws us : List ℕ) (k : ℕ) (r : Result Varied Refusal) →
      LentVariants ts ns n m (variants_at file root v most (lending (lent_store ts ns n m) costs found)) r ts' ns' ws us →
      (variants_at file root v most (lending (lent_store ts ns n m) costs found)).answer ≡ refusal k →
      (ts' ≡ ts) × ((ns' ≡ ns) × ((ws ≡ costs) × (us ≡ found)))
  pub variants_determined :
      (ts ts' ts'' : List Term) (ns ns' ns'' : List (List ℕ)) (n m : ℕ) (wanted : VariantsAfter)
      (r r' : Result Varied Refusal) (ws ws' us us' : List ℕ) →
      LentVariants ts ns n m wanted r ts' ns' ws us →
      LentVariants ts ns n m wanted r' ts'' ns'' ws' us' →
      (r ≡ r') × ((ts' ≡ ts'') × ((ns' ≡ ns'') × ((ws ≡ ws') × (us ≡ us'))))
