-- What a call on lent lists leaves: document 01, 'Terms' and 'Costs and choice'. Assumes nothing: definitions.
use Rattle.std.specs.Prelude.{ℕ, ◌≡◌, List, ℤ, Result}
use Rattle.refusal.specs.declared.Refusal.{Refusal}
use Rattle.lent_entries.specs.Entries.{entries_after}
use Rattle.term_rules.specs.declared.Term.{Term}
use Rattle.term_rules.specs.Lent.{Store}
use Rattle.lent.specs.Records.{lent_store, records_after}
use Rattle.answer_rules.specs.Answers.{After}
use Rattle.answer_rules.specs.Best.{BestTerm}
use Rattle.answer_rules.specs.Variants.{VariantsAfter}
use Rattle.lent_extract.specs.declared.counted.Chosen.{Chosen}
use Rattle.lent_extract.specs.Counted.{seen_chosen}
use Rattle.lent_extract.specs.declared.counted.Varied.{Varied}
use Rattle.lent_extract.specs.Counted.{seen_varied}

-- What is wanted of a call, A, tells of a store; `seen` is what a result says, with the flat lists as they are then.
abbrev pub Seen : Type 0 → Type 0
Seen A = List ℕ → List ℤ → List ℕ → A

-- The call answers as wanted, and the lent lists are then the wanted store (`held`). Where that is the store as it was lent, as
-- on every refusal, the lists are as they were.
pub record Lent (A : Type 0) (store_of : A → Store) (ts : List Term) (ns : List (List ℕ)) (n m : ℕ) (wanted : A)
    (seen : Seen A) (ts' : List Term) (ns' : List (List ℕ)) : Type 0 where
  pub answer :
      seen (store_of wanted).records (store_of wanted).literals (store_of wanted).names ≡ wanted
  pub records : ts' ≡ records_after ts (store_of wanted)
  pub entries : ns' ≡ entries_after ns (store_of wanted).names
  pub held : lent_store ts' ns' (store_of wanted).terms (store_of wanted).symbols ≡ store_of wanted
  pub unchanged : store_of wanted ≡ lent_store ts ns n m → (ts' ≡ ts) × (ns' ≡ ns)

-- of the best term
abbrev pub LentBest :
    List Term → List (List ℕ) → ℕ → ℕ → After BestTerm → Result Chosen Refusal → List Term → List (List ℕ) → Type 0
LentBest ts ns n m wanted r ts' ns' =
    Lent (After BestTerm) (λ a. a.store) ts ns n m wanted (λ rs ls bs. seen_chosen r rs ls bs n m) ts' ns'

-- of the variants, with the two lists of results as they are then
abbrev pub LentVariants :
    List Term → List (List ℕ) → ℕ → ℕ → VariantsAfter → Result Varied Refusal → List Term → List (List ℕ) → List ℕ → List ℕ →
    Type 0
LentVariants ts ns n m wanted r ts' ns' ws us =
    Lent VariantsAfter (λ a. a.store) ts ns n m wanted (λ rs ls bs. seen_varied r n m rs ls bs ws us) ts' ns'
