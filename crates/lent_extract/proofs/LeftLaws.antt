-- From the flat call's answer to the answer on lent lists. Assumes nothing.
use Rattle.std.proofs.Common.{ℕ, ◌≡◌, List, refl, ◌∙◌}
use Rattle.std.specs.Prelude.{ℤ, Result, Ok, Err}
use Rattle.refusal.specs.declared.Refusal.{Refusal}
use Rattle.term_rules.specs.declared.Term.{Term}
use Rattle.term_rules.specs.Lent.{Store}
use Rattle.lent.specs.Records.{lent_store}
use Rattle.lent.proofs.LeftLaws.{Faithful, Left}
use Rattle.answer_rules.specs.Answers.{After}
use Rattle.answer_rules.specs.Best.{BestTerm}
use Rattle.answer_rules.specs.Variants.{VariantsAfter}
use Rattle.lent_extract.specs.declared.counted.Chosen.{Chosen}
use Rattle.lent_extract.specs.Counted.{seen_chosen}
use Rattle.lent_extract.specs.declared.counted.Varied.{Varied}
use Rattle.lent_extract.specs.Counted.{seen_varied}
use Rattle.lent_extract.specs.Left.{Seen, Lent}

pub best-faithful :
    (r : Result Chosen Refusal) (n m : ℕ) →
    Faithful (After BestTerm) (λ a. a.store) (λ rs ls bs. seen_chosen r rs ls bs n m)
best-faithful (Ok b) n m =
    record { records = λ rs ls bs. refl; literals = λ rs ls bs. refl; names = λ rs ls bs. refl }
best-faithful (Err r) n m =
    record { records = λ rs ls bs. refl; literals = λ rs ls bs. refl; names = λ rs ls bs. refl }

pub variants-faithful :
    (r : Result Varied Refusal) (n m : ℕ) (ws us : List ℕ) →
    Faithful VariantsAfter (λ a. a.store) (λ rs ls bs. seen_varied r n m rs ls bs ws us)
variants-faithful (Ok k) n m ws us =
    record { records = λ rs ls bs. refl; literals = λ rs ls bs. refl; names = λ rs ls bs. refl }
variants-faithful (Err r) n m ws us =
    record { records = λ rs ls bs. refl; literals = λ rs ls bs. refl; names = λ rs ls bs. refl }

-- what a call leaves of the lent lists
pub lent-left :
    {A : Type 0} {store_of : A → Store} {ts ts' : List Term} {ns ns' : List (List ℕ)} {n m : ℕ} {wanted : A}
    {seen : Seen A} →
    Left A store_of ts ns n m wanted seen ts' ns' →
    Lent A store_of ts ns n m wanted seen ts' ns'
lent-left l =
    record { answer = l.answer; records = l.records; entries = l.entries; held = l.held; unchanged = l.unchanged }

-- what is seen of the lists after a call is what was wanted
pub lent_seen :
    (A : Type 0) (store_of : A → Store) (ts ts' : List Term) (ns ns' : List (List ℕ)) (n m : ℕ) (wanted : A)
    (seen : Seen A) →
    Lent A store_of ts ns n m wanted seen ts' ns' →
    seen (lent_store ts' ns' n m).records (lent_store ts' ns' n m).literals (lent_store ts' ns' n m).names ≡ wanted
unfolding lent_store
lent_seen A store_of ts ts' ns ns' n m wanted seen a =
    (λ i. seen (a.held i).records (a.held i).literals (a.held i).names) ∙ a.answer
