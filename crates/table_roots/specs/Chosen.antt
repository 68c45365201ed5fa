-- What is known once the rows of a root's variants are chosen, before a term is built. Assumes nothing: definitions.
use Rattle.std.specs.Prelude.{◌≡◌, Bool, List, ℕ, ◌<◌, ◌≤◌, ℤ, pos, length, get_or, take, Result, Ok, Err}
use Rattle.refusal.specs.declared.Refusal.{Refusal}
use Rattle.term_rules.specs.Lent.{Store}
use Rattle.term_rules.specs.WellFormed.{well_formed}
use Rattle.answer_rules.specs.Variants.{VariantsAfter, Lending, variants_refused}
use Rattle.variant_answers.specs.Kept.{lending}
use Rattle.variants_root.specs.Several.{literal_answer}
use Rattle.variants_root.specs.Chosen.{Picks}
use Rattle.table_roots.specs.declared.Chosen.{Chosen}
use Rattle.table_roots.specs.declared.Chosen.TheVariants.{Literal, Class}

-- What is told of the store s: the refusal, the answer of the literal, or what it is answered by what is chosen of a
-- class, of w classes.
unfoldable pub RootChosen :
    Result Chosen Refusal →
    List ℕ →
    List ℕ →
    List ℕ →
    List ℕ →
    List ℤ →
    List ℕ →
    List ℕ →
    Store →
    (Lending → VariantsAfter) →
    Type 0
RootChosen (Err r) rows edges ranks labels values prices list s told =
    (ws ts : List ℕ) → variants_refused r (lending s ws ts) ≡ told (lending s ws ts)
RootChosen (Ok (Literal i)) rows edges ranks labels values prices list s told =
    (i < length values)
    × ((ws ts : List ℕ) → literal_answer (get_or values i (pos 0)) (lending s ws ts) ≡ told (lending s ws ts))
RootChosen (Ok (Class k w)) rows edges ranks labels values prices list s told =
    (w ≤ 512) × Picks rows (take w edges) (take w ranks) labels values prices list k s told

-- The same of every store that is well formed or not, as is told.
abbrev pub ChosenFor :
    Result Chosen Refusal →
    List ℕ →
    List ℕ →
    List ℕ →
    List ℕ →
    List ℤ →
    List ℕ →
    List ℕ →
    Bool →
    (Lending → VariantsAfter) →
    Type 0
ChosenFor r rows edges ranks labels values prices list formed told =
    (s : Store) → well_formed s ≡ formed → RootChosen r rows edges ranks labels values prices list s told

-- Something is told of the store s by what is chosen.
pub record SomeChosen
    (root : Chosen) (rows edges ranks labels : List ℕ) (values : List ℤ) (prices list : List ℕ) (s : Store) : Type 0 where
  pub told : Lending → VariantsAfter
  pub is : RootChosen (Ok root) rows edges ranks labels values prices list s told

-- Whatever is told of what is lent is the answer.
abbrev pub ChosenAnswers :
    Chosen →
    List ℕ →
    List ℕ →
    List ℕ →
    List ℕ →
    List ℤ →
    List ℕ →
    List ℕ →
    Lending →
    VariantsAfter →
    Type 0
ChosenAnswers root rows edges ranks labels values prices list l a =
    (told : Lending → VariantsAfter) →
    RootChosen (Ok root) rows edges ranks labels values prices list l.store told →
    a ≡ told l
