-- What is chosen of a class before its variants' terms are built, and what is asked to choose it. Assumes nothing:
-- definitions.
use Rattle.std.specs.Prelude.{◌≡◌, Bool, true, List, ℕ, ℤ, ◌≤◌, length, get_or, take, Result, Ok, Err}
use Rattle.refusal.specs.declared.Refusal.{Refusal}
use Rattle.table_layout.specs.Packed.{Packed}
use Rattle.term_rules.specs.Lent.{Store}
use Rattle.term_rules.specs.WellFormed.{well_formed}
use Rattle.build.specs.Plan.{plan_of, children_of}
use Rattle.file_rules.specs.Table.{Table}
use Rattle.table_rules.specs.Rules.Classes.{class_count}
use Rattle.table_rules.specs.Rules.Choosing.{run_of, prices_for}
use Rattle.answer_rules.specs.Variants.{VariantsAfter, Lending, kept_rows, variants_of_rows, variants_refused}
use Rattle.variant_terms.specs.Turned.{name_in}
use Rattle.variant_answers.specs.Kept.{lending, AnswerReady, Answers}
use Rattle.variants_root.specs.Flat.{VariantTable}
use Rattle.variants_root.specs.Several.{KeyedTable, class_answer}
use Rattle.variants_root.specs.declared.Choice.{Choice}

-- By what is chosen the store s can be answered, and what it is answered by it is as told.
pub record Picks
    (rows edges ranks labels : List ℕ) (values : List ℤ) (prices list : List ℕ) (k : Choice) (s : Store)
    (told : Lending → VariantsAfter) : Type 0 where
  pub room : k.count ≤ length list
  pub ready : AnswerReady rows edges ranks labels values prices (take k.count list) s
  pub answers :
      (ws ts : List ℕ) (a : VariantsAfter) →
      Answers (plan_of rows edges labels values) ranks (name_in labels rows) (children_of rows values) k.passes prices
      (take k.count list)
      (lending s ws ts) a →
      a ≡ told (lending s ws ts)

-- The same, or what is told is the refusal.
unfoldable pub PicksOr :
    List ℕ →
    List ℕ →
    List ℕ →
    List ℕ →
    List ℤ →
    List ℕ →
    List ℕ →
    Result Choice Refusal →
    Store →
    (Lending → VariantsAfter) →
    Type 0
PicksOr rows edges ranks labels values prices list (Ok k) s told =
    Picks rows edges ranks labels values prices list k s told
PicksOr rows edges ranks labels values prices list (Err r) s told =
    (ws ts : List ℕ) → variants_refused r (lending s ws ts) ≡ told (lending s ws ts)

-- Ranks are zeros before.
abbrev pub ZeroRanks : List ℕ → Type 0
ZeroRanks ranks = (c : ℕ) → get_or ranks c 0 ≡ 0

-- The lists are those of some table with n classes, and its rows are packed in `rows`.
pub record PackedReady
    (outputs heads starts children rows labels cells : List ℕ) (n : ℕ) : Type 0 where
  pub table : Table
  pub root : ℕ
  pub order : List ℕ
  pub functions : List ℕ
  pub values : List ℤ
  pub packed : Packed order functions outputs starts children rows (length outputs)
  pub is : VariantTable table root outputs heads starts children order functions labels values cells
  pub classes : n ≡ class_count table

-- For every table with n classes that the lists can be of, every well-formed store is answered as the definition says.
abbrev pub PackedChosen :
    List ℕ →
    List ℕ →
    List ℕ →
    List ℕ →
    List ℕ →
    List ℕ →
    List ℕ →
    ℕ →
    ℕ →
    ℕ →
    Choice →
    List ℕ →
    List ℕ →
    List ℕ →
    List ℕ →
    Type 0
PackedChosen outputs heads starts children rows labels cells n c most k edges ranks prices list =
    (order functions : List ℕ) (values : List ℤ) →
    Packed order functions outputs starts children rows (length outputs) →
    (t : Table) (root : ℕ) →
    VariantTable t root outputs heads starts children order functions labels values cells →
    n ≡ class_count t →
    (s : Store) →
    well_formed s ≡ true →
    Picks rows edges ranks labels values prices list k s
    (λ (l : Lending).
    variants_of_rows t (prices_for t root) (run_of t root).passes l (kept_rows t (prices_for t root) c most))

-- For every table that the lists can be of, every store that is well formed or not, as is told, is answered as the
-- definition says, or refused as it is.
abbrev pub ClassChosen :
    ℕ →
    ℕ →
    ℕ →
    List ℕ →
    List ℕ →
    List ℕ →
    List ℕ →
    List ℕ →
    List ℕ →
    List ℕ →
    List ℕ →
    ℕ →
    ℕ →
    Bool →
    Result Choice Refusal →
    List ℕ →
    List ℕ →
    List ℕ →
    List ℕ →
    List ℕ →
    Type 0
ClassChosen n m w order flat heads starts children functions labels cells c most formed r rows edges ranks prices list =
    (s : Store) →
    well_formed s ≡ formed →
    (values : List ℤ) (t : Table) (root : ℕ) →
    KeyedTable t root n m w order flat heads starts children functions labels values cells →
    PicksOr rows edges ranks labels values prices list r s (λ (l : Lending). class_answer t root c most l)
