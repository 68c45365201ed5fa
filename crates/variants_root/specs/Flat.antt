-- A table's rows with what they are sorted by, as flat lists, and what the variants of a class answer. Assumes
-- nothing: definitions.
use Rattle.std.specs.Prelude.{◌≡◌, true, List, ℕ, ◌*◌, ◌<◌, ◌≤◌, ℤ, length}
use Rattle.table_layout.specs.Packed.{Packed}
use Rattle.term_rules.specs.Lent.{Store}
use Rattle.term_rules.specs.WellFormed.{well_formed}
use Rattle.file_rules.specs.Table.{Table}
use Rattle.table_rules.specs.Rules.Classes.{class_count}
use Rattle.table_rules.specs.Rules.Rows.{table_row_of}
use Rattle.table_rules.specs.Rules.Facts.{arity_of}
use Rattle.table_rules.specs.Rules.Choosing.{run_of, prices_for}
use Rattle.variant_order.specs.Arrays.{cells_in}
use Rattle.answer_rules.specs.Variants.{VariantsAfter, Lending, kept_rows, variants_of_rows}
use Rattle.best_class.specs.Flat.{FlatTable}

-- A flat table whose rows' cells stand in `cells`, nine places a row.
pub record VariantTable
    (t : Table) (root : ℕ) (outputs heads starts children order functions labels : List ℕ) (values : List ℤ)
    (cells : List ℕ) : Type 0 where
  pub is : FlatTable t root outputs heads starts children order functions labels values
  pub cells_long : length functions * 9 ≤ length cells
  pub cells_are : (r : ℕ) → r < length t.rows → cells_in cells r (arity_of t r) ≡ (table_row_of t r).cells

-- The lists are those of some table with n classes; the lent store is well formed.
pub record VariantsReady
    (outputs heads starts children order functions labels : List ℕ) (values : List ℤ) (cells : List ℕ) (n : ℕ)
    (s : Store) : Type 0 where
  pub table : Table
  pub root : ℕ
  pub is : VariantTable table root outputs heads starts children order functions labels values cells
  pub classes : n ≡ class_count table
  pub formed : well_formed s ≡ true

-- For every table with n classes that the lists can be of, the answer for class c and at most `most` variants is the
-- definition's.
abbrev pub VariantsAnswers :
    List ℕ →
    List ℕ →
    List ℕ →
    List ℕ →
    List ℕ →
    List ℕ →
    List ℕ →
    List ℤ →
    List ℕ →
    ℕ →
    ℕ →
    ℕ →
    Lending →
    VariantsAfter →
    Type 0
VariantsAnswers outputs heads starts children order functions labels values cells n c most l a =
    (t : Table) (root : ℕ) →
    VariantTable t root outputs heads starts children order functions labels values cells →
    n ≡ class_count t →
    a ≡ variants_of_rows t (prices_for t root) (run_of t root).passes l (kept_rows t (prices_for t root) c most)

-- The same of lists whose rows are packed too: `order` and `functions` are those that they were packed out of.
pub record KeyedReady
    (outputs heads starts children rows labels : List ℕ) (values : List ℤ) (cells : List ℕ) (n : ℕ) (s : Store) : Type
    0 where
  pub order : List ℕ
  pub functions : List ℕ
  pub packed : Packed order functions outputs starts children rows (length outputs)
  pub is : VariantsReady outputs heads starts children order functions labels values cells n s

abbrev pub KeyedAnswers :
    List ℕ →
    List ℕ →
    List ℕ →
    List ℕ →
    List ℕ →
    List ℕ →
    List ℤ →
    List ℕ →
    ℕ →
    ℕ →
    ℕ →
    Lending →
    VariantsAfter →
    Type 0
KeyedAnswers outputs heads starts children rows labels values cells n c most l a =
    (order functions : List ℕ) →
    Packed order functions outputs starts children rows (length outputs) →
    VariantsAnswers outputs heads starts children order functions labels values cells n c most l a
