-- A table's rows for a root sort as flat lists, and what the best term of a class answers. Assumes nothing:
-- definitions.
use Rattle.std.specs.Prelude.{◌≡◌, true, List, [], ◌∷◌, ℕ, ◌+◌, ◌*◌, ◌<◌, ◌≤◌, ℤ, pos, length, get_or, Result, Ok, Err}
use Rattle.refusal.specs.declared.Refusal.{Refusal}
use Rattle.name.specs.Entries.{name_at, length_at}
use Rattle.term_rules.specs.Lent.{Store}
use Rattle.term_rules.specs.WellFormed.{well_formed}
use Rattle.table_layout.specs.Packed.{Packed}
use Rattle.price_passes.specs.Flat.{rows_of, FlatOk}
use Rattle.file_rules.specs.Table.{Table}
use Rattle.table_rules.specs.Rules.Classes.{class_count}
use Rattle.table_rules.specs.Rules.Order.{scan_order, scanned}
use Rattle.table_rules.specs.Rules.Terms.{literal_of, name_of}
use Rattle.table_rules.specs.Rules.Facts.{Known}
use Rattle.answer_rules.specs.Answers.{After, found, refused}
use Rattle.table_rules.specs.Rules.Choosing.{answer_for, run_of, prices_for}
use Rattle.answer_rules.specs.Best.{BestTerm, best_term, best_class}
use Rattle.best_class.specs.declared.Best.{Best}

-- The rows of table t that a root sort reaches, in scan order, as flat lists; `functions` has the function of each
-- row of the file, `labels` the functions' names (32 bytes each), `values` the literals.
pub record FlatTable
    (t : Table) (root : ℕ) (outputs heads starts children order functions labels : List ℕ) (values : List ℤ) : Type 0
  where
    pub known : Known t
    pub root_below : root < length t.sorts
    pub rows_are : rows_of outputs heads starts children ≡ scanned t (root ∷ [])
    pub flat : FlatOk (class_count t) outputs heads starts children
    pub order_is : order ≡ scan_order t (root ∷ [])
    pub arity : (i : ℕ) → i < length order → get_or starts (i + 1) 0 ≤ get_or starts i 0 + 8
    pub functions_long : length t.rows ≤ length functions
    pub functions_few : length functions ≤ 1024
    pub function_few : (r : ℕ) → r < length t.rows → get_or functions r 0 < 128
    pub label : (r : ℕ) → r < length t.rows → name_at labels (get_or functions r 0) ≡ name_of t r
    pub label_place : (r : ℕ) → r < length t.rows → get_or functions r 0 * 32 + 32 ≤ length labels
    pub label_short : (r : ℕ) → r < length t.rows → length_at labels (get_or functions r 0) ≤ 31
    pub values_length : length t.literals ≤ length values
    pub value : (i : ℕ) → i < length t.literals → get_or values i (pos 0) ≡ literal_of t i

-- The answer of the code, with the store as it leaves it.
abbrev pub seen : Result Best Refusal → Store → After BestTerm
seen (Ok b) s = found (best_term b.cost b.term b.passes) s
seen (Err r) s = refused r s

-- The lists are those of some table, with n classes, of which c is one; the lent store is well formed.
pub record BestReady
    (outputs heads starts children order functions labels : List ℕ) (values : List ℤ) (n c : ℕ) (s : Store) : Type 0
  where
    pub table : Table
    pub root : ℕ
    pub is : FlatTable table root outputs heads starts children order functions labels values
    pub classes : n ≡ class_count table
    pub class : c < n
    pub formed : well_formed s ≡ true

-- For every table with n classes that the lists can be of, the answer is the definition's.
abbrev pub BestAnswers :
    List ℕ → List ℕ → List ℕ → List ℕ → List ℕ → List ℕ → List ℕ → List ℤ → ℕ → ℕ → Store → After BestTerm → Type 0
BestAnswers outputs heads starts children order functions labels values n c s a =
    (t : Table) (root : ℕ) →
    FlatTable t root outputs heads starts children order functions labels values →
    n ≡ class_count t →
    a ≡ best_class t (prices_for t root) (run_of t root).passes c s (answer_for (prices_for t root) c)

-- The same of lists whose rows are packed too: `order` and `functions` are those that they were packed out of.
pub record RowsReady
    (outputs heads starts children rows labels : List ℕ) (values : List ℤ) (n c : ℕ) (s : Store) : Type 0 where
  pub order : List ℕ
  pub functions : List ℕ
  pub packed : Packed order functions outputs starts children rows (length outputs)
  pub is : BestReady outputs heads starts children order functions labels values n c s

abbrev pub RowsAnswer :
    List ℕ → List ℕ → List ℕ → List ℕ → List ℕ → List ℕ → List ℤ → ℕ → ℕ → Store → After BestTerm → Type 0
RowsAnswer outputs heads starts children rows labels values n c s a =
    (order functions : List ℕ) →
    Packed order functions outputs starts children rows (length outputs) →
    BestAnswers outputs heads starts children order functions labels values n c s a
