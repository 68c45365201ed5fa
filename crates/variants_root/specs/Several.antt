-- The variants of a root, once a table is laid flat, over a lent store: how the answer is read, and what is asked.
-- Assumes nothing: definitions.
use Rattle.std.specs.Prelude.{◌≡◌, true, false, List, ℕ, ◌+◌, ◌<◌, ◌≤◌, ℤ, length, take, Result, Ok, Err}
use Rattle.refusal.specs.declared.Refusal.{Refusal}
use Rattle.refusal.specs.declared.Refusal.TheVariants.{BadStore}
use Rattle.term_rules.specs.Lent.{Store, store}
use Rattle.term_rules.specs.WellFormed.{well_formed}
use Rattle.term_rules.specs.Nodes.{literal}
use Rattle.term_rules.specs.Adding.{add}
use Rattle.file_rules.specs.Table.{Table}
use Rattle.table_rules.specs.Rules.Classes.{class_count}
use Rattle.table_rules.specs.Rules.Choosing.{run_of, prices_for}
use Rattle.answer_rules.specs.Variants.{
  VariantsAfter,
  Lending,
  kept_rows,
  variant_literal,
  variants_of_rows,
  variants_refused,
}
use Rattle.variants_root.specs.Flat.{VariantTable}
use Rattle.variant_answers.specs.Kept.{seen}
pub use Rattle.variant_answers.specs.declared.Kept.{Kept}
use Rattle.variants_root.specs.declared.CountedKept.{CountedKept}

-- The code's answer as the definition's, with the lent lists as the call leaves them.
abbrev pub seen_variants : Result Kept Refusal → Store → List ℕ → List ℕ → VariantsAfter
seen_variants r s ws ts = seen r s ws ts

-- The same of an answer that has the counts, with the lent lists as the call leaves them. A refusal leaves the counts
-- n and m, which were those before.
abbrev pub seen_counted :
    Result CountedKept Refusal → ℕ → ℕ → List ℕ → List ℤ → List ℕ → List ℕ → List ℕ → VariantsAfter
seen_counted (Ok a) n m rs ls ns ws ts = seen_variants (Ok a.kept) (store rs ls ns a.terms a.symbols) ws ts
seen_counted (Err e) n m rs ls ns ws ts = seen_variants (Err e) (store rs ls ns n m) ws ts

-- "17, 12, 13": a store that is not well formed is refused before what the root says.
unfoldable pub if_formed : Lending → VariantsAfter → VariantsAfter
if_formed l a = elim (well_formed l.store) [ false ↦ variants_refused BadStore l | true ↦ a ]

-- The answer for the literal of a base root, and for a class.
abbrev pub literal_answer : ℤ → Lending → VariantsAfter
literal_answer z l = if_formed l (variant_literal l (add l.store (literal z)))

abbrev pub class_answer : Table → ℕ → ℕ → ℕ → Lending → VariantsAfter
class_answer t root c most l =
    if_formed l (variants_of_rows t (prices_for t root) (run_of t root).passes l (kept_rows t (prices_for t root) c most))

-- The lists are those of table t for a root sort: n rows with m children, over w classes.
pub record KeyedTable
    (t : Table) (root n m w : ℕ) (order flat heads starts children functions labels : List ℕ) (values : List ℤ)
    (cells : List ℕ) : Type 0 where
  pub order_room : n ≤ length order
  pub flat_room : n ≤ length flat
  pub heads_room : n ≤ length heads
  pub starts_room : n < length starts
  pub children_room : m ≤ length children
  pub classes_are : w ≡ class_count t
  pub is :
      VariantTable t root (take n flat) (take n heads) (take (n + 1) starts) (take m children) (take n order) functions
      labels values cells

-- There is a table and a root of which `KeyedTable` holds.
pub record SomeTable
    (n m w : ℕ) (order flat heads starts children functions labels : List ℕ) (values : List ℤ)
    (cells : List ℕ) : Type 0 where
  pub table : Table
  pub root : ℕ
  pub is : KeyedTable table root n m w order flat heads starts children functions labels values cells

-- There is a table, with its literals, and a root of which `KeyedTable` holds.
pub record LaidTable
    (n m w : ℕ) (order flat heads starts children functions labels cells : List ℕ) : Type 0 where
  pub table : Table
  pub root : ℕ
  pub values : List ℤ
  pub is : KeyedTable table root n m w order flat heads starts children functions labels values cells

-- For every table that the lists can be of, the answer for class c and at most `most` variants is the definition's.
abbrev pub ClassAnswers :
    ℕ →
    ℕ →
    ℕ →
    List ℕ →
    List ℕ →
    List ℕ →
    List ℕ →
    List ℕ →
    List ℕ →
    List ℕ →
    List ℤ →
    List ℕ →
    ℕ →
    ℕ →
    Lending →
    VariantsAfter →
    Type 0
ClassAnswers n m w order flat heads starts children functions labels values cells c most l a =
    (t : Table) (root : ℕ) →
    KeyedTable t root n m w order flat heads starts children functions labels values cells →
    a ≡ class_answer t root c most l
