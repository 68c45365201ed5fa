-- The best term of a root, once a table is laid flat, over a lent store: how the answer is read, and what is asked.
-- Assumes nothing: definitions.
use Rattle.std.specs.Prelude.{◌≡◌, true, false, List, [], ◌∷◌, ℕ, ◌+◌, ◌<◌, ℤ, take, Result, Ok, Err}
use Rattle.refusal.specs.declared.Refusal.{Refusal}
use Rattle.refusal.specs.declared.Refusal.TheVariants.{BadStore}
use Rattle.term_rules.specs.Lent.{Store, store}
use Rattle.term_rules.specs.WellFormed.{well_formed}
use Rattle.term_rules.specs.Nodes.{literal}
use Rattle.term_rules.specs.Adding.{add}
use Rattle.file_rules.specs.Table.{Table}
use Rattle.table_rules.specs.Rules.Choosing.{answer_for, run_of, prices_for}
use Rattle.table_rows.specs.Flattened.{Flattened}
use Rattle.answer_rules.specs.Answers.{After, refused}
use Rattle.answer_rules.specs.Best.{BestTerm, best_literal, best_class}
use Rattle.best_class.specs.Flat.{FlatTable, seen}
pub use Rattle.best_class.specs.declared.Best.{Best}
use Rattle.best_root.specs.declared.CountedBest.{CountedBest}

-- The code's answer as the definition's, with the store as the call leaves it.
abbrev pub seen_best : Result Best Refusal → Store → After BestTerm
seen_best r s = seen r s

-- The same of an answer that has the counts, with the lent lists as the call leaves them. A refusal leaves the counts
-- n and m, which were those before.
abbrev pub seen_counted : Result CountedBest Refusal → List ℕ → List ℤ → List ℕ → ℕ → ℕ → After BestTerm
seen_counted (Ok a) rs ls ns n m = seen_best (Ok a.best) (store rs ls ns a.terms a.symbols)
seen_counted (Err e) rs ls ns n m = seen_best (Err e) (store rs ls ns n m)

-- "17, 11, 12, 13": a store that is not well formed is refused before what the root says.
unfoldable pub if_formed : Store → After BestTerm → After BestTerm
if_formed s a = elim (well_formed s) [ false ↦ refused BadStore s | true ↦ a ]

-- The answer for the literal of a base root, and for a class.
abbrev pub literal_answer : ℤ → Store → After BestTerm
literal_answer z s = if_formed s (best_literal s (add s (literal z)))

abbrev pub class_answer : Table → ℕ → ℕ → Store → After BestTerm
class_answer t root c s =
    if_formed s (best_class t (prices_for t root) (run_of t root).passes c s (answer_for (prices_for t root) c))

-- The lists are those of table t for a root sort: n rows with m children, over w classes, of which c is one.
pub record FlatClass
    (t : Table) (root c n m w : ℕ) (order flat heads starts children functions labels : List ℕ) (values : List ℤ)
    : Type 0 where
  pub flattened : Flattened t (root ∷ []) n m w order flat heads starts children
  pub is :
      FlatTable t root (take n flat) (take n heads) (take (n + 1) starts) (take m children) (take n order) functions
      labels values
  pub class : c < w

-- There is a table and a root of which `FlatClass` holds.
pub record SomeClass
    (c n m w : ℕ) (order flat heads starts children functions labels : List ℕ) (values : List ℤ) : Type 0 where
  pub table : Table
  pub root : ℕ
  pub is : FlatClass table root c n m w order flat heads starts children functions labels values

-- For every table that the lists can be of, the answer is the definition's.
abbrev pub ClassAnswers :
    ℕ → ℕ → ℕ → ℕ →
    List ℕ → List ℕ → List ℕ → List ℕ → List ℕ → List ℕ → List ℕ → List ℤ → Store → After BestTerm → Type 0
ClassAnswers c n m w order flat heads starts children functions labels values s a =
    (t : Table) (root : ℕ) →
    FlatClass t root c n m w order flat heads starts children functions labels values →
    a ≡ class_answer t root c s
