-- The tree that the edges choose is the term that the builder builds. Assumes nothing.
use mathlib.Core.Path.{ap, subst}
use mathlib.Core.List.{List, [], ◌∷◌, map}
use Prim.Native.Nat.{ℕ}
use Rattle.choice_rules.specs.Rows.{Child, literal, class, row_at}
use Rattle.choice_rules.specs.Deriving.{Tree, leaf, node, Forest, none, more}
use Rattle.choice_rules.specs.Edges.{Chosen, ChosenAll}
use Rattle.build.specs.Plan.{of_row, ChildTree, of_class, of_value, TreesOf, of_none, of_more}
use Rattle.file_rules.specs.Table.{Table}
use Rattle.table_rules.specs.Rules.Rows.{table_rows}
use Rattle.table_rules.specs.Rules.Terms.{name_of, term_of, terms_of}
use Rattle.table_rules.specs.Rules.Choosing.{Prices}
use Rattle.answer_rules.specs.Plan.{plan_child, plan_children, plan_for}

module _ (t : Table) (p : Prices) where
  mutual
    unfolding Chosen ChosenAll term_of terms_of plan_child plan_children plan_for

    pub chosen-term :
        (u : Tree) (k : Child) →
        Chosen (table_rows t) p.row u k →
        ChildTree (plan_for t p) (plan_child t k) (term_of t u)
    chosen-term (leaf i) (literal j) e = rw e of_value
    chosen-term (leaf i) (class c) e = absurd e
    chosen-term (node r f) (literal j) e = absurd e
    chosen-term (node r f) (class c) e =
        let kids : TreesOf (plan_for t p) (plan_children t (p.row c)) (terms_of t f) =
        subst (λ (x : ℕ). TreesOf (plan_for t p) (plan_children t x) (terms_of t f)) e.0
        (chosen-terms f (row_at (table_rows t) r).children e.1) in
        of_class (of_row (ap (λ (x : ℕ). name_of t x) e.0) kids)

    pub chosen-terms :
        (f : Forest) (ks : List Child) →
        ChosenAll (table_rows t) p.row f ks →
        TreesOf (plan_for t p) (map (plan_child t) ks) (terms_of t f)
    chosen-terms none [] e = of_none
    chosen-terms none (k ∷ ks) e = absurd e
    chosen-terms (more u f) [] e = absurd e
    chosen-terms (more u f) (k ∷ ks) e = of_more (chosen-term u k e.0) (chosen-terms f ks e.1)
