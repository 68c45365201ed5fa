-- What is to be built: for each class the row that its edge names. Document 01, 'Costs and choice'. Assumes nothing:
-- these are definitions.
use Rattle.std.specs.Prelude.{ℕ, ◌-◌, ◌≡◌, true, false, List, [], ◌∷◌, map, get_or, ltb, ℤ, pos}
use Rattle.name.specs.Entries.{name_at}
use Rattle.table_layout.specs.Rows.{function_at, children_at}
use Rattle.build.specs.declared.plan.Plan.{Plan as Lists}
use Rattle.term_rules.specs.Nodes.{Tree, number, applied, Trees, none, more}

-- a child: a class, or a literal
pub data Child : Type 0 where
  class : ℕ → Child
  value : ℤ → Child

-- of each class, the function name of its edge's row and that row's children, left to right
pub record Plan : Type 0 where
  pub name : ℕ → List ℕ
  pub children : ℕ → List Child

-- a number below 512 is a class, any other the literal of that index past 512
unfoldable pub child_of : List ℤ → ℕ → Child
child_of values x = elim (ltb x 512) [ true ↦ class x | false ↦ value (get_or values (x - 512) (pos 0)) ]

-- the children of row i
abbrev pub children_of : List ℕ → List ℤ → ℕ → List Child
children_of rows values i = map (child_of values) (children_at rows i)

-- The plan in packed rows: the row of class c has the number that stands for c in `edges`.
abbrev pub plan_of : List ℕ → List ℕ → List ℕ → List ℤ → Plan
plan_of rows edges labels values = record {
  name = λ (c : ℕ). name_at labels (function_at rows (get_or edges c 0));
  children = λ (c : ℕ). children_of rows values (get_or edges c 0);
}

abbrev pub plan_in : Lists → Plan
plan_in l = plan_of l.rows.now l.edges.now l.labels.now l.values.now

-- The tree of a class: its row's name over the trees of the row's children. (The name is a variable with an equation,
-- so that proofs can go by cases.)
mutual
  pub data TreeOf (p : Plan) : ℕ → Tree → Type 0 where
    of_row :
        {c : ℕ} {name : List ℕ} {ts : Trees} →
        name ≡ p.name c →
        TreesOf p (p.children c) ts →
        TreeOf p c (applied name ts)

  pub data ChildTree (p : Plan) : Child → Tree → Type 0 where
    of_class : {c : ℕ} {t : Tree} → TreeOf p c t → ChildTree p (class c) t
    of_value : {z : ℤ} → ChildTree p (value z) (number z)

  pub data TreesOf (p : Plan) : List Child → Trees → Type 0 where
    of_none : TreesOf p [] none
    of_more :
        {x : Child} {xs : List Child} {t : Tree} {ts : Trees} →
        ChildTree p x t →
        TreesOf p xs ts →
        TreesOf p (x ∷ xs) (more t ts)
