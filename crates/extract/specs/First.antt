-- Which variants there are, and what each of them is: document 01, 'Costs and choice', last paragraph, over the rows of
-- the file and in exact whole numbers. Assumes nothing: definitions.
use Rattle.std.specs.Prelude.{◌≡◌, true, List, [], ◌∷◌, map, ℕ, ◌<◌, ◌≤◌, min, length, get_or}
use Rattle.order.specs.Compare.{up_to}
use Rattle.variant_order.specs.Keys.{Key, compare_keys}
use Rattle.term_rules.specs.Lent.{Store}
use Rattle.term_rules.specs.Nodes.{Means}
use Rattle.term_rules.specs.Growing.{Grows}
use Rattle.choice_rules.specs.Rows.{Child, literal, class, row_at}
use Rattle.choice_rules.specs.Deriving.{Tree, leaf, node, Forest, none, more, tree_cost, NotIn, Once}
use Rattle.choice_rules.specs.Edges.{ChosenAll}
use Rattle.choice_rules.specs.Demand.Deriving.{Deriving, Cheapest}
use Rattle.file_rules.specs.Table.{Table}
use Rattle.table_rules.specs.Rules.Rows.{table_row_of, table_rows, usable}
use Rattle.table_rules.specs.Rules.Terms.{name_of, term_of}
use Rattle.table_rules.specs.Rules.Choosing.{limit, Prices}
use Rattle.answer_rules.specs.Room.{Fits}
use Rattle.answer_rules.specs.Variants.{file_row, cost_for, kept_rows, Kept, VariantsAfter, Lending}

-- "every usable row of it with a cost": row r heads a term that derives class c. After saturation its cost is w: no
-- term that it heads costs less, and one costs just that.
pub record RowCost (t : Table) (c r w : ℕ) : Type 0 where
  pub children : Forest
  pub is_deriving : Deriving (table_rows t) (usable t) c (node r children)
  pub saturated : min limit (tree_cost (table_rows t) (node r children)) ≡ w
  pub least : (f : Forest) → Deriving (table_rows t) (usable t) c (node r f) → w ≤ tree_cost (table_rows t) (node r f)

-- What row r at cost w is sorted by.
abbrev pub row_key : Table → ℕ → ℕ → Key
row_key t r w = record { cost = w; name = name_of t r; cells = (table_row_of t r).cells }

-- "sorted by cost, function name bytes, row cells as numbers": row r at cost w comes no later than row q at cost x.
abbrev pub ComesFirst : Table → ℕ → ℕ → ℕ → ℕ → Type 0
ComesFirst t r w q x = up_to (compare_keys (row_key t r w) (row_key t q x)) ≡ true

-- "every usable row of it with a cost, sorted .., then the first n": rows of the file with their costs, none twice,
-- each before those that follow; one that is left out comes after all of them, and there are n of them then.
pub record FirstRows (t : Table) (c n : ℕ) (rows costs : List ℕ) : Type 0 where
  pub as_many : length costs ≡ length rows
  pub at_most : length rows ≤ n
  pub each : (j : ℕ) → j < length rows → RowCost t c (get_or rows j 0) (get_or costs j 0)
  pub once : (i j : ℕ) → i < j → j < length rows → get_or rows i 0 ≡ get_or rows j 0 → ⊥
  pub in_order :
      (i j : ℕ) →
      i < j →
      j < length rows →
      ComesFirst t (get_or rows i 0) (get_or costs i 0) (get_or rows j 0) (get_or costs j 0)
  pub left_out :
      (r w : ℕ) →
      RowCost t c r w →
      NotIn r rows →
      (length rows ≡ n) × ((j : ℕ) → j < length rows → ComesFirst t (get_or rows j 0) (get_or costs j 0) r w)

-- The rows that are kept, as rows of the file, and their costs.
abbrev pub kept_file_rows : Table → Prices → ℕ → ℕ → List ℕ
kept_file_rows t p c n = map (file_row p) (kept_rows t p c n)

abbrev pub kept_costs : Table → Prices → ℕ → ℕ → List ℕ
kept_costs t p c n = map (cost_for t p) (kept_rows t p c n)

-- A child's own tree: a literal, or a cheapest one that derives its class, in which no class is met twice on a path.
abbrev pub BestChild : Table → Tree → Child → Type 0
BestChild t u (literal i) = u ≡ leaf i
BestChild t u (class d) = (w : ℕ) × Cheapest (table_rows t) (usable t) d w u × Once (table_rows t) [] u

-- The trees of a row's children, left to right.
abbrev pub BestChildren : Table → Forest → List Child → Type 0
BestChildren t none [] = Unit {0}
BestChildren t none (k ∷ ks) = ⊥
BestChildren t (more u f) [] = ⊥
BestChildren t (more u f) (k ∷ ks) = BestChild t u k × BestChildren t f ks

-- Term u of the store is the variant of class c that row r heads: over the trees that the edges' rows choose for its
-- children, best ones, it derives the class; its exact cost is w, and no other term that the row heads is cheaper.
pub record Variant (t : Table) (p : Prices) (c r w : ℕ) (s : Store) (u : ℕ) : Type 0 where
  pub children : Forest
  pub chosen : ChosenAll (table_rows t) p.row children (row_at (table_rows t) r).children
  pub is_deriving : Deriving (table_rows t) (usable t) c (node r children)
  pub exact : tree_cost (table_rows t) (node r children) ≡ w
  pub least : (f : Forest) → Deriving (table_rows t) (usable t) c (node r f) → w ≤ tree_cost (table_rows t) (node r f)
  pub best_children : BestChildren t children (row_at (table_rows t) r).children
  pub below : u < s.terms
  pub means : Means s u (term_of t (node r children))

-- What comes back of these rows at these costs: as many results, at the front of the lists the costs, all below 2^64-1,
-- and the numbers of the rows' variants in the returned store, which is one that the lent one may become. What was
-- there before is still there.
pub record ComeBack
    (t : Table) (p : Prices) (c : ℕ) (rows costs : List ℕ) (l : Lending) (a : VariantsAfter) (k : Kept) : Type 0 where
  pub count_is : k.count ≡ length rows
  pub costs_are : (j : ℕ) → j < k.count → get_or a.costs j 0 ≡ get_or costs j 0
  pub below : (j : ℕ) → j < k.count → get_or a.costs j 0 < limit
  pub variants :
      (j : ℕ) →
      j < k.count →
      Variant t p c (get_or rows j 0) (get_or a.costs j 0) a.store (get_or a.terms j 0)
  pub fits : Fits l.store a.store
  pub grows : Grows l.store a.store
