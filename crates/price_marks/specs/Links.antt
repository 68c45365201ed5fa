-- Of each class the children that are it, as a chain of links: 0 ends a chain, p + 1 is the child at place p.
-- Assumes nothing: definitions.
use Rattle.std.specs.Prelude.{◌≡◌, List, ◌⊎◌, ◌≢◌, ℕ, suc, ◌+◌, ◌<◌, ◌≤◌, length, get_or, set}
use Rattle.price_passes.specs.Flat.{ChildrenIn}
use Rattle.price_marks.specs.Marks.{Off}

-- The child at place p is met on the chain from link h.
pub data Meets (next : List ℕ) (p : ℕ) : ℕ → Type 0 where
  here : {h : ℕ} → h ≡ suc p → Meets next p h
  there : {h : ℕ} (q : ℕ) → h ≡ suc q → Meets next p (get_or next q 0) → Meets next p h

-- The children from place lo to place `at` are on the chains of their classes.
pub record Chains (children first next : List ℕ) (lo at : ℕ) : Type 0 where
  pub first_low : (c : ℕ) → get_or first c 0 ≤ at
  pub next_low : (q : ℕ) → get_or next q 0 ≤ q
  pub met : (p : ℕ) → lo ≤ p → p < at → get_or children p 0 < 512 → Meets next p (get_or first (get_or children p 0) 0)

-- The children of the first k rows have the numbers of their rows.
pub record Owners (starts owner : List ℕ) (k : ℕ) : Type 0 where
  pub owned : (i p : ℕ) → i < k → get_or starts i 0 ≤ p → p < get_or starts (i + 1) 0 → get_or owner p 0 ≡ i
  pub owner_low : (p : ℕ) → get_or owner p 0 < 1024

-- All children of the rows are on chains and have their rows.
pub record Index (starts children first next owner : List ℕ) (rows : ℕ) : Type 0 where
  pub chains : Chains children first next (get_or starts 0 0) (get_or starts rows 0)
  pub owners : Owners starts owner rows

-- The parts of `children` that are the rows' children.
pub record PartsOk (rows : ℕ) (starts children : List ℕ) : Type 0 where
  pub few_rows : rows ≤ 1024
  pub starts_length : length starts ≡ rows + 1
  pub starts_rise : (i : ℕ) → i < rows → get_or starts i 0 ≤ get_or starts (i + 1) 0
  pub starts_in : (i : ℕ) → i < rows → get_or starts (i + 1) 0 ≤ length children

-- A link for each class, a link and a row for each child.
pub record LinkRoom (children first next owner : List ℕ) : Type 0 where
  pub few_children : length children ≤ 8192
  pub next_room : length children ≤ length next
  pub owner_room : length children ≤ length owner
  pub children_in : ChildrenIn (length first) children

-- No chain has a link yet.
pub record NoLinks (first next owner : List ℕ) : Type 0 where
  pub first_zero : (c : ℕ) → get_or first c 0 ≡ 0
  pub next_zero : (q : ℕ) → get_or next q 0 ≡ 0
  pub owner_zero : (p : ℕ) → get_or owner p 0 ≡ 0

-- The child at place p has joined the chain of its class.
pub record Joined (child p : ℕ) (first₀ next₀ first next : List ℕ) : Type 0 where
  pub literal : 512 ≤ child → (first ≡ first₀) × (next ≡ next₀)
  pub class : child < 512 → (first ≡ set first₀ child (p + 1)) × (next ≡ set next₀ p (get_or first₀ child 0))

-- The children of row i, from place a to place e, have joined.
pub record RowLinked
    (children : List ℕ) (i a e : ℕ) (first₀ next₀ owner₀ first next owner : List ℕ) : Type 0
  where
    pub chains : (lo : ℕ) → Chains children first₀ next₀ lo a → Chains children first next lo e
    pub own : (p : ℕ) → a ≤ p → p < e → get_or owner p 0 ≡ i
    pub others : (p : ℕ) → (p < a) ⊎ (e ≤ p) → get_or owner p 0 ≡ get_or owner₀ p 0

-- Links from h on lead downwards, and every place has a row.
pub record LinksOk (next owner : List ℕ) (h : ℕ) : Type 0 where
  pub low : h ≤ length next
  pub rooms : length next ≤ length owner
  pub next_low : (q : ℕ) → get_or next q 0 ≤ q
  pub owner_low : (p : ℕ) → get_or owner p 0 < 1024

-- No row of the chain from h is off, and no mark was cleared.
pub record MarkedFrom (next owner : List ℕ) (h : ℕ) (marks₀ blocks₀ marks blocks : List ℕ) : Type 0 where
  pub kept : (j : ℕ) → Off marks blocks j → Off marks₀ blocks₀ j
  pub on : (j p : ℕ) → Off marks blocks j → Meets next p h → get_or owner p 0 ≢ j
