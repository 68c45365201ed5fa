-- Rows out of flat lists, and when such lists are rows. Assumes nothing: definitions.
use Rattle.std.specs.Prelude.{◌≡◌, cond, List, map, ℕ, ◌+◌, ◌-◌, ◌^◌, ◌<◌, ◌≤◌, length, get_or, take, drop, ltb}
use Rattle.choice_rules.specs.Rows.{Child, literal, class, Row, tabulate}
use Rattle.choice_rules.specs.Run.{State, Run}
use Rattle.price_passes.specs.declared.flat.Rows.{Rows}

-- The number at which costs saturate.
abbrev pub top : ℕ
top = 2 ^ 64 - 1

-- A child number below 512 is the class of that number, 512 + i the literal of index i.
unfoldable pub child_of : ℕ → Child
child_of x = cond (ltb x 512) (class x) (literal (x - 512))

-- One row.
abbrev pub row_of : ℕ → ℕ → List ℕ → Row
row_of output head children = record { output = output; children = map child_of children; head = head }

-- The children of row i, from its start to the next.
abbrev pub part_of : List ℕ → List ℕ → ℕ → List ℕ
part_of starts children i = take (get_or starts (i + 1) 0 - get_or starts i 0) (drop (get_or starts i 0) children)

-- The rows of four flat lists.
abbrev pub rows_of : List ℕ → List ℕ → List ℕ → List ℕ → List Row
rows_of outputs heads starts children =
    tabulate (λ i. row_of (get_or outputs i 0) (get_or heads i 0) (part_of starts children i)) (length outputs)

-- A child that is a class is one of n.
abbrev pub ChildIn : ℕ → ℕ → Type 0
ChildIn n x = x < 512 → x < n

-- Every child of the list is a literal or one of n classes.
abbrev pub ChildrenIn : ℕ → List ℕ → Type 0
ChildrenIn n xs = (i : ℕ) → i < length xs → ChildIn n (get_or xs i 0)

-- The four lists are rows over n classes.
pub record FlatOk (n : ℕ) (outputs heads starts children : List ℕ) : Type 0 where
  pub few_classes : n ≤ 512
  pub few_rows : length outputs ≤ 1024
  pub heads_length : length heads ≡ length outputs
  pub starts_length : length starts ≡ length outputs + 1
  pub outputs_in : (i : ℕ) → i < length outputs → get_or outputs i 0 < n
  pub starts_rise : (i : ℕ) → i < length outputs → get_or starts i 0 ≤ get_or starts (i + 1) 0
  pub starts_in : (i : ℕ) → i < length outputs → get_or starts (i + 1) 0 ≤ length children
  pub children_in : ChildrenIn n children

-- The rows of the struct by which flat lists are read, and when they are rows over n classes.
abbrev pub flat_of : Rows → List Row
flat_of r = rows_of r.outputs.now r.heads.now r.starts.now r.children.now

abbrev pub FlatIn : ℕ → Rows → Type 0
FlatIn n r = FlatOk n r.outputs.now r.heads.now r.starts.now r.children.now

-- The lists of costs and ranks, and the last rank, as a state.
abbrev pub state_of : List ℕ → List ℕ → ℕ → State
state_of costs ranks last = record { costs = costs; ranks = ranks; last = last }

-- The same with the number of passes.
abbrev pub ran_to : List ℕ → List ℕ → ℕ → ℕ → Run
ran_to costs ranks last passes = record { state = state_of costs ranks last; passes = passes }

-- All zero, and a cost for each rank.
pub record Fresh (costs ranks : List ℕ) : Type 0 where
  pub long : length costs ≡ length ranks
  pub costs_zero : (c : ℕ) → get_or costs c 0 ≡ 0
  pub ranks_zero : (c : ℕ) → get_or ranks c 0 ≡ 0
