-- What is asked and what is left of a marked row and of a pass over the marked rows. Assumes nothing: definitions.
use Rattle.std.specs.Prelude.{◌≡◌, List, ℕ, ◌≤◌, length}
use Rattle.choice_rules.specs.Rows.{Row, row_at}
use Rattle.choice_rules.specs.Run.{State, relax, pass}
use Rattle.price_passes.specs.declared.flat.Rows.{Rows}
use Rattle.price_passes.specs.Flat.{top, FlatIn}
use Rattle.price_marks.specs.declared.marks.Marks.{Marks}
use Rattle.price_marks.specs.declared.users.Users.{Users}
use Rattle.price_marks.specs.declared.users.UsersMut.{UsersMut}
use Rattle.price_marks.specs.Marks.{Off, Covered, Room}
use Rattle.price_marks.specs.Links.{Index}

-- The same three are lent.
pub record SameLoans (a b : UsersMut) : Type 0 where
  pub first : b.first.ghost_name ≡ a.first.ghost_name
  pub next : b.next.ghost_name ≡ a.next.ghost_name
  pub owner : b.owner.ghost_name ≡ a.owner.ghost_name

-- There are as many places as before.
pub record SameSizes (a b : UsersMut) : Type 0 where
  pub first_length : length b.first.now ≡ length a.first.now
  pub next_length : length b.next.now ≡ length a.next.now
  pub owner_length : length b.owner.now ≡ length a.owner.now

-- The same marks are lent.
pub record SameMarks (a b : Marks) : Type 0 where
  pub rows : b.rows.ghost_name ≡ a.rows.ghost_name
  pub blocks : b.blocks.ghost_name ≡ a.blocks.ghost_name

-- The rows are over n classes, and it is known who uses which class.
pub record Ready (n : ℕ) (r : Rows) (us : Users) : Type 0 where
  pub flat : FlatIn n r
  pub index : Index r.starts.now r.children.now us.first.now us.next.now us.owner.now (length r.outputs.now)
  pub first_room : n ≤ length us.first.now
  pub next_room : length r.children.now ≤ length us.next.now
  pub owner_room : length us.next.now ≤ length us.owner.now

-- Row i was relaxed, and the rows that are off improve nothing.
pub record Turned (rows : List Row) (i : ℕ) (s t : State) (marks blocks : List ℕ) : Type 0 where
  pub relaxed : t ≡ relax top s (row_at rows i)
  pub covered : Covered top rows t (Off marks blocks)
  pub room : Room marks blocks

-- All rows were relaxed in turn, and the rows that are off improve nothing.
pub record Passed (rows : List Row) (s t : State) (marks blocks : List ℕ) : Type 0 where
  pub passed : t ≡ pass top rows s
  pub covered : Covered top rows t (Off marks blocks)
  pub room : Room marks blocks
