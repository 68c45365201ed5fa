-- The usable rows, in scan order, and what is summed and tested over a row's children. Assumes nothing: definitions.
use Rattle.std.specs.Prelude.{Bool, true, ◌&&◌, List, [], ◌∷◌, ℕ, zero, suc, ◌+◌, ◌<◌, length, get_or}

-- A base child is a literal index, an eq child a flat class number.
pub data Child : Type 0 where
  literal : ℕ → Child
  class : ℕ → Child

-- A usable row: the class of its output cell, its children left to right, its function's head cost.
pub record Row : Type 0 where
  pub output : ℕ
  pub children : List Child
  pub head : ℕ

-- What stands past the last row; nothing below asks for it.
abbrev pub no_row : Row
no_row = record { output = 0; children = []; head = 0 }

-- The row of a number; rows are numbered from 0, in scan order.
abbrev pub row_at : List Row → ℕ → Row
row_at rows i = get_or rows i no_row

-- A row's child of a number, from 0, left to right.
abbrev pub child_at : Row → ℕ → Child
child_at r j = get_or r.children j (literal 0)

-- Every row's output is one of n classes.
abbrev pub Within : ℕ → List Row → Type 0
Within n rows = (i : ℕ) → i < length rows → (row_at rows i).output < n

-- The sum of f over a list.
unfoldable pub sum_of : {A : Type 0} → (A → ℕ) → List A → ℕ
sum_of f [] = 0
sum_of f (x ∷ xs) = f x + sum_of f xs

-- Whether p holds all through a list.
unfoldable pub all_of : {A : Type 0} → (A → Bool) → List A → Bool
all_of p [] = true
all_of p (x ∷ xs) = p x && all_of p xs

-- f at 0, 1, .. below n.
unfoldable pub tabulate : {A : Type 0} → (ℕ → A) → ℕ → List A
tabulate f zero = []
tabulate f (suc n) = f 0 ∷ tabulate (λ c. f (suc c)) n
