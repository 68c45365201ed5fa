-- The scan order: document 01, 'Costs and choice', first paragraph. Assumes nothing: these are definitions.
use Rattle.std.specs.Prelude.{ℕ, zero, suc, ◌<◌, ◌≡◌, Bool, true, false, cond, ◌&&◌, ◌||◌, List, [], ◌∷◌, ◌++◌, length, get_or, eqb, ltb}
use Rattle.table_rules.specs.View.{ScanView}

-- Whether a number is in the list.
unfoldable pub has : ℕ → List ℕ → Bool
has a [] = false
has a (x ∷ xs) = eqb x a || has a xs

-- Every number of the list is below n.
abbrev pub Within : ℕ → List ℕ → Type 0
Within n l = (a : ℕ) → has a l ≡ true → a < n

-- Different numbers below n.
pub data Apart (n : ℕ) : List ℕ → Type 0 where
  none : Apart n []
  more : {x : ℕ} {xs : List ℕ} → x < n → has x xs ≡ false → Apart n xs → Apart n (x ∷ xs)

-- Those of the n numbers from i on that pass, in order.
unfoldable pub picked : (ℕ → Bool) → ℕ → ℕ → List ℕ
picked p i zero = []
picked p i (suc n) = cond (p i) (i ∷ picked p (suc i) n) (picked p (suc i) n)

-- For each number of the list in turn, what it gives.
unfoldable pub in_turn : (ℕ → List ℕ) → List ℕ → List ℕ
in_turn give [] = []
in_turn give (x ∷ xs) = give x ++ in_turn give xs

-- "Each eq sort adds its usable functions in file order": those whose output sort it is. A base sort is nobody's.
unfoldable pub functions_of : ScanView → ℕ → List ℕ
functions_of v s = picked (λ (f : ℕ). v.usable f && eqb (v.output f) s) 0 v.functions

-- A function's "unsubsumed rows in file order".
unfoldable pub rows_of : ScanView → ℕ → List ℕ
rows_of v f = picked (λ (r : ℕ). v.unsubsumed r && eqb (v.function r) f) 0 v.rows

-- "unseen argument sorts join the queue in column order"
unfoldable pub join : List ℕ → List ℕ → List ℕ
join queue [] = queue
join queue (a ∷ rest) = join (cond (has a queue) queue (queue ++ (a ∷ []))) rest

-- The argument sorts that a visit of sort s brings: those of its usable functions, in order.
unfoldable pub brought : ScanView → ℕ → List ℕ
brought v s = in_turn v.arguments (functions_of v s)

-- "Sorts are visited in a queue": the queue once the sorts from place i on were visited, at most n of them.
unfoldable pub visits : (ℕ → List ℕ) → ℕ → ℕ → List ℕ → List ℕ
visits bring zero i queue = queue
visits bring (suc n) i queue =
    cond (ltb i (length queue)) (visits bring n (suc i) (join queue (bring (get_or queue i 0)))) queue

-- "from the root sort": the queue begins with the root sorts, of which a call of document 01 has one and the request of
-- document 02 for a function's rows several. No sort joins twice, so as many visits as there are sorts are enough.
unfoldable pub sorts_reached : ScanView → List ℕ → List ℕ
sorts_reached v roots = visits (brought v) v.sorts 0 (join [] roots)

-- "A pass takes functions in that order": each visited sort adds its own.
unfoldable pub functions_in_order : ScanView → List ℕ → List ℕ
functions_in_order v roots = in_turn (functions_of v) (sorts_reached v roots)

-- "and their unsubsumed rows in file order."
unfoldable pub rows_in_order : ScanView → List ℕ → List ℕ
rows_in_order v roots = in_turn (rows_of v) (functions_in_order v roots)

-- The roots are sorts, and so is every argument sort.
pub record Sound (v : ScanView) (roots : List ℕ) : Type 0 where
  pub roots_below : Within v.sorts roots
  pub arguments_below : (f : ℕ) → f < v.functions → Within v.sorts (v.arguments f)
