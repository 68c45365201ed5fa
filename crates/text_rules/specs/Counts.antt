-- Counts and sizes: document 01, 'Terms', 'Let text'. `kids` gives each term its child numbers, every one lower than
-- the term. Assumes nothing: these are definitions.
use Rattle.std.specs.Prelude.{ℕ, zero, suc, ◌+◌, Bool, true, false, ◌||◌, List, [], ◌∷◌, ◌++◌, eqb}

-- a step for each number of the list, from left to right
unfoldable pub in_turn : {A : Type 0} → (ℕ → A → A) → List ℕ → A → A
in_turn step [] a = a
in_turn step (k ∷ ks) a = in_turn step ks (step k a)

unfoldable pub member : ℕ → List ℕ → Bool
member t [] = false
member t (u ∷ us) = eqb u t || member t us

-- the distinct terms reached from t, each once, children first, after those that were reached before; f is above t
unfoldable pub reach_in : (ℕ → List ℕ) → ℕ → ℕ → List ℕ → List ℕ
reach_in kids zero t before = before
reach_in kids (suc f) t before =
    elim (member t before) [ true ↦ before | false ↦ in_turn (reach_in kids f) (kids t) before ++ (t ∷ []) ]

unfoldable pub reached : (ℕ → List ℕ) → ℕ → List ℕ
reached kids root = reach_in kids (suc root) root []

-- how many places of the list name t
unfoldable pub places : ℕ → List ℕ → ℕ
places t [] = 0
places t (k ∷ ks) = (elim (eqb k t) [ true ↦ 1 | false ↦ 0 ]) + places t ks

-- how many child places of the terms us name t
unfoldable pub places_in : (ℕ → List ℕ) → ℕ → List ℕ → ℕ
places_in kids t [] = 0
places_in kids t (u ∷ us) = places t (kids u) + places_in kids t us

-- "A term's count is the number of child places naming it in distinct reached terms, plus 1 for the root."
unfoldable pub count : (ℕ → List ℕ) → ℕ → ℕ → ℕ
count kids root t = places_in kids t (reached kids root) + places t (root ∷ [])

-- the sum over the list
unfoldable pub sum_of : (ℕ → ℕ) → List ℕ → ℕ
sum_of g [] = 0
sum_of g (k ∷ ks) = g k + sum_of g ks

unfoldable pub size_in : (ℕ → List ℕ) → ℕ → ℕ → ℕ
size_in kids zero t = 0
size_in kids (suc f) t = 1 + sum_of (size_in kids f) (kids t)

-- "Size is 1 plus the children's sizes, as a tree." Of any length: no cap
unfoldable pub size : (ℕ → List ℕ) → ℕ → ℕ
size kids t = size_in kids (suc t) t
