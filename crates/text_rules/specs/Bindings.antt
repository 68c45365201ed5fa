-- Which terms are bound, and in which order: document 01, 'Terms', 'Let text'. Assumes nothing: these are definitions.
use Rattle.std.specs.Prelude.{ℕ, zero, suc, ◌+◌, Bool, true, false, ◌&&◌, List, [], ◌∷◌, ◌++◌, eqb, ltb, leb}
use Rattle.text_rules.specs.Counts.{in_turn, count, size}

-- a bound term, and the indent at which it was met
pub record Bound : Type 0 where
  pub term : ℕ
  pub indent : ℕ

-- where the binding of a term stands, if it has one
pub data Place : Type 0 where
  nowhere : Place
  place : ℕ → Place

-- the place of t's binding among bs, the first of which has place n
unfoldable pub find : ℕ → ℕ → List Bound → Place
find t n [] = nowhere
find t n (b ∷ bs) = elim (eqb b.term t) [ true ↦ place n | false ↦ find t (n + 1) bs ]

-- "A non-root term with count over 1 and size at least 4 is bound"
unfoldable pub to_bind : (ℕ → List ℕ) → ℕ → ℕ → Bool
to_bind kids root t = ltb 1 (count kids root t) && leb 4 (size kids t)

unfoldable pub bind : Bool → ℕ → ℕ → List Bound → List Bound
bind true t i bs = bs ++ ((record { term = t; indent = i }) ∷ [])
bind false t i bs = bs

-- t is met at indent i, after the bindings bs: "bound where first met, children before it"; f is above t
unfoldable pub meet_in : (ℕ → List ℕ) → (ℕ → Bool) → ℕ → ℕ → ℕ → List Bound → List Bound
meet_in kids wanted zero i t bs = bs
meet_in kids wanted (suc f) i t bs =
    elim (find t 0 bs) [
      | place n ↦ bs
      | nowhere ↦ bind (wanted t) t i (in_turn (meet_in kids wanted f (i + 2)) (kids t) bs)
    ]

-- the bindings of the root's text, in order; the root itself stands at indent 0 and is never bound
unfoldable pub bindings : (ℕ → List ℕ) → ℕ → List Bound
bindings kids root = in_turn (meet_in kids (to_bind kids root) root 2) (kids root) []
