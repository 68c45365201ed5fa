-- The walk that finds edges, one row of it. Assumes nothing: a definition.
use Rattle.std.specs.Prelude.{Bool, cond, ◌&&◌, List, ℕ, get_or, set, eqb}
use Rattle.choice_rules.specs.Rows.{Row}

-- Row i is taken for its class if the class has none yet and the row has p of it.
unfoldable pub marked : (ℕ → Row → Bool) → ℕ → ℕ → Row → List ℕ → List ℕ
marked p none i r edges =
    cond (eqb (get_or edges r.output 0) none && p r.output r) (set edges r.output i) edges
