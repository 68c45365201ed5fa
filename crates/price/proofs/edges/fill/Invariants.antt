-- `edges::fill` meets its contract: every class has been looked for among the rows before the i-th. Assumes
-- nothing.
use mathlib.Core.Path.{◌≡◌}
use lib.ListN.{length}
use Rattle.choice_rules.specs.Edges.{is_edge}
use Rattle.price_passes.specs.Flat.{top, flat_of}
use Rattle.price.proofs.edges.WalkLaws.{Walked}
use Rattle.price.proofs.edges.fill.Given as goal

abbrev pub invariant-loop-i : goal.invariant-loop-i
invariant-loop-i l = (l.none ≡ length l.rows.outputs.now) × Walked (is_edge top l.costs l.ranks) (flat_of l.rows) (length l.ranks)
    l.edges l.i
