-- `bindings::mark` meets its contract: the counts passed are flags, the others as they were. Assumes nothing.
use Prim.Native.Nat.{ℕ, ◌≤◌}
use mathlib.Core.Path.{◌≡◌}
use lib.ListN.{length, get_or}
use Rattle.text_counts.specs.Met.{Marked}
use Rattle.text_counts.proofs.bindings.mark.Given as goal

abbrev pub invariant-loop-t : goal.invariant-loop-t
invariant-loop-t l = (l.t ≤ l.n)
    × ((length l.counts ≡ length l.initial.counts)
    × (Marked l.initial.counts l.sizes l.counts l.t × ((x : ℕ) → l.t ≤ x → get_or l.counts x 0 ≡ get_or
    l.initial.counts x 0)))
