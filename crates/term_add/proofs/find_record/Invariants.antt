-- `term_add::find_record` meets its contract. The records are passed in order. Assumes nothing.
use Prim.Native.Nat.{◌-◌}
use mathlib.Core.Path.{◌≡◌}
use Rattle.term_rules.specs.Adding.{first_from}
use Rattle.term_add.specs.Interning.{has_at}
use Rattle.term_add.proofs.find_record.Given as goal

abbrev pub invariant-loop-i : goal.invariant-loop-i
invariant-loop-i l =
    first_from (has_at l.store.records.now l.store.literals.now l.kind l.symbol l.literal l.children) l.i (l.store.terms - l.i)
    ≡ first_from (has_at l.store.records.now l.store.literals.now l.kind l.symbol l.literal l.children) 0 l.store.terms
