-- `candidates::find_rows` meets its contract. The rows before place i that pass are in the list. Assumes nothing.
use lib.ListN.{length}
use Rattle.table_rules.specs.Order.{picked}
use Rattle.table_rules.proofs.PickedLaws.{Appends}
use Rattle.variant_rows.specs.Candidates.{is_candidate}
use Rattle.variant_rows.proofs.candidates.find_rows.Given as goal

abbrev pub invariant-loop-i : goal.invariant-loop-i
invariant-loop-i l = Appends (is_candidate l.ranks l.rows.outputs.now l.rows.starts.now l.rows.children.now l.c) (length l.rows.outputs.now)
    (picked (is_candidate l.ranks l.rows.outputs.now l.rows.starts.now l.rows.children.now l.c) 0 (length l.rows.outputs.now)) l.list l.m l.i
