-- `price_marks::links::link_row` meets its contract: the children before place p have joined. Assumes nothing.
use Rattle.price_marks.specs.Passes.{SameLoans}
use Rattle.price_marks.proofs.InRowLaws.{InRow}
use Rattle.price_marks.proofs.links.link_row.Given as goal

abbrev pub invariant-loop-p : goal.invariant-loop-p
invariant-loop-p l = SameLoans l.initial.users l.users
    × InRow l.children l.i l.a l.e l.initial.users.first.now l.initial.users.next.now l.initial.users.owner.now l.p l.users.first.now l.users.next.now l.users.owner.now
