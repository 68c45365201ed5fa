-- `price_marks::links::link_all` meets its contract: the children of the first i rows have joined. Assumes nothing.
use Rattle.price_marks.specs.Links.{PartsOk}
use Rattle.price_marks.specs.Passes.{SameLoans}
use Rattle.price_marks.proofs.LinkLaws.{Linked}
use Rattle.price_marks.proofs.links.link_all.Given as goal

abbrev pub invariant-loop-i : goal.invariant-loop-i
invariant-loop-i l = SameLoans l.initial.users l.users
    × ((ok : PartsOk l.rows l.starts l.children) → Linked l.rows l.starts l.children ok l.initial.users.first.now l.initial.users.next.now l.initial.users.owner.now l.i l.users.first.now l.users.next.now l.users.owner.now)
