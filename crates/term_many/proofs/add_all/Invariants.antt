-- `term_many::add_all` meets its contract. The loop's invariant is `Turn`: the adds before e are made as the definition
-- makes them, in the store that is lent. Assumes nothing.
use lib.ListN.{length}
use Rattle.term_add.specs.Held.{held, SameLoans}
use Rattle.term_one.specs.Wanted.{wanted_of}
use Rattle.term_many.proofs.TurnLaws.{Turn}
use Rattle.term_many.proofs.add_all.Given as goal

abbrev pub invariant-loop-e : goal.invariant-loop-e
invariant-loop-e l =
    SameLoans l.initial.store l.store
    × Turn (wanted_of l.list) l.room (held l.initial.store) (length l.initial.got) l.count (held l.store) l.got l.e
