-- `term_one::settle` meets its contract. The numbers of the first j children are put. Assumes nothing.
use lib.ListN.{take}
use Rattle.term_one.specs.Wanted.{child_number}
use Rattle.term_one.proofs.AskedLaws.{Settling}
use Rattle.term_one.proofs.settle.Given as goal

abbrev pub invariant-loop-j : goal.invariant-loop-j
invariant-loop-j l = Settling (child_number (take l.e l.got)) l.kids l.initial.children l.j l.children
