-- `term_one::child_number` meets its contract, by the tests of the child. Assumes nothing.
use mathlib.Core.Path.{sym}
use lib.ListN.{take}
use Rattle.term_one.proofs.AskedLaws.{child-term, child-add, child-none}
use Rattle.term_one.proofs.child_number.Goals as goal

pub returns-then-x-lt1024 : goal.returns-then-x-lt1024
returns-then-x-lt1024 c =
    let a = c.args in
    sym (child-term (take a.e a.got.now) a.x c.if-x-lt1024.true)

pub returns-then-d-e : goal.returns-then-d-e
returns-then-d-e c =
    sym (child-add c.args.got.now c.args.e c.args.x c.requires c.if-x-lt1024.false c.if-d-e.true)

pub returns : goal.returns
returns c =
    sym (child-none c.args.got.now c.args.e c.args.x c.requires c.if-x-lt1024.false c.if-d-e.false)
