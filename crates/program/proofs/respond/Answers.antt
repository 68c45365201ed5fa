-- `program::respond` meets its contract: what the program writes, or NoRoom. Assumes nothing.
use mathlib.Core.Path.{sym}
use lib.ListN.{take}
use lib.Seq.{length-take-le}
use Rattle.program_rules.specs.Reply.{reply}
use Rattle.program.proofs.RespondLaws.{wrote-inside, wrote-front, responds, responds-piece, responds_not}
use native.Mathlib.Omega.{arith}
use Rattle.program.proofs.respond.Goals as goal

pub returns-then-out-ge16384 : goal.returns-then-out-ge16384
returns-then-out-ge16384 c =
    let w = c.write in
    responds c.args.input.now c.args.out.now w.new.out w.result w.ensures w.auto.out

pub returns-then-out-n : goal.returns-then-out-n
returns-then-out-n c =
    let w = c.write-n in
    responds_not c.args.input.now c.args.out.now w.result w.ensures.long c.if-out-n.true

pub slice_bounds-put_word-end : goal.slice_bounds-put_word-end
slice_bounds-put_word-end c =
    let w = c.write-n in
    sym (length-take-le w.result w.new.out (wrote-inside (reply c.args.input.now) _ _ _ w.ensures).0)

pub put_word-requires : goal.put_word-requires
put_word-requires c =
    let w = c.write-n in
    omega (
      arith,
      c.if-out-n.false,
      length-take-le w.result w.new.out (wrote-inside (reply c.args.input.now) _ _ _ w.ensures).0,
    )

pub returns : goal.returns
returns c =
    let w = c.write-n in
    let p = c.put_word in
    responds-piece c.args.input.now c.args.out.now p.new.out (take w.result w.new.out) p.result
    (wrote-front (reply c.args.input.now) _ _ _ w.ensures) p.ensures p.auto.out
