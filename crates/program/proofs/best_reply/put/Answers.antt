-- `best_reply::put` meets its contract: the text in its place, the newline, then the line before it. Assumes nothing.
use Prim.Native.Nat.{◌+◌, ◌-◌}
use mathlib.Core.Path.{◌∙◌}
use lib.ListN.{length, length-set}
use borrow.Rule.Slice.PartMut.{put_mid}
use Rattle.term_rules.specs.Lent.{Store}
use Rattle.std.proofs.lemmas.Result.{err_from_is_err_and}
use Rattle.term_layout.specs.Sound.{store_of}
use Rattle.program.proofs.best_reply.ReplyLaws.{no_line, no_text, place, stays, writes}
use native.Mathlib.Omega.{arith}
use Rattle.program.proofs.best_reply.put.Goals.{Start}
use Rattle.program.proofs.best_reply.put.Goals as goal

abbrev lent : Start → Store
lent s =
    store_of s.args.store.now

pub returns-then-out-h : goal.returns-then-out-h
returns-then-out-h c =
    no_line c.args.plain (lent (goal.at.returns-then-out-h c).Start) c.args.cost c.args.term c.args.passes c.args.out.now
    c.best_length-h.result c.best_length-h.ensures c.if-out-h.true

pub returns-in_err-n : goal.returns-in_err-n
returns-in_err-n c =
    let p = err_from_is_err_and c.from_residual.result c.from_residual.ensures.1 in
    rw (p.1, p.2)
    (no_text c.args.plain (lent (goal.at.returns-in_err-n c).Start) c.args.cost c.args.term c.args.passes c.args.out.now
    c.best_length-h.result c.best_length-h.ensures (length c.args.out.now - 1) (omega (arith, c.if-out-h.false))
    (omega (arith, c.if-out-h.false)) c.put_text.new.out _ c.in_err-n.ensures)

pub overflow_add-z : goal.overflow_add-z
overflow_add-z c =
    omega (
      arith,
      place c.args.plain (lent (goal.at.overflow_add-z c).Start) c.args.cost c.args.term c.args.passes
          c.args.out.now c.best_length-h.result
          c.best_length-h.ensures
          (length c.args.out.now - 1)
          (omega (arith, c.if-out-h.false))
          (omega (arith, c.if-out-h.false))
          c.put_text.new.out c.in_ok-n.n
          c.in_ok-n.ensures,
    )

pub bounds-out-z : goal.bounds-out-z
bounds-out-z c =
    omega (
      arith,
      place c.args.plain (lent (goal.at.bounds-out-z c).Start) c.args.cost c.args.term c.args.passes c.args.out.now
          c.best_length-h.result
          c.best_length-h.ensures
          (length c.args.out.now - 1)
          (omega (arith, c.if-out-h.false))
          (omega (arith, c.if-out-h.false))
          c.put_text.new.out c.in_ok-n.n
          c.in_ok-n.ensures,
      stays
          c.args.plain (lent (goal.at.bounds-out-z c).Start) c.args.cost c.args.term c.args.passes c.args.out.now
          c.best_length-h.result
          c.best_length-h.ensures
          (length c.args.out.now - 1)
          (omega (arith, c.if-out-h.false))
          (omega (arith, c.if-out-h.false))
          c.put_text.new.out c.in_ok-n.n
          c.in_ok-n.ensures,
    )

pub put_best-requires : goal.put_best-requires
put_best-requires c =
    omega (
      arith,
      c.if-out-h.false,
      c.best_length-h.ensures,
      stays c.args.plain (lent (goal.at.put_best-requires c).Start)
          c.args.cost c.args.term c.args.passes c.args.out.now
          c.best_length-h.result
          c.best_length-h.ensures
          (length c.args.out.now - 1)
          (omega (arith, c.if-out-h.false))
          (omega (arith, c.if-out-h.false))
          c.put_text.new.out
          c.in_ok-n.n c.in_ok-n.ensures,
      length-set (put_mid
          c.best_length-h.result
          (length c.args.out.now - 1 - c.best_length-h.result) c.args.out.now
          c.put_text.new.out)
          (c.best_length-h.result + c.in_ok-n.n) 10,
    )

pub overflow_add-result : goal.overflow_add-result
overflow_add-result c =
    omega (
      arith,
      place c.args.plain (lent (goal.at.overflow_add-result c).Start) c.args.cost c.args.term c.args.passes
          c.args.out.now c.best_length-h.result c.best_length-h.ensures (length c.args.out.now - 1)
          (omega (
            arith,
            c.if-out-h.false,
          )) (omega (
            arith,
            c.if-out-h.false,
          ))
          c.put_text.new.out
          c.in_ok-n.n
          c.in_ok-n.ensures,
    )

pub shape_of-out : goal.shape_of-out
shape_of-out c =
    c.put_best.auto.out ∙ (length-set (put_mid c.best_length-h.result
    (length c.args.out.now - 1 - c.best_length-h.result) c.args.out.now
    c.put_text.new.out)
    (c.best_length-h.result + c.in_ok-n.n) 10 ∙ stays
    c.args.plain (lent (goal.at.shape_of-out c).Start) c.args.cost c.args.term c.args.passes c.args.out.now
    c.best_length-h.result c.best_length-h.ensures (length c.args.out.now - 1)
    (omega (
      arith,
      c.if-out-h.false,
    )) (omega (
      arith,
      c.if-out-h.false,
    ))
    c.put_text.new.out
    c.in_ok-n.n
    c.in_ok-n.ensures)

pub returns : goal.returns
returns c =
    writes c.args.plain (lent (goal.at.returns c).Start) c.args.cost c.args.term c.args.passes c.args.out.now
    c.best_length-h.result c.best_length-h.ensures (length c.args.out.now - 1) (omega
    (arith, c.if-out-h.false))
    (omega
    (arith, c.if-out-h.false))
    c.put_text.new.out
    c.in_ok-n.n
    c.in_ok-n.ensures c.put_best.result
    c.put_best.new.out c.put_best.ensures
