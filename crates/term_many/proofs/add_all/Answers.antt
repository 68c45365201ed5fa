-- `term_many::add_all` meets its contract. The loop's invariant is `Turn`: the adds before e are made as the definition
-- makes them. Assumes nothing.
use Rattle.std.proofs.lemmas.Result.{err_from_is_err_and}
use Rattle.term_add.specs.Held.{held}
use Rattle.term_one.specs.Wanted.{wanted_of}
use Rattle.term_many.proofs.TurnLaws.{turn-go, turn-full, turn-stop, turn-ends}
use Rattle.term_many.proofs.add_all.Goals as goal

pub returns-in_err-term-clause-made : goal.returns-in_err-term-clause-made
returns-in_err-term-clause-made c =
    let g = c.args in
    let l = c.loop-e in
    let p = err_from_is_err_and c.from_residual.result c.from_residual.ensures.1 in
    rw (p.1, p.2)
    (turn-stop (wanted_of g.list.now) g.room (held g.store.now) _ _ _ l.got l.e l.invariant.1
    c.loop-e-test.true _ _ c.in_err-term.ensures.added)

pub returns-then-room-e-clause-made : goal.returns-then-room-e-clause-made
returns-then-room-e-clause-made c =
    let g = c.args in
    let l = c.loop-e in
    turn-full (wanted_of g.list.now) g.room (held g.store.now) _ _ _ l.got l.e l.invariant.1
    c.loop-e-test.true _ _ c.in_ok-term.ensures.added c.if-room-e.true

pub loop-e-preserved : goal.loop-e-preserved
loop-e-preserved c =
    let g = c.args in
    let l = c.loop-e in (
      search,
      turn-go (wanted_of g.list.now) g.room (held g.store.now) _ _ _ l.got l.e l.invariant.1
          c.loop-e-test.true _ _ c.in_ok-term.ensures.added c.if-room-e.false,
    )

pub returns-clause-made : goal.returns-clause-made
returns-clause-made c =
    let g = c.args in
    let l = c.loop-e in
    turn-ends (wanted_of g.list.now) g.room (held g.store.now) _ _ _ l.got l.e l.invariant.1
    c.loop-e-test.false
