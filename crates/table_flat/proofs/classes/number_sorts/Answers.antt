-- `table_flat::classes::number_sorts` meets its contract. The sorts below `s` are numbered. Assumes nothing.
use Rattle.table_flat.proofs.ClassLaws.{numbering_start, numbering-room, numbering-step, numbering-end}
use native.Mathlib.Omega.{arith}
use Rattle.table_flat.proofs.classes.number_sorts.Goals as goal

pub loop-s-init : goal.loop-s-init
loop-s-init c =
    let a = c.args in
    numbering_start a.sorts a.classes.now a.bases.now

pub overflow_add-total : goal.overflow_add-total
overflow_add-total c =
    let a = c.args in
    let l = c.loop-s in
    omega (
      arith,
      numbering-room a.sorts a.classes.now l.bases l.total l.s l.invariant (omega arith)
          c.requires.sorts_bound,
    )

pub loop-s-preserved : goal.loop-s-preserved
loop-s-preserved c =
    let a = c.args in
    let l = c.loop-s in
    numbering-step a.sorts a.classes.now l.bases l.total l.s l.invariant (omega arith)
    (omega (arith, c.requires.sorts_in_bounds.1, l.auto.bases))

pub returns : goal.returns
returns c =
    let a = c.args in
    let l = c.loop-s in
    let all-asked = numbering-end a.sorts a.classes.now l.bases l.total l.s l.invariant (omega arith) in
    record { value = all-asked.0; bases = all-asked.1 }
