-- `candidates::find_rows` meets its contract. The rows before place i that pass are in the list. Assumes nothing.
use mathlib.Core.Path.{sym, ◌∙◌}
use lib.ListN.{length}
use Rattle.table_rules.specs.Order.{picked}
use Rattle.table_rules.proofs.PickedLaws.{appends-end, appends-no, appends-room, appends-yes}
use Rattle.variant_rows.specs.Candidates.{is_candidate}
use Rattle.variant_rows.proofs.candidates.FoundLaws.{picked_fits, picking-start}
use native.Mathlib.Omega.{arith}
use Rattle.variant_rows.proofs.candidates.find_rows.Goals as goal
use Rattle.variant_rows.proofs.candidates.find_rows.Goals.{then-is_candidate, else-is_candidate}

pub loop-i-init : goal.loop-i-init
loop-i-init c =
    let a = c.args in
    let q = is_candidate a.ranks.now a.rows.now.outputs.now a.rows.now.starts.now a.rows.now.children.now a.c in
    picking-start q (length a.rows.now.outputs.now) a.list.now

pub bounds-list-m : goal.bounds-list-m
bounds-list-m c =
    let a = c.args in
    let l = c.loop-i in
    let q = is_candidate a.ranks.now a.rows.now.outputs.now a.rows.now.starts.now a.rows.now.children.now a.c in
    let n = length a.rows.now.outputs.now in
    appends-room q n (picked q 0 n) l.list l.m l.i l.invariant c.loop-i-test.true
    (sym c.is_candidate.ensures ∙ c.if-is_candidate.true)
    (omega (arith, picked_fits q n, c.requires.outputs_in_bounds, l.auto.list))

pub loop-i-preserved : goal.loop-i-preserved
loop-i-preserved c =
    let a = c.args in
    let l = c.loop-i in
    let t = c.loop-i-test.true in
    let q = is_candidate a.ranks.now a.rows.now.outputs.now a.rows.now.starts.now a.rows.now.children.now a.c in
    let n = length a.rows.now.outputs.now in
    let u = c.is_candidate in
    elim c.if-is_candidate.branch [
      | then-is_candidate w ↦
          let e = sym u.ensures ∙ w.if-is_candidate.true in
          let r = appends-room q n (picked q 0 n) l.list l.m l.i l.invariant t e
          (omega (arith, picked_fits q n, c.requires.outputs_in_bounds, l.auto.list)) in
          rw (w.list-is, w.m-is) (appends-yes q n (picked q 0 n) l.list l.m l.i l.invariant t e r)
      | else-is_candidate w ↦
          let e = sym u.ensures ∙ w.if-is_candidate.false in
          rw (w.list-is, w.m-is) (appends-no q n (picked q 0 n) l.list l.m l.i l.invariant t e)
    ]

pub returns : goal.returns
returns c =
    let a = c.args in
    let l = c.loop-i in
    let q = is_candidate a.ranks.now a.rows.now.outputs.now a.rows.now.starts.now a.rows.now.children.now a.c in
    let n = length a.rows.now.outputs.now in
    record {
      room = l.invariant.room;
      held = appends-end q n (picked q 0 n) l.list l.m l.i l.invariant c.loop-i-test.false;
    }
