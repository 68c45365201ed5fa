-- `row::grow_row` meets its contract. The loop's invariant is `Turn`: the children before place j are built as
-- the definition builds them. Assumes nothing.
use mathlib.Core.Path.{◌≡◌, refl, sym}
use lib.ListN.{length, take}
use lib.Seq.{length-take-le}
use Rattle.name.specs.Entries.{name_at}
use Rattle.build.proofs.OwnLaws.{added-of-gains, same-loans}
use Rattle.term_add.specs.Held.{held}
use Rattle.build.specs.Plan.{plan_in}
use Rattle.term_rules.proofs.Adding.AddingLaws.{grows-refl}
use Rattle.variant_terms.proofs.row.TurnLaws.{turn-go, turn-stop, turn_end}
use native.Mathlib.Omega.{arith}
use Rattle.variant_terms.proofs.row.grow_row.Goals as goal

pub loop-j-init : goal.loop-j-init
loop-j-init c =
    let p = c.requires.builder in (
      record { records = refl; literals = refl; names = refl },
      record {
        within = omega arith;
        long = refl;
        memo = refl;
        tracks = p.tracks;
        grows = grows-refl _ p.tracks.formed;
        below = λ i l. absurd (omega arith);
        same = λ d deep. refl;
      },
    )

pub child_term-requires : goal.child_term-requires
child_term-requires c =
    let p = c.requires in
    let l = c.loop-j in
    record {
      rank = p.rank;
      builder =
          record {
            planned = p.builder.planned;
            inside = λ i q. rw l.invariant.1.memo (p.builder.inside i q);
            tracks = l.invariant.1.tracks;
          };
      kid = rw c.from.ensures (p.row.each l.j c.loop-j-test.true);
    }

pub returns-in_err-term-clause-made : goal.returns-in_err-term-clause-made
returns-in_err-term-clause-made c =
    let a = c.args in
    let l = c.loop-j in
    let w = rw (
      c.from.ensures,
      c.in_err-term.was,
    ) at c.child_term.ensures.made in
    rw c.from_residual.ensures (turn-stop (plan_in a.plan.now) a.ranks.now a.plan.now.values.now _ a.kids.now _
    l.children l.j c.requires.row.few l.invariant.1 c.loop-j-test.true (name_at a.plan.now.labels.now
    a.f) _ _ _ _ w)

pub offset_bounds-children-j : goal.offset_bounds-children-j
offset_bounds-children-j c =
    omega (
      arith,
      c.requires.row.few,
    )

pub bounds-children-j : goal.bounds-children-j
bounds-children-j c =
    omega (
      arith,
      c.requires.row.few,
    )

pub loop-j-preserved : goal.loop-j-preserved
loop-j-preserved c =
    let a = c.args in
    let l = c.loop-j in
    let w = rw (
      c.from.ensures,
      c.in_ok-term.was,
    ) at c.child_term.ensures.made in (
      same-loans l.invariant.0 c.child_term.ensures.loans,
      turn-go (plan_in a.plan.now) a.ranks.now a.plan.now.values.now _ a.kids.now _
          l.children l.j c.requires.row.few l.invariant.1 c.loop-j-test.true _ _ w c.child_term.auto.memo,
    )

pub slice_bounds-children-end : goal.slice_bounds-children-end
slice_bounds-children-end c =
    omega (
      arith,
      c.requires.row.few,
      c.loop-j.invariant.1.within,
      c.loop-j.invariant.1.long,
    )

pub slice_bounds-own_row-end : goal.slice_bounds-own_row-end
slice_bounds-own_row-end c =
    let l = c.loop-j in
    let n : l.j ≡ length c.args.kids.now = omega (arith, l.invariant.1.within, c.loop-j-test.false) in
    rw (← n) (sym (length-take-le l.j l.children (omega (
      arith,
      c.requires.row.few,
      l.invariant.1.within,
      l.invariant.1.long,
    ))))

pub own_row-requires : goal.own_row-requires
own_row-requires c =
    let p = c.requires in
    let l = c.loop-j in
    let n : l.j ≡ length c.args.kids.now = omega (arith, l.invariant.1.within, c.loop-j-test.false) in
    let e : length (take (length c.args.kids.now) l.children) ≡ l.j =
    rw (← n) (length-take-le l.j l.children (omega (arith, p.row.few, l.invariant.1.within, l.invariant.1.long))) in
    record {
      name = p.row.name;
      few = omega (arith, p.row.few, l.invariant.1.within, e);
      formed = l.invariant.1.tracks.formed;
    }

pub returns-clause-made : goal.returns-clause-made
returns-clause-made c =
    let a = c.args in
    let p = c.requires in
    let l = c.loop-j in
    let n : l.j ≡ length c.args.kids.now = omega (arith, l.invariant.1.within, c.loop-j-test.false) in
    turn_end (plan_in a.plan.now) a.ranks.now a.plan.now.values.now _ a.kids.now _
    l.children l.j p.row.few l.invariant.1 c.loop-j-test.false (name_at a.plan.now.labels.now a.f) _ p.row.name.named
    (rw (← n) at (added-of-gains l.memo (held l.store) _ _ _ c.own_row.ensures.gains))

pub returns-in_err-term-clause-loans : goal.returns-in_err-term-clause-loans
returns-in_err-term-clause-loans c = same-loans c.loop-j.invariant.0 c.child_term.ensures.loans

pub returns-clause-loans : goal.returns-clause-loans
returns-clause-loans c = same-loans c.loop-j.invariant.0 c.own_row.ensures.loans
