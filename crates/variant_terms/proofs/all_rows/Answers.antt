-- `variant_terms::all_rows` meets its contract. The loop's invariant is `Turn`: the rows before place j are built as
-- the definition builds them. Assumes nothing.
use mathlib.Core.Path.{refl}
use Rattle.table_layout.specs.Rows.{children_at}
use Rattle.build.proofs.OwnLaws.{same-loans}
use Rattle.build.specs.Plan.{plan_in}
use Rattle.term_rules.proofs.Adding.AddingLaws.{grows-refl}
use Rattle.variant_terms.specs.Turned.{name_in}
use Rattle.variant_terms.proofs.TurnLaws.{turn-go, turn-stop, turn_end}
use native.Mathlib.Omega.{arith}
use Rattle.variant_terms.proofs.all_rows.Goals as goal

pub loop-j-init : goal.loop-j-init
loop-j-init c = (
  record { records = refl; literals = refl; names = refl },
  record {
    within = omega arith;
    room = c.requires.list_in_bounds;
    long = refl;
    memo = refl;
    tracks = c.requires.list_ready.builder.tracks;
    grows = grows-refl _ c.requires.list_ready.builder.tracks.formed;
    same = λ d deep. refl;
  },
)

pub one_row-requires : goal.one_row-requires
one_row-requires c =
    let l = c.loop-j in
    record {
      rank = c.requires.list_ready.rank;
      builder =
          record {
            planned = c.requires.list_ready.builder.planned;
            inside = λ i q. rw l.invariant.1.memo (c.requires.list_ready.builder.inside i q);
            tracks = l.invariant.1.tracks;
          };
      listed = c.requires.list_ready.listed l.j c.loop-j-test.true;
    }

pub returns-in_err-term-clause-made : goal.returns-in_err-term-clause-made
returns-in_err-term-clause-made c =
    let a = c.args in
    let l = c.loop-j in
    let w = rw c.in_err-term.was at c.one_row.ensures.made in
    rw c.from_residual.ensures (turn-stop (plan_in a.plan.now) a.ranks.now a.plan.now.values.now
    (name_in a.plan.now.labels.now a.plan.now.rows.now) (children_at a.plan.now.rows.now) _
    a.list.now _ _ l.found l.j l.invariant.1 c.loop-j-test.true _ _ _ _ w)

pub loop-j-preserved : goal.loop-j-preserved
loop-j-preserved c =
    let a = c.args in
    let l = c.loop-j in
    let w = rw c.in_ok-term.was at c.one_row.ensures.made in (
      same-loans l.invariant.0 c.one_row.ensures.loans,
      turn-go (plan_in a.plan.now) a.ranks.now a.plan.now.values.now
          (name_in a.plan.now.labels.now a.plan.now.rows.now) (children_at a.plan.now.rows.now) _
          a.list.now _ _ l.found l.j l.invariant.1 c.loop-j-test.true _ _ w c.one_row.auto.memo,
    )

pub returns-clause-made : goal.returns-clause-made
returns-clause-made c =
    let a = c.args in
    let l = c.loop-j in
    turn_end (plan_in a.plan.now) a.ranks.now a.plan.now.values.now
    (name_in a.plan.now.labels.now a.plan.now.rows.now) (children_at a.plan.now.rows.now) _
    a.list.now _ _ l.found l.j l.invariant.1 c.loop-j-test.false

pub returns-in_err-term-clause-loans : goal.returns-in_err-term-clause-loans
returns-in_err-term-clause-loans c = same-loans c.loop-j.invariant.0 c.one_row.ensures.loans
