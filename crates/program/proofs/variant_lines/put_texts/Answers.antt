-- `variant_lines::put_texts` meets its contract: the answers passed stand. Assumes nothing.
use Prim.Native.Nat.{ℕ}
use mathlib.Core.Path.{sym, subst}
use mathlib.Core.List.{List}
use Rattle.term_rules.specs.Nodes.{Node}
use Rattle.text_pieces.specs.Readable.{nodes}
use Rattle.program_rules.specs.Step.{Step}
use Rattle.program_rules.proofs.headlines.StepLaws.{step-none}
use Rattle.program.specs.Replies.{reply_texts}
use Rattle.program.proofs.variant_lines.ReplyLaws.{none, shorter, kept-length, room_next, written}
use native.Mathlib.Omega.{arith}
use Rattle.program.proofs.variant_lines.put_texts.Goals.{Start}
use Rattle.program.proofs.variant_lines.put_texts.Goals as goal

abbrev seen : Start → ℕ → Node
seen s = nodes s.args.records.now s.args.literals.now s.args.names.now

pub loop-j-init : goal.loop-j-init
loop-j-init c =
    subst (λ (x : List ℕ). Step x c.args.p c.args.p c.args.out.now c.args.out.now)
    (sym (none (seen (goal.at.loop-j-init c).Start) c.args.n c.args.costs.now c.args.terms.now))
    (step-none c.args.out.now c.args.p)

pub put_one-e-requires : goal.put_one-e-requires
put_one-e-requires c =
    let l = c.loop-j in
    record {
      plain_sheet = c.requires.plain_sheet;
      t_lt_n = c.requires.within.below l.j c.loop-j-test.true;
      t_in_bounds = room_next (seen (goal.at.put_one-e-requires c).Start)
          c.args.n c.args.costs.now c.args.terms.now c.args.out.now c.args.p l.j
          c.args.k l.e l.out l.invariant c.loop-j-test.true c.requires.k_in_bounds;
    }

pub loop-j-preserved : goal.loop-j-preserved
loop-j-preserved c =
    let l = c.loop-j in
    written (seen (goal.at.loop-j-preserved c).Start) c.args.n c.args.costs.now c.args.terms.now c.args.out.now c.args.p
    l.j l.e c.put_one-e.result l.out c.put_one-e.new.out l.invariant c.put_one-e.ensures
    (omega (
      arith,
      c.requires.k_in_bounds,
      shorter (seen (goal.at.loop-j-preserved c).Start) c.args.n c.args.costs.now c.args.terms.now l.j c.args.k
          l.auto.j-end,
    ))

pub shape_of-out : goal.shape_of-out
shape_of-out c =
    let l = c.loop-j in
    kept-length (seen (goal.at.shape_of-out c).Start) c.args.n c.args.costs.now c.args.terms.now c.args.out.now c.args.p
    l.j c.args.k l.e l.out l.invariant l.auto.j-end c.requires.k_in_bounds

pub returns : goal.returns
returns c =
    let l = c.loop-j in
    subst (λ (x : ℕ). Step (reply_texts (seen (goal.at.returns c).Start) c.args.n c.args.costs.now c.args.terms.now x) c.args.p
    l.e c.args.out.now l.out) (omega (arith, l.auto.j-end, c.loop-j-test.false)) l.invariant
