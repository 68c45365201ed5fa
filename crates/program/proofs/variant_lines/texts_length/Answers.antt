-- `variant_lines::texts_length` meets its contract: the answers passed are summed. Assumes nothing.
use Prim.Native.Nat.{ℕ}
use mathlib.Core.Path.{ap, ◌∙◌}
use lib.ListN.{length}
use Rattle.term_rules.specs.Nodes.{Node}
use Rattle.text_pieces.specs.Pieces.{capped}
use Rattle.text_pieces.specs.Readable.{nodes}
use Rattle.program.specs.Replies.{reply_texts}
use Rattle.program.proofs.variant_lines.ReplyLaws.{none, measured}
use native.Mathlib.Omega.{arith}
use Rattle.program.proofs.variant_lines.texts_length.Goals.{Start}
use Rattle.program.proofs.variant_lines.texts_length.Goals as goal

abbrev seen : Start → ℕ → Node
seen s = nodes s.args.records.now s.args.literals.now s.args.names.now

pub loop-j-init : goal.loop-j-init
loop-j-init c =
    omega (arith, ap length (none (seen (goal.at.loop-j-init c).Start) c.args.n c.args.costs.now c.args.terms.now))

pub one_length-long-requires : goal.one_length-long-requires
one_length-long-requires c =
    record {
      plain_sheet = c.requires.plain_sheet;
      t_lt_n = c.requires.within.below c.loop-j.j c.loop-j-test.true;
    }

pub loop-j-preserved : goal.loop-j-preserved
loop-j-preserved c =
    let l = c.loop-j in
    measured (seen (goal.at.loop-j-preserved c).Start) c.args.n c.args.costs.now c.args.terms.now l.j l.acc
    c.one_length-long.result c.add-acc.result l.invariant c.one_length-long.ensures c.add-acc.ensures

pub returns : goal.returns
returns c =
    let l = c.loop-j in
    l.invariant ∙ ap (λ (x : ℕ). capped
    (length (reply_texts (seen (goal.at.returns c).Start) c.args.n c.args.costs.now c.args.terms.now x)))
    (omega (arith, l.auto.j-end, c.loop-j-test.false))
