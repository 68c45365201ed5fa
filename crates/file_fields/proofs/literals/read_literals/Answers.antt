-- `literals::read_literals` meets its contract: the literals read so far stand in the array, and the rest of the
-- reading is that of the whole. Assumes nothing.
use mathlib.Core.Path.{sym}
use Rattle.file_fields.proofs.literals.LiteralLaws.{literals-start, literals-more, literals-refuse, literals_end}
use Rattle.file_rules.proofs.ReadingLaws.{reads-got, reads-exit}
use Rattle.file_fields.proofs.literals.read_literals.Goals as goal

pub loop-i-init : goal.loop-i-init
loop-i-init c = literals-start c.requires.literals_value

pub returns-in_err-v : goal.returns-in_err-v
returns-in_err-v c =
    reads-exit _ c.from_residual.ensures.1 (literals-refuse c.loop-i.invariant c.loop-i-test.true
    (sym c.in_err-v.ensures))

pub loop-i-preserved : goal.loop-i-preserved
loop-i-preserved c =
    literals-more c.loop-i.invariant c.requires.n_bound
    c.loop-i-test.true
    (sym c.in_ok-v.ensures) c.signed_of.ensures

pub returns : goal.returns
returns c =
    let l = c.loop-i.invariant in
    reads-got (literals_end l c.loop-i-test.false) l.held
