-- `parts::read_literals` meets its contract: the count, then the literals. Assumes nothing.
use mathlib.Core.Path.{sym, ◌∙◌}
use native.Mathlib.Omega.{arith}
use Rattle.bits.proofs.FieldLaws.{field-read}
use Rattle.file_rules.proofs.ReadingLaws.{reads-done, reads-not, counts-of-done, counts-exit}
use Rattle.file_rules.proofs.LiteralLaws.{literals-length}
use Rattle.file_reader.proofs.parts.PartLaws.{counts-along, literals-refused, literals-from}
use Rattle.file_reader.proofs.parts.read_literals.Goals as goal

pub returns-in_err-v : goal.returns-in_err-v
returns-in_err-v c =
    counts-exit _ c.from_residual.ensures.1 (literals-refused _ _ (sym c.in_err-v.ensures))

pub read_literals-requires : goal.read_literals-requires
read_literals-requires c =
    let k = field-read _ _ 9 (sym c.in_ok-v.ensures) in
    record {
      at_bound = omega (arith, k.end, c.requires.at_bound);
      n_bound = k.small;
      literals_value = c.requires.literals_value;
    }

pub returns-in_err-next : goal.returns-in_err-next
returns-in_err-next c =
    counts-exit _ c.from_residual-in_err-next.ensures.1 (literals-from _ _ (sym c.in_ok-v.ensures) ∙ reads-not
    c.read_literals.ensures c.in_err-next.was)

pub returns : goal.returns
returns c =
    counts-along (literals-from _ _ (sym c.in_ok-v.ensures))
    (counts-of-done (reads-done c.read_literals.ensures c.in_ok-next.was)
    (λ xs j e. literals-length _ _ _ e))
