-- `parts::read_sorts` meets its contract: the count, then the sorts. Assumes nothing.
use mathlib.Core.Path.{sym, ◌∙◌}
use native.Mathlib.Omega.{arith}
use Rattle.bits.proofs.FieldLaws.{field-read}
use Rattle.file_rules.proofs.ReadingLaws.{reads-done, reads-not, counts-of-done, counts-exit}
use Rattle.file_rules.proofs.SortLaws.{sorts-length}
use Rattle.file_reader.proofs.parts.PartLaws.{counts-along, sorts-refused, sorts-from}
use Rattle.file_reader.proofs.parts.read_sorts.Goals as goal

pub returns-in_err-v : goal.returns-in_err-v
returns-in_err-v c = counts-exit _ c.from_residual.ensures.1 (sorts-refused _ _ (sym c.in_err-v.ensures))

pub read_sorts-requires : goal.read_sorts-requires
read_sorts-requires c =
    let k = field-read _ _ 5 (sym c.in_ok-v.ensures) in
    record {
      at_bound = omega (arith, k.end, c.requires.at_bound);
      n_bound = k.small;
      sorts_value = c.requires.sorts_value;
    }

pub returns-in_err-next : goal.returns-in_err-next
returns-in_err-next c =
    counts-exit _ c.from_residual-in_err-next.ensures.1 (sorts-from _ _ (sym c.in_ok-v.ensures) ∙ reads-not
    c.read_sorts.ensures c.in_err-next.was)

pub returns : goal.returns
returns c =
    counts-along (sorts-from _ _ (sym c.in_ok-v.ensures))
    (counts-of-done (reads-done c.read_sorts.ensures c.in_ok-next.was)
    (λ xs j e. sorts-length _ _ _ e))
