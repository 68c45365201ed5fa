-- `parts::read_functions` meets its contract: the count, then the functions. Assumes nothing.
use mathlib.Core.Path.{sym, ◌∙◌}
use native.Mathlib.Omega.{arith}
use Rattle.bits.proofs.FieldLaws.{field-read}
use Rattle.file_rules.proofs.ReadingLaws.{reads-done, reads-not, counts-of-done, counts-exit}
use Rattle.file_rules.proofs.DifferLaws.{functions-length}
use Rattle.file_reader.proofs.parts.PartLaws.{counts-along, functions-refused, functions-from}
use Rattle.file_reader.proofs.parts.read_functions.Goals as goal

pub returns-in_err-v : goal.returns-in_err-v
returns-in_err-v c =
    counts-exit _ c.from_residual.ensures.1 (functions-refused _ _ _ (sym c.in_err-v.ensures))

pub read_functions-requires : goal.read_functions-requires
read_functions-requires c =
    let k = field-read _ _ 7 (sym c.in_ok-v.ensures) in
    record {
      at_bound = omega (arith, k.end, c.requires.at_bound);
      count_bound = k.small;
      n_bound = c.requires.n_bound;
      functions_value = c.requires.functions_value;
    }

pub returns-in_err-next : goal.returns-in_err-next
returns-in_err-next c =
    counts-exit _ c.from_residual-in_err-next.ensures.1 (functions-from _ _ _ (sym c.in_ok-v.ensures) ∙ reads-not
    c.read_functions.ensures c.in_err-next.was)

pub returns : goal.returns
returns c =
    counts-along (functions-from _ _ _ (sym c.in_ok-v.ensures))
    (counts-of-done (reads-done c.read_functions.ensures c.in_ok-next.was)
    (λ xs j e. functions-length _ _ _ _ e))
