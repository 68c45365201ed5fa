-- `terms::told_got` meets its contract: a refusal has a record of zeros. Assumes nothing.
use Rattle.std.proofs.Common.{rules}
use Rattle.term.specs.Answers.{zero_record}
use Rattle.c_told.proofs.terms.told_got.Goals as goal

pub returns-in-Err : goal.returns-in-Err
unfolding zero_record
returns-in-Err c = search rules
