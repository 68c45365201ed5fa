-- `parts::read_version` meets its contract: each `return` is a law of `version_at`. Assumes nothing.
use mathlib.Core.Path.{sym}
use Rattle.file_rules.proofs.ReadingLaws.{reads-got, reads-refused, reads-exit}
use Rattle.file_reader.proofs.parts.PartLaws.{version-refused, version-other, version-one}
use Rattle.file_reader.proofs.parts.read_version.Goals as goal

pub returns-in_err-v : goal.returns-in_err-v
returns-in_err-v c = reads-exit _ c.from_residual.ensures.1 (version-refused _ _ (sym c.in_err-v.ensures))

pub returns-then-v-ne1 : goal.returns-then-v-ne1
returns-then-v-ne1 c =
    reads-refused (version-other _ _ (sym c.in_ok-v.ensures) c.if-v-ne1.true)

pub returns : goal.returns
returns c =
    reads-got (version-one _ _ (sym c.in_ok-v.ensures) c.if-v-ne1.false) tt
