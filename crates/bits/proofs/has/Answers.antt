-- `bits::has` meets its contract: whole bytes are enough exactly when the bits are. Assumes nothing.
use Rattle.bits.proofs.FieldLaws.{holds-of-bytes}
use Rattle.bits.proofs.has.Goals as goal

pub returns : goal.returns
returns c = holds-of-bytes _ _ _
