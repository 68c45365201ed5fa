-- `file_rules::signed_of` meets its contract: the same bits, read as a signed number. Assumes nothing.
use Rattle.file_rules.proofs.SignedLaws.{signed-is, signed-kept}
use Rattle.file_rules.proofs.signed_of.Goals as goal

pub returns : goal.returns
returns c =
    let h = c.ranges.v.fits in
    rw (c.cast_signed.ensures, signed-is _ h) (signed-kept _ h)
