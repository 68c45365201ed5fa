-- `copies::over` meets its contract: the places that both have are written, and the others stay. Assumes nothing.
use native.Mathlib.Nat.{zero-add}
use Rattle.copies.specs.Copied.{copied}
use Rattle.copies.proofs.over.Goals as goal

pub returns : goal.returns
unfolding copied
returns g c = rw (c.copy_from_slice.ensures.after, c.min-n.ensures) (simp zero-add)
