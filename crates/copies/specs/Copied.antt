-- A list with the first places of another copied over it. Assumes nothing: these are definitions.
use Rattle.std.specs.Prelude.{min, List, length}
use Rattle.std.proofs.Math.Seq.{paste}

-- as many places as both have
unfoldable pub copied : {A : Type 0} → List A → List A → List A
copied to from = paste to 0 from (min (length to) (length from))
