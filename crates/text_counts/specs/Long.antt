-- The tables of the bindings found have a place for each record of the longest store. Assumes nothing: definitions.
use Rattle.std.specs.Prelude.{◌≡◌, length}
use Rattle.text_counts.specs.declared.bindings.Found.{Found}

abbrev pub Long : Found → Type 0
Long f = (length f.places.now ≡ 1024) × ((length f.terms.now ≡ 1024) × (length f.indents.now ≡ 1024))
