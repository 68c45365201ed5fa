-- What is lent to take the bindings found. Assumes nothing: definitions.
use Rattle.std.specs.Prelude.{◌≡◌, length}
use Rattle.text_counts.specs.declared.bindings.Found.{Found}

-- the same three are lent
pub record SameLoans (a b : Found) : Type 0 where
  pub places : b.places.ghost_name ≡ a.places.ghost_name
  pub terms : b.terms.ghost_name ≡ a.terms.ghost_name
  pub indents : b.indents.ghost_name ≡ a.indents.ghost_name

-- each table is as long as it was
pub record SameLengths (a b : Found) : Type 0 where
  pub places : length b.places.now ≡ length a.places.now
  pub terms : length b.terms.now ≡ length a.terms.now
  pub indents : length b.indents.now ≡ length a.indents.now
