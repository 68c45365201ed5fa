-- `name::name_of` meets its contract. A name is a part of the table. Assumes nothing.
use Rattle.name.specs.Entries.{name_at}
use Rattle.name.proofs.name_of.Goals as goal

pub returns : goal.returns
unfolding name_at
returns c = rw c.length_of.ensures
