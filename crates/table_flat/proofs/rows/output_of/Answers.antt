-- `table_flat::rows::output_of` meets its contract. Assumes nothing.
use mathlib.Core.Path.{refl}
use Rattle.table_flat.specs.Rows.{output_number, output_in}
use native.Mathlib.Omega.{arith}
use Rattle.table_flat.proofs.rows.output_of.Goals as goal

pub overflow_add-result : goal.overflow_add-result
unfolding output_number output_in
overflow_add-result c = omega (arith, c.requires.small)

pub returns : goal.returns
unfolding output_number output_in
returns c = refl
