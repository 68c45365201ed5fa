-- `StoreMut::push` meets its contract: the record is written, for which there is room. Assumes nothing.
use mathlib.Core.Path.{refl}
use mir.Syntax.{w64}
use mir.ValLaws.{to_z-of_z}
use lib.ListN.{length}
use native.Mathlib.Omega.{arith}
use Rattle.term_rules.specs.Adding.{with_record}
use Rattle.term_add.proofs.AppendLaws.{room-get}
use Rattle.term_add.proofs.store_mut.StoreMut.push.Goals as goal

pub returns-clause-pushed : goal.returns-clause-pushed
unfolding with_record
returns-clause-pushed c =
    let z = rw (to_z-of_z w64 c.args.literal c.ranges.literal) at c.put_record.ensures.literals_after in
    rw (c.put_record.ensures.records_after, z) refl
