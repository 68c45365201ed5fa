-- `build::literal_term` meets its contract: what adding the literal answers. Assumes nothing.
use Rattle.std.proofs.Common.{rules}
use lib.ListN.{get_or}
use lib.IntN.{ℤ, pos}
use mir.Syntax.{w64}
use mir.ValLaws.{to_z-of_z}
use Rattle.build.proofs.literal_term.Goals as goal

pub returns : goal.returns
returns c =
    let z : ℤ = get_or c.args.values.now c.args.i (pos 0) in
    rw (to_z-of_z w64 z (record {
      sfits = search rules;
    })) at c.intern_literal.ensures
