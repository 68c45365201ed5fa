-- `needlevale::main` writes what `respond` told: it is within the buffer.
use Rattle.std.proofs.Common.{rules, length, ◌≤◌}
use Rattle.program.proofs.RespondLaws.{response-inside}
use Rattle.needlevale.proofs.main.Goals as goal

pub slice_bounds-out-end : goal.slice_bounds-out-end
slice_bounds-out-end c = response-inside _ _ _ _ _ c.respond.ensures c.in-Ok.is

pub slice_bounds-write_all-end : goal.slice_bounds-write_all-end
slice_bounds-write_all-end c =
    let inside : c.in-Ok.k ≤ length c.respond.new.out = response-inside _ _ _ _ _ c.respond.ensures c.in-Ok.is in
    search rules
