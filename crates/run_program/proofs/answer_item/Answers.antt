-- `run_program::answer_item`: what is told of an item is within the buffer.
use Rattle.std.proofs.Common.{rules, length, ◌≤◌}
use Rattle.program.proofs.RespondLaws.{response-inside}
use Rattle.run_program.proofs.answer_item.Goals as goal

pub slice_bounds-out-end : goal.slice_bounds-out-end
slice_bounds-out-end g c = response-inside _ _ _ _ _ c.respond.ensures c.in-Ok.is

pub slice_bounds-write_all-end-then-is_ok : goal.slice_bounds-write_all-end-then-is_ok
slice_bounds-write_all-end-then-is_ok g c =
    let inside : c.in-Ok.k ≤ length c.respond.new.out = response-inside _ _ _ _ _ c.respond.ensures c.in-Ok.is in
    search rules
