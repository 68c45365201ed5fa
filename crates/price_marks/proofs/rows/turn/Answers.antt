-- `price_marks::rows::turn` meets its contract: nothing was stored, or the users of the class are marked. Assumes
-- nothing.
use mathlib.Core.Path.{refl, ◌∙◌}
use lib.ListN.{length, length-set}
use Rattle.price_passes.specs.Flat.{state_of}
use Rattle.price_marks.proofs.TurnLaws.{turn-asks, mark-asks, turn-still, turn-marks}
use Rattle.price_marks.proofs.rows.turn.Goals as goal

pub relax_row-m-requires : goal.relax_row-m-requires
relax_row-m-requires c =
    let a = c.args in
    let all-asked = turn-asks (length a.ranks.now) a.rows.now
    a.users.now c.requires.ready
    (state_of a.costs.now a.ranks.now a.last) a.i c.requires.i_in_bounds c.requires.costs_len refl c.requires.last_lt_top in
    record { last_lt_top = all-asked.0; costs_len = all-asked.1.0; output_in_bounds = all-asked.1.1.0; children_in = all-asked.1.1.1 }

pub returns-then-m-last-clause-turned : goal.returns-then-m-last-clause-turned
returns-then-m-last-clause-turned c =
    let a = c.args in
    let r = c.relax_row-m in
    turn-still (length a.ranks.now) a.rows.now
    a.users.now c.requires.ready
    (state_of a.costs.now a.ranks.now a.last) a.i c.requires.i_in_bounds c.requires.costs_len refl a.marks.now.rows.now
    a.marks.now.blocks.now c.requires.room c.requires.covered
    (state_of r.new.costs r.new.ranks r.result) r.ensures c.if-m-last.true

pub mark_from-requires : goal.mark_from-requires
mark_from-requires c =
    let a = c.args in
    let room = c.requires.room in
    record {
      room = record { marks_room = length-set a.marks.now.rows.now a.i 0 ∙ room.marks_room; blocks_room = room.blocks_room };
      links_ok = rw c.from.ensures (mark-asks (length a.ranks.now) a.rows.now a.users.now c.requires.ready
          (state_of a.costs.now a.ranks.now a.last) a.i c.requires.i_in_bounds c.requires.costs_len refl);
    }

pub returns-clause-turned : goal.returns-clause-turned
returns-clause-turned c =
    let a = c.args in
    let r = c.relax_row-m in
    let m = c.mark_from in
    turn-marks (length a.ranks.now) a.rows.now
    a.users.now c.requires.ready
    (state_of a.costs.now a.ranks.now a.last) a.i c.requires.i_in_bounds c.requires.costs_len refl a.marks.now.rows.now
    a.marks.now.blocks.now c.requires.room c.requires.covered
    (state_of r.new.costs r.new.ranks r.result) r.ensures m.new.marks.rows.now m.new.marks.blocks.now
    (rw c.from.ensures at m.ensures.marked) m.ensures.room
