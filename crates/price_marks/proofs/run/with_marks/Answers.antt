-- `price_marks::run::with_marks` meets its contract: where every row is marked none is off. Assumes nothing.
use Rattle.std.proofs.Common.{length, rules}
use Rattle.price_passes.specs.Flat.{state_of}
use Rattle.price_marks.proofs.RunLaws.{link-asks, links-ready, all-marked, mark-room}
use Rattle.price_marks.proofs.run.with_marks.Goals as goal

pub link_all-requires : goal.link_all-requires
link_all-requires c =
    let a = c.args in
    let all-asked = link-asks (length a.ranks.now) a.rows.now
    c.requires.flat_ok
    c.requires.children_len_bound in
    record { parts_ok = all-asked.0; link_room = all-asked.1.0; no_links = all-asked.1.1 }

pub repeat_marked-requires-clause-ready : goal.repeat_marked-requires-clause-ready
repeat_marked-requires-clause-ready c =
    let a = c.args in
    links-ready (length a.ranks.now) a.rows.now c.requires.flat_ok c.requires.children_len_bound _ (search rules)
    (search rules) (search rules) (search rules)

pub repeat_marked-requires-clause-room : goal.repeat_marked-requires-clause-room
repeat_marked-requires-clause-room c =
    let a = c.args in
    mark-room (length a.ranks.now) a.rows.now c.requires.flat_ok c.requires.children_len_bound

pub repeat_marked-requires-clause-covered : goal.repeat_marked-requires-clause-covered
repeat_marked-requires-clause-covered c =
    let a = c.args in
    all-marked (length a.ranks.now) a.rows.now
    c.requires.flat_ok c.requires.children_len_bound (state_of a.costs.now a.ranks.now 0)
