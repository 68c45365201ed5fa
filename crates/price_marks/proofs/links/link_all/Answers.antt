-- `price_marks::links::link_all` meets its contract: the children of the first i rows have joined. Assumes nothing.
use Rattle.price_marks.proofs.LinkLaws.{links-begin, links-ask, links-go-on, links_end}
use Rattle.price_marks.proofs.links.link_all.Goals as goal

pub loop-i-init : goal.loop-i-init
loop-i-init c =
    let a = c.args in (
      search,
      λ ok. links-begin a.rows a.starts.now a.children.now ok a.users.now.first.now a.users.now.next.now a.users.now.owner.now
          c.requires.no_links c.requires.link_room,
    )

pub link_row-requires : goal.link_row-requires
link_row-requires c =
    let a = c.args in
    let l = c.loop-i in
    let ok = c.requires.parts_ok in
    let all-asked = links-ask a.rows a.starts.now a.children.now ok a.users.now.first.now a.users.now.next.now a.users.now.owner.now l.i
    l.users.first.now l.users.next.now l.users.owner.now (l.invariant.1 ok) c.loop-i-test.true in
    record { i_bound = all-asked.0; a_le_e = all-asked.1.0; e_in_bounds = all-asked.1.1.0; link_room = all-asked.1.1.1 }

pub loop-i-preserved : goal.loop-i-preserved
loop-i-preserved c =
    let a = c.args in
    let l = c.loop-i in
    let r = c.link_row in (
      search,
      λ ok. links-go-on a.rows a.starts.now a.children.now ok a.users.now.first.now a.users.now.next.now a.users.now.owner.now
          l.i l.users.first.now l.users.next.now l.users.owner.now (l.invariant.1 ok)
          c.loop-i-test.true
          r.new.users.first.now r.new.users.next.now r.new.users.owner.now r.ensures.linked r.ensures.sizes.first_length r.ensures.sizes.next_length r.ensures.sizes.owner_length,
    )

pub returns-clause-index : goal.returns-clause-index
returns-clause-index c =
    let a = c.args in
    let l = c.loop-i in
    let ok = c.requires.parts_ok in
    links_end a.rows a.starts.now a.children.now ok a.users.now.first.now a.users.now.next.now a.users.now.owner.now l.i
    l.users.first.now l.users.next.now l.users.owner.now (l.invariant.1 ok) c.loop-i-test.false

pub returns-clause-sizes : goal.returns-clause-sizes
returns-clause-sizes c =
    let v = c.loop-i.invariant.1 c.requires.parts_ok in
    record { first_length = v.first-length; next_length = v.next-length; owner_length = v.owner-length }
