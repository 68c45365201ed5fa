-- `price_marks::links::link_row` meets its contract: the children before place p have joined. Assumes nothing.
use lib.ListN.{get_or}
use Rattle.price_marks.proofs.InRowLaws.{row-asks, row-goes-on, row_ends}
use Rattle.price_marks.proofs.ChainLaws.{joined-sizes}
use Rattle.price_marks.proofs.links.link_row.Goals as goal

pub link-requires : goal.link-requires
link-requires c =
    let a = c.args in
    let l = c.loop-p in
    let all-asked = row-asks a.children.now a.i a.a a.e a.users.now.first.now a.users.now.next.now a.users.now.owner.now l.p l.users.first.now l.users.next.now l.users.owner.now l.invariant.1 c.loop-p-test.true
    c.requires.e_in_bounds in
    record { p_bound = all-asked.0; p_in_bounds = all-asked.1.0; child_in = all-asked.1.1 }

pub loop-p-preserved : goal.loop-p-preserved
loop-p-preserved c =
    let a = c.args in
    let l = c.loop-p in
    let r = c.link in
    let u = l.users in
    let n = joined-sizes (get_or a.children.now l.p 0) l.p u.first.now u.next.now r.new.users.first.now r.new.users.next.now r.ensures.joined in (
      search,
      rw r.ensures.owner_kept
          (row-goes-on a.children.now a.i a.a a.e a.users.now.first.now a.users.now.next.now a.users.now.owner.now l.p
          u.first.now u.next.now u.owner.now l.invariant.1 c.loop-p-test.true c.requires.e_in_bounds
          r.new.users.first.now r.new.users.next.now r.ensures.joined n.0 n.1),
    )

pub returns : goal.returns
returns c =
    let a = c.args in
    let l = c.loop-p in
    let u = l.users in
    let v = l.invariant.1 in
    record {
      loans = l.invariant.0;
      linked = row_ends a.children.now a.i a.a a.e a.users.now.first.now a.users.now.next.now a.users.now.owner.now l.p u.first.now
          u.next.now u.owner.now v c.loop-p-test.false;
      sizes = record { first_length = v.first-length; next_length = v.next-length; owner_length = v.owner-length };
    }
