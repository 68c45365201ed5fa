-- `price_marks::links::link` meets its contract, by its two ways. Assumes nothing.
use Rattle.price_marks.proofs.ChainLaws.{joins-no-chain, joins-its-chain}
use Rattle.price_marks.proofs.links.link.Goals as goal

pub returns-then-child-ge512-clause-joined : goal.returns-then-child-ge512-clause-joined
returns-then-child-ge512-clause-joined c =
    let a = c.args in
    joins-no-chain a.child a.p a.users.now.first.now a.users.now.next.now c.if-child-ge512.true

pub returns-clause-joined : goal.returns-clause-joined
returns-clause-joined c =
    let a = c.args in
    joins-its-chain a.child a.p a.users.now.first.now a.users.now.next.now c.if-child-ge512.false
