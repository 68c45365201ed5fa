-- `price_passes::children::rank` meets its contract, by the child's kind. Assumes nothing.
use Rattle.price_passes.proofs.ChildLaws.{rank-of-literal, rank-of-class}
use Rattle.price_passes.proofs.children.rank.Goals as goal

pub returns-then-child-ge-CLASSES : goal.returns-then-child-ge-CLASSES
returns-then-child-ge-CLASSES c = rank-of-literal c.args.child c.args.ranks.now c.if-child-ge-CLASSES.true

pub bounds-ranks-c : goal.bounds-ranks-c
bounds-ranks-c c = c.requires c.if-child-ge-CLASSES.false

pub returns : goal.returns
returns c =
    rank-of-class c.args.child c.args.ranks.now
    c.if-child-ge-CLASSES.false
