-- `price_passes::children::cost` meets its contract, by the child's kind. Assumes nothing.
use Rattle.price_passes.proofs.ChildLaws.{cost-of-literal, cost-of-class}
use Rattle.price_passes.proofs.children.cost.Goals as goal

pub returns-then-child-ge-CLASSES : goal.returns-then-child-ge-CLASSES
returns-then-child-ge-CLASSES c = cost-of-literal c.args.child c.args.costs.now c.if-child-ge-CLASSES.true

pub bounds-costs-c : goal.bounds-costs-c
bounds-costs-c c = c.requires c.if-child-ge-CLASSES.false

pub returns : goal.returns
returns c =
    cost-of-class c.args.child c.args.costs.now
    c.if-child-ge-CLASSES.false
