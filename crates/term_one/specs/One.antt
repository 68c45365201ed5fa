-- What one add of a list answers and leaves. Assumes nothing: these are definitions.
use Rattle.std.specs.Prelude.{ℕ, List}
use Rattle.term_rules.specs.Lent.{Store}
use Rattle.term_rules.specs.Nodes.{Node, literal, variable, application}
use Rattle.term.specs.Answers.{Answer, refuse}
use Rattle.term.specs.Calls.{add_literal, add_variable, add_application}
use Rattle.term_one.specs.Wanted.{Asked, node, fault, settled}

-- the store's own call for a node
unfoldable pub single : Store → Node → Answer ℕ × Store
single s (literal z) = add_literal s z
single s (variable n) = add_variable s n
single s (application n ks) = add_application s n ks

-- what an add answers and leaves, once the adds before it got these numbers
unfoldable pub add_one : Store → List ℕ → Asked → Answer ℕ × Store
add_one s got (node a) = single s (settled got a)
add_one s got (fault r) = (refuse r, s)
