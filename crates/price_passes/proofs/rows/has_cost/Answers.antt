-- `price_passes::rows::has_cost` meets its contract: every child is asked. Assumes nothing.
use Rattle.std.proofs.Common.{rules, tests}
use mathlib.Core.Path.{◌∙◌}
use Rattle.std.proofs.lemmas.Iterator.{YieldsList-from_slice}
use Rattle.std.proofs.lemmas.Iterator.Adapters.{serves_from_places}
use Rattle.std.proofs.lemmas.Iterator.Search.{all_from_yields_List}
use Rattle.choice_rules.specs.Run.{priced}
use lib.ListN.{length}
use Rattle.price_passes.specs.Flat.{child_of}
use Rattle.price_passes.proofs.WalkLaws.{all-of-list, child-item}
use Rattle.price_passes.proofs.rows.has_cost.Goals as goal

pub all-requires-clause-callable : goal.all-requires-clause-callable
all-requires-clause-callable c =
    serves_from_places (YieldsList-from_slice c.args.kids.now cc) (λ x q k. search (rules, tests))
    (λ x k l e. let h = child-item c.args.kids.now (length c.args.ranks.now) x.now k c.requires l e in search rules)

pub returns : goal.returns
returns c =
    all_from_yields_List (λ x. priced c.args.ranks.now (child_of x)) _ _ _ c.all.ensures.ran
    (YieldsList-from_slice c.args.kids.now cc) (λ x b q k. search (rules, tests))
    ∙ all-of-list c.args.kids.now (priced c.args.ranks.now)
