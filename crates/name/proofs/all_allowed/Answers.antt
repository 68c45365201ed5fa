-- `name::all_allowed` meets its contract: std's `all` asks of each byte what the definition asks. Assumes nothing.
use mathlib.Core.Path.{◌∙◌}
use Rattle.std.proofs.Common.{rules, tests}
use Rattle.std.proofs.lemmas.Iterator.{YieldsList-from_slice}
use Rattle.std.proofs.lemmas.Iterator.Search.{all_from_yields_List}
use Rattle.name.specs.Name.{allowed}
use Rattle.name.proofs.NameLaws.{all_allowed-all}
use Rattle.name.proofs.all_allowed.Goals as goal

pub returns : goal.returns
returns c =
    all_from_yields_List allowed _ _ _ c.all.ensures.ran (YieldsList-from_slice c.args.s.now cc)
    (λ x b q k. search (rules, tests))
    ∙ all_allowed-all c.args.s.now
