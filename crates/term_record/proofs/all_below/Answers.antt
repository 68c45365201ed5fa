-- `term_record::all_below` meets its contract: std's `all` asks of each number what the definition asks. Assumes nothing.
use mathlib.Core.Path.{◌∙◌}
use Rattle.std.proofs.Common.{rules, tests}
use Rattle.std.proofs.lemmas.Iterator.{YieldsList-from_slice}
use Rattle.std.proofs.lemmas.Iterator.Search.{all_from_yields_List}
use Rattle.term_record.proofs.WalkLaws.{all_below-all}
use Rattle.term_record.proofs.all_below.Goals as goal

pub returns : goal.returns
returns c =
    all_from_yields_List _ _ _ _ c.all.ensures.ran (YieldsList-from_slice c.args.s.now cc)
    (λ x b q k. search (rules, tests))
    ∙ all_below-all c.args.n c.args.s.now
