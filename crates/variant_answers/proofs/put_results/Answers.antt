-- `variant_answers::put_results` meets its contract: the costs are put, and the terms copied. Assumes nothing.
use Prim.Native.Nat.{ℕ}
use mathlib.Core.Path.{sym, ap, ◌∙◌}
use lib.ListN.{length, get_or}
use lib.Seq.{paste, length-take-le}
use Rattle.choice_rules.proofs.Demand.OrderLaws.{map-length}
use Rattle.variant_answers.specs.Kept.{prices_of}
use Rattle.variant_answers.proofs.AnswerLaws.{terms-copied}
use Rattle.variant_answers.proofs.put_results.Goals as goal

pub put_costs-requires : goal.put_costs-requires
put_costs-requires c =
    record {
      all_below = c.requires.all_below;
      list_in_bounds = c.requires.results_fit.costs_long;
    }

pub slice_bounds-over-end : goal.slice_bounds-over-end
slice_bounds-over-end c =
    let a = c.args in
    sym (length-take-le (length a.list.now) a.made.now c.requires.results_fit.found_long)

pub returns : goal.returns
returns c =
    let a = c.args in
    record {
      costs_are =
          c.put_costs.ensures
          ∙ ap (paste a.paid.now 0 (prices_of a.prices.now a.list.now))
          (sym (map-length (λ (i : ℕ). get_or a.prices.now i 0) a.list.now));
      terms_are =
          terms-copied (length a.list.now) a.made.now a.found.now _ c.requires.results_fit.found_long c.requires.results_fit.terms_long
          c.over.ensures;
    }
