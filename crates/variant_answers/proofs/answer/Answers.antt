-- `variant_answers::answer` meets its contract: each return is one law on the definition's answer. Assumes nothing.
use Prim.Native.Nat.{ℕ}
use mathlib.Core.Path.{◌≡◌, sym, ◌∙◌}
use Rattle.std.specs.Prelude.{Option, Some, None}
use Rattle.std.proofs.lemmas.Result.{err_from_is_err_and}
use Rattle.build.proofs.AnswerLaws.{refused_of}
use mathlib.Core.List.{[]}
use lib.ListN.{length-replicate}
use Rattle.term_add.specs.Held.{held}
use Rattle.build.specs.Plan.{plan_in, children_of}
use Rattle.variant_terms.specs.Turned.{name_in}
use Rattle.variant_answers.proofs.AnswerLaws.{answer-dear, answer-no-costs, answer-no-terms, answer-full, answer-kept}
use native.Mathlib.Omega.{arith}
use Rattle.variant_answers.proofs.answer.Goals as goal

pub returns-then-any_dear-clause-variants : goal.returns-then-any_dear-clause-variants
returns-then-any_dear-clause-variants c =
    let a = c.args in
    answer-dear (plan_in a.plan.now) a.ranks.now
    (name_in a.plan.now.labels.now a.plan.now.rows.now) (children_of a.plan.now.rows.now a.plan.now.values.now)
    a.passes a.prices.now a.list.now
    (held a.store.now) a.paid.now a.found.now
    (sym c.any_dear.ensures ∙ c.if-any_dear.true)

pub returns-then-paid-k-clause-variants : goal.returns-then-paid-k-clause-variants
returns-then-paid-k-clause-variants c =
    let a = c.args in
    answer-no-costs (plan_in a.plan.now) a.ranks.now
    (name_in a.plan.now.labels.now a.plan.now.rows.now) (children_of a.plan.now.rows.now a.plan.now.values.now)
    a.passes a.prices.now a.list.now
    (held a.store.now) a.paid.now a.found.now
    (sym c.any_dear.ensures ∙ c.if-any_dear.false) c.if-paid-k.true

pub returns-then-found-k-clause-variants : goal.returns-then-found-k-clause-variants
returns-then-found-k-clause-variants c =
    let a = c.args in
    answer-no-terms (plan_in a.plan.now) a.ranks.now
    (name_in a.plan.now.labels.now a.plan.now.rows.now) (children_of a.plan.now.rows.now a.plan.now.values.now)
    a.passes a.prices.now a.list.now
    (held a.store.now) a.paid.now a.found.now
    (sym c.any_dear.ensures ∙ c.if-any_dear.false) c.if-paid-k.false c.if-found-k.true

pub whole_rows-requires : goal.whole_rows-requires
whole_rows-requires c =
    let p = c.requires in
    record {
      whole_ready = record {
        rank = p.rank;
        steady = p.steady;
        listed = p.listed (sym c.any_dear.ensures ∙ c.if-any_dear.false);
      };
      list_in_bounds = rw (length-replicate {A = ℕ} 1024 0) p.few;
    }

pub returns-in_err-ok_or-clause-variants : goal.returns-in_err-ok_or-clause-variants
returns-in_err-ok_or-clause-variants c =
    let a = c.args in
    let h : ◌≡◌ {A = Option Unit} c.whole_rows.result None = grind arith in
    let p = err_from_is_err_and c.from_residual.result c.from_residual.ensures.1 in
    rw (refused_of c.whole_rows.result c.ok_or.ensures.value c.in_err-ok_or.was p.1 p.2)
    (answer-full (plan_in a.plan.now) a.ranks.now
    (name_in a.plan.now.labels.now a.plan.now.rows.now) (children_of a.plan.now.rows.now a.plan.now.values.now)
    a.passes a.prices.now a.list.now
    (held a.store.now) a.paid.now a.found.now
    (sym c.any_dear.ensures ∙ c.if-any_dear.false) c.if-paid-k.false c.if-found-k.false [] _
    (rw h at c.whole_rows.ensures.whole))

pub put_results-requires : goal.put_results-requires
put_results-requires c =
    let p = c.requires in
    let k = c.whole_rows.auto.found in
    record {
      all_below = p.below;
      results_fit = record {
        found_long = omega (arith, p.few, k, length-replicate {A = ℕ} 1024 0);
        costs_long = c.if-paid-k.false;
        terms_long = c.if-found-k.false;
      };
    }

pub returns-clause-variants : goal.returns-clause-variants
returns-clause-variants c =
    let a = c.args in
    let h : ◌≡◌ {A = Option Unit} c.whole_rows.result (Some tt) = grind arith in
    let w = rw h at c.whole_rows.ensures.whole in
    answer-kept (plan_in a.plan.now) a.ranks.now
    (name_in a.plan.now.labels.now a.plan.now.rows.now) (children_of a.plan.now.rows.now a.plan.now.values.now)
    a.passes a.prices.now a.list.now
    (held a.store.now) a.paid.now a.found.now
    (sym c.any_dear.ensures ∙ c.if-any_dear.false) c.if-paid-k.false c.if-found-k.false tt _ _ _ _ w c.put_results.ensures
