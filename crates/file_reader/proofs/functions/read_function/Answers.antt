-- `functions::read_function` meets its contract: the parts in order; a refusal is passed on. Assumes nothing.
use Prim.Native.Nat.{◌≤◌}
use mathlib.Core.Path.{sym, ◌∙◌}
use native.Mathlib.Omega.{arith}
use lib.ListN.{length}
use lib.Seq.{length-take-le}
use Rattle.file_rules.proofs.ReadingLaws.{reads-done, reads-not, reads-exit, reads-via}
use Rattle.file_names.proofs.EntriesLaws.{free-is-new}
use Rattle.file_reader.proofs.functions.FunctionSteps.{name-near, cost-near, flags-near, output-near, function_of, function-stops-1, function-stops-2, function-stops-3, function-stops-4, function-ends}
use Rattle.file_reader.proofs.functions.read_function.Goals as goal

pub returns-in_err-p : goal.returns-in_err-p
returns-in_err-p c =
    λ fs h.
    reads-exit _ c.from_residual.ensures.1
    (function-stops-1 _ _ fs _ (sym (free-is-new _ _ _ _ h) ∙ reads-not c.read_name.ensures c.in_err-p.was))

pub read_cost-requires-clause-at_bound : goal.read_cost-requires-clause-at_bound
read_cost-requires-clause-at_bound c =
    let a = reads-done c.read_name.ensures c.in_ok-p.was in
    omega (arith, name-near _ _ _ _ a, c.requires.at_bound)

pub returns-in_err-q : goal.returns-in_err-q
returns-in_err-q c =
    λ fs h.
    let a = reads-done c.read_name.ensures c.in_ok-p.was in
    reads-exit _ c.from_residual-in_err-q.ensures.1
    (function-stops-2 _ _ fs _ (sym (free-is-new _ _ _ _ h) ∙ a.is) (reads-not c.read_cost.ensures c.in_err-q.was))

pub read_flags-requires-clause-at_bound : goal.read_flags-requires-clause-at_bound
read_flags-requires-clause-at_bound c =
    let a = reads-done c.read_name.ensures c.in_ok-p.was in
    let b = reads-done c.read_cost.ensures c.in_ok-q.was in
    omega (arith, name-near _ _ _ _ a, cost-near _ _ b, c.requires.at_bound)

pub returns-in_err-t : goal.returns-in_err-t
returns-in_err-t c =
    λ fs h.
    let a = reads-done c.read_name.ensures c.in_ok-p.was in
    let b = reads-done c.read_cost.ensures c.in_ok-q.was in
    reads-exit _ c.from_residual-in_err-t.ensures.1
    (function-stops-3 _ _ fs _ (sym (free-is-new _ _ _ _ h) ∙ a.is) b.is
    (reads-not c.read_flags.ensures c.in_err-t.was))

pub read_output-requires-clause-at_bound : goal.read_output-requires-clause-at_bound
read_output-requires-clause-at_bound c =
    let a = reads-done c.read_name.ensures c.in_ok-p.was in
    let b = reads-done c.read_cost.ensures c.in_ok-q.was in
    let f = reads-done c.read_flags.ensures c.in_ok-t.was in
    omega (arith, name-near _ _ _ _ a, cost-near _ _ b, flags-near _ _ f, c.requires.at_bound)

pub returns-in_err-u : goal.returns-in_err-u
returns-in_err-u c =
    λ fs h.
    let a = reads-done c.read_name.ensures c.in_ok-p.was in
    let b = reads-done c.read_cost.ensures c.in_ok-q.was in
    let f = reads-done c.read_flags.ensures c.in_ok-t.was in
    reads-exit _ c.from_residual-in_err-u.ensures.1
    (function-stops-4 _ _ fs _ (sym (free-is-new _ _ _ _ h) ∙ a.is) b.is f.is
    (reads-not c.read_output.ensures c.in_err-u.was))

pub read_arguments-requires-clause-at_bound : goal.read_arguments-requires-clause-at_bound
read_arguments-requires-clause-at_bound c =
    let a = reads-done c.read_name.ensures c.in_ok-p.was in
    let b = reads-done c.read_cost.ensures c.in_ok-q.was in
    let f = reads-done c.read_flags.ensures c.in_ok-t.was in
    let d = reads-done c.read_output.ensures c.in_ok-u.was in
    omega (arith, name-near _ _ _ _ a, cost-near _ _ b, flags-near _ _ f, output-near _ _ _ d, c.requires.at_bound)

pub returns : goal.returns
returns c =
    λ fs h.
    let a = reads-done c.read_name.ensures c.in_ok-p.was in
    let b = reads-done c.read_cost.ensures c.in_ok-q.was in
    let f = reads-done c.read_flags.ensures c.in_ok-t.was in
    let d = reads-done c.read_output.ensures c.in_ok-u.was in
    let n : c.args.n ≤ length
    c.args.sorts.now.kinds = omega (arith, c.requires.n_bound.0, c.requires.n_bound.1) in
    reads-via (function_of a.what b.what f.what d.what)
    (function-ends _ _ fs _ (sym (free-is-new _ _ _ _ h) ∙ a.is) b.is f.is d.is (length-take-le _ _ n))
    c.read_arguments.ensures
    (λ arguments k e g.
    record {
      names_put = a.has.put;
      declared_put = b.has.declared_put;
      costs_put = b.has.costs_put;
      unextractable_put = f.has.unextractable_put;
      hidden_put = f.has.hidden_put;
      outputs_put = d.has.put;
      arities_put = g.arities_put;
      arguments_put = g.arguments_put;
    })
