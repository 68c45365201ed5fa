-- `term::compare` meets its contract. The store and the numbers are checked, then the terms are compared. Assumes nothing.
use mathlib.Core.Path.{ap, ◌∙◌}
use borrow.Author.Tests.{lt-ltb}
use Rattle.std.proofs.lemmas.Result.{err_from_is_err_and}
use Rattle.term_rules.specs.Lent.{Store}
use Rattle.term_layout.specs.Sound.{lent_of}
use Rattle.term_order.specs.TreeOrder.{compare_at}
use Rattle.term.specs.Answers.{given}
use Rattle.term.proofs.CallLaws.{unless-yes, either-no, of-lent, compare-then, compare-refuses, compare-given}
use Rattle.term.proofs.compare.Goals as goal

pub returns-in_err-store : goal.returns-in_err-store
returns-in_err-store c =
    let g = c.args in
    let s = lent_of g.lent.now in
    let p = err_from_is_err_and c.from_residual.result c.from_residual.ensures.1 in
    rw (p.1, p.2) (compare-refuses s g.a g.b _ (compare-then s g.a g.b _ c.in_err-store.ensures.faults))

pub returns-then-store-a : goal.returns-then-store-a
returns-then-store-a c =
    let g = c.args in
    let s = lent_of g.lent.now in
    let n = ap (λ (x : Store). x.terms) c.in_ok-store.ensures.same in
    compare-refuses s g.a g.b _
    (either-no g.a g.b s.terms (rw n at c.then-store-a.either) ∙ compare-then s g.a g.b _ c.in_ok-store.ensures.faults)

pub returns : goal.returns
returns c =
    let g = c.args in
    let s = lent_of g.lent.now in
    let n = ap (λ (x : Store). x.terms) c.in_ok-store.ensures.same in
    ap given (of-lent (λ (x : Store). compare_at x g.a g.b) c.compare.ensures c.in_ok-store.ensures.same)
    ∙ compare-given s g.a g.b
    (unless-yes _ _ _ (lt-ltb _ _ (rw n at c.if-store-b.false))
    ∙ unless-yes _ _ _ (lt-ltb _ _ (rw n at c.if-store-a.false))
    ∙ compare-then s g.a g.b _ c.in_ok-store.ensures.faults)
