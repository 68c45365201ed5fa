-- `term::sort` meets its contract. The store and the list are checked, then the list is sorted. Assumes nothing.
use Prim.Native.Nat.{ℕ}
use mathlib.Core.Path.{ap, ◌∙◌}
use mathlib.Core.List.{List}
use Rattle.std.proofs.lemmas.Result.{err_from_is_err_and}
use Rattle.term_rules.specs.Lent.{Store}
use Rattle.order.specs.Sort.{sorted}
use Rattle.term_order.specs.TreeOrder.{at_most}
use Rattle.term_layout.specs.Sound.{lent_of, store_of}
use Rattle.term.specs.Answers.{given}
use Rattle.term.specs.Calls.{terms_faults}
use Rattle.term.proofs.CallLaws.{of-lent, within-of-below, sort-then, sort-refuses, sort-given}
use Rattle.term.proofs.sort.Goals as goal

pub returns-in_err-store : goal.returns-in_err-store
returns-in_err-store c =
    let g = c.args in
    let s = lent_of g.lent.now in
    let p = err_from_is_err_and c.from_residual.result c.from_residual.ensures.1 in
    rw (p.1, p.2) (sort-refuses s g.list.now _ (sort-then s g.list.now _ c.in_err-store.ensures.faults))

pub returns-in_err-check_terms : goal.returns-in_err-check_terms
returns-in_err-check_terms c =
    let g = c.args in
    let s = lent_of g.lent.now in
    let p = err_from_is_err_and c.from_residual-in_err-check_terms.result c.from_residual-in_err-check_terms.ensures.1 in
    rw (p.1, p.2) (sort-refuses s g.list.now _
    (of-lent (λ (x : Store). terms_faults x.terms g.list.now) c.in_err-check_terms.ensures c.in_ok-store.ensures.same
    ∙ sort-then s g.list.now _ c.in_ok-store.ensures.faults))

pub sort-requires : goal.sort-requires
sort-requires c =
    record { within = within-of-below (store_of c.in_ok-store.store) c.args.list.now c.in_ok-check_terms.ensures }

pub returns : goal.returns
returns c =
    let g = c.args in
    let s = lent_of g.lent.now in
    ap (λ (l : List ℕ). (given tt, l))
    (of-lent (λ (x : Store). sorted (at_most x) g.list.now) c.sort.ensures c.in_ok-store.ensures.same)
    ∙ sort-given s g.list.now
    (of-lent (λ (x : Store). terms_faults x.terms g.list.now) c.in_ok-check_terms.ensures c.in_ok-store.ensures.same
    ∙ sort-then s g.list.now _ c.in_ok-store.ensures.faults)
