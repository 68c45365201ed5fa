-- `term_one::add_one` meets its contract, by the kind of the add. Assumes nothing.
use Prim.Native.Nat.{ℕ, ◌<◌}
use mathlib.Core.Path.{sym, ◌∙◌}
use mathlib.Core.List.{List}
use native.Mathlib.Omega.{arith}
use Rattle.std.proofs.Common.{rules}
use lib.IntN.{ℤ, pos}
use lib.ListN.{get_or, take}
use mir.Syntax.{w64}
use mir.ValLaws.{to_z-of_z}
use Rattle.std.proofs.lemmas.Result.{err_from_is_err_and}
use Rattle.refusal.specs.declared.Refusal.TheVariants.{Short, BadValue}
use Rattle.term_rules.specs.Lent.{kind_at}
use Rattle.term_rules.specs.Nodes.{variable, application}
use Rattle.term_one.specs.Wanted.{wanted_of, asked_at, kids_of}
use Rattle.term_one.proofs.AskedLaws.{
  valued-short,
  valued-node,
  asked-literal,
  asked-variable,
  asked-application,
  asked-other,
  one-fault,
  one-literal,
  one-variable,
  one-application,
}
use Rattle.term_add.specs.Held.{held}
use Rattle.term_one.proofs.add_one.Goals as goal

pub returns-then-list-e-clause-added : goal.returns-then-list-e-clause-added
returns-then-list-e-clause-added c =
    let g = c.args in
    let s = held g.store.now in
    let w = wanted_of g.list.now in
    one-fault s (take g.e g.got.now) (asked_at w g.e) Short
    (asked-literal w g.e (sym c.kind_of.ensures ∙ c.in-0.is) ∙ valued-short g.list.now.values.now g.e c.if-list-e.true)

pub returns-else-list-e-clause-added : goal.returns-else-list-e-clause-added
returns-else-list-e-clause-added c =
    let g = c.args in
    let s = held g.store.now in
    let w = wanted_of g.list.now in
    let z : ℤ = get_or g.list.now.values.now g.e (pos 0) in
    rw (to_z-of_z w64 z (record { sfits = search rules })) at c.literal.ensures.added
    ∙ one-literal s (take g.e g.got.now) (asked_at w g.e) z
    (asked-literal w g.e (sym c.kind_of.ensures ∙ c.in-0.is) ∙ valued-node g.list.now.values.now g.e c.if-list-e.false)

pub returns-in_err-label-in-1-clause-added : goal.returns-in_err-label-in-1-clause-added
returns-in_err-label-in-1-clause-added c =
    let g = c.args in
    let s = held g.store.now in
    let w = wanted_of g.list.now in
    let p = err_from_is_err_and c.from_residual.result c.from_residual.ensures.1 in
    rw (p.1, p.2)
    (one-fault s (take g.e g.got.now) (asked_at w g.e) _
    (asked-variable w g.e (sym c.kind_of.ensures ∙ c.in-1.is) ∙ c.in_err-label-in-1.ensures variable))

pub returns-in_ok-label-in-1-clause-added : goal.returns-in_ok-label-in-1-clause-added
returns-in_ok-label-in-1-clause-added c =
    let g = c.args in
    let s = held g.store.now in
    let w = wanted_of g.list.now in
    c.variable.ensures.added
    ∙ one-variable s (take g.e g.got.now) (asked_at w g.e) _
    (asked-variable w g.e (sym c.kind_of.ensures ∙ c.in-1.is) ∙ c.in_ok-label-in-1.ensures variable)

pub returns-in_err-label-in-2-clause-added : goal.returns-in_err-label-in-2-clause-added
returns-in_err-label-in-2-clause-added c =
    let g = c.args in
    let s = held g.store.now in
    let w = wanted_of g.list.now in
    let q = c.from_residual-in_err-label-in-2 in
    let p = err_from_is_err_and q.result q.ensures.1 in
    rw (p.1, p.2)
    (one-fault s (take g.e g.got.now) (asked_at w g.e) _
    (asked-application w g.e (sym c.kind_of.ensures ∙ c.in-2.is)
    ∙ c.in_err-label-in-2.ensures (λ (n : List ℕ). application n (kids_of g.list.now.adds.now g.e))))

pub returns-in_ok-label-in-2-clause-added : goal.returns-in_ok-label-in-2-clause-added
returns-in_ok-label-in-2-clause-added c =
    let g = c.args in
    let s = held g.store.now in
    let w = wanted_of g.list.now in
    c.application.ensures.added
    ∙ one-application s (take g.e g.got.now) (asked_at w g.e) _ (kids_of g.list.now.adds.now g.e)
    (asked-application w g.e (sym c.kind_of.ensures ∙ c.in-2.is)
    ∙ c.in_ok-label-in-2.ensures (λ (n : List ℕ). application n (kids_of g.list.now.adds.now g.e)))

pub returns-in_default-clause-added : goal.returns-in_default-clause-added
returns-in_default-clause-added c =
    let g = c.args in
    let s = held g.store.now in
    let w = wanted_of g.list.now in
    let h : 2 < kind_at g.list.now.adds.now g.e = omega (arith, c.kind_of.ensures) in
    one-fault s (take g.e g.got.now) (asked_at w g.e) BadValue (asked-other w g.e h)
