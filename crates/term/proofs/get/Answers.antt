-- `term::get` meets its contract. The store and the number are checked, then the record is read. Assumes nothing.
use Prim.Native.Nat.{ℕ, ◌<◌, ◌≤◌}
use mathlib.Core.Path.{◌≡◌, ap, ◌∙◌}
use borrow.Author.Tests.{lt-ltb, le-ltb}
use Rattle.std.proofs.lemmas.Result.{err_from_is_err_and}
use Rattle.term_rules.specs.declared.Term.{Term}
use Rattle.term_rules.specs.Lent.{Store, record_at}
use Rattle.term_layout.specs.Sound.{lent_of, store_of}
use Rattle.term.specs.Answers.{given}
use Rattle.term.proofs.CallLaws.{unless-yes, unless-no, of-lent, in-records, get-then, get-refuses, get-given}
use Rattle.term.proofs.get.Goals as goal

pub returns-in_err-store : goal.returns-in_err-store
returns-in_err-store c =
    let g = c.args in
    let s = lent_of g.lent.now in
    let p = err_from_is_err_and c.from_residual.result c.from_residual.ensures.1 in
    rw (p.1, p.2) (get-refuses s g.i _ (get-then s g.i _ c.in_err-store.ensures.faults))

pub returns-then-store-i : goal.returns-then-store-i
returns-then-store-i c =
    let g = c.args in
    let s = lent_of g.lent.now in
    let n = ap (λ (x : Store). x.terms) c.in_ok-store.ensures.same in
    get-refuses s g.i _
    (unless-no _ _ _ (le-ltb _ _ (rw n at c.if-store-i.true)) ∙ get-then s g.i _ c.in_ok-store.ensures.faults)

pub record_at-requires : goal.record_at-requires
record_at-requires c =
    in-records (store_of c.in_ok-store.store) c.in_ok-store.store.sound c.args.i c.if-store-i.false

pub returns : goal.returns
returns c =
    let g = c.args in
    let s = lent_of g.lent.now in
    let n = ap (λ (x : Store). x.terms) c.in_ok-store.ensures.same in
    ap (λ (t : Term). (given tt, t))
    (of-lent (λ (x : Store). record_at x g.i) c.record_at.ensures c.in_ok-store.ensures.same)
    ∙ get-given s g.i
    (unless-yes _ _ _ (lt-ltb _ _ (rw n at c.if-store-i.false)) ∙ get-then s g.i _ c.in_ok-store.ensures.faults)
