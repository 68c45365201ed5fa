-- `text::check_term` meets its contract: the store's test, and then the term's. Assumes nothing.
use mathlib.Core.Path.{sym, ap, ◌∙◌}
use Rattle.std.proofs.lemmas.Result.{err_from_is_err_and}
use Rattle.term_rules.specs.Lent.{Store as Stored}
use Rattle.term_layout.specs.Sound.{lent_of}
use Rattle.term_rules.specs.WellFormed.{well_formed}
use Rattle.text.proofs.ToldLaws.{plain-store-refuses, plain-term-refuses}
use Rattle.text.proofs.LetToldLaws.{let-store-refuses, let-term-refuses}
use Rattle.text.proofs.check_term.Goals as goal

pub returns-in_err-store-clause-checked : goal.returns-in_err-store-clause-checked
returns-in_err-store-clause-checked c =
    let g = c.args in
    let s = lent_of g.lent.now in
    let b = c.in_err-store.ensures.bad in
    let p = err_from_is_err_and c.from_residual.result c.from_residual.ensures.1 in
    rw (p.1, p.2, b.0) (record {
      plain = λ out. plain-store-refuses s g.term out b.1;
      lets = λ nm out. let-store-refuses s nm g.term out b.1;
    })

pub returns-then-store-term-clause-checked : goal.returns-then-store-term-clause-checked
returns-then-store-term-clause-checked c =
    let g = c.args in
    let s = lent_of g.lent.now in
    let e = ap (λ (x : Stored). well_formed x) (sym c.in_ok-store.ensures.same) ∙ c.in_ok-store.store.sound in
    let n = ap (λ (x : Stored). x.terms) c.in_ok-store.ensures.same in
    record {
      plain = λ out. plain-term-refuses s g.term out e (rw n at c.if-store-term.true);
      lets = λ nm out. let-term-refuses s nm g.term out e (rw n at c.if-store-term.true);
    }

pub returns-clause-checked : goal.returns-clause-checked
returns-clause-checked c =
    let n = ap (λ (x : Stored). x.terms) c.in_ok-store.ensures.same in
    record {
      formed = ap (λ (x : Stored). well_formed x) (sym c.in_ok-store.ensures.same) ∙ c.in_ok-store.store.sound;
      known = rw n at c.if-store-term.false;
    }
