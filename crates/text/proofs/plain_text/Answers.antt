-- `text::plain_text` meets its contract: the refusals of the check, and then the text. Assumes nothing.
use mathlib.Core.Path.{sym, ap, ◌∙◌}
use Rattle.text_whole.specs.Placed.{plain_placed}
use Rattle.term_rules.specs.Lent.{Store as Stored}
use Rattle.std.proofs.lemmas.Result.{err_from_is_err_and}
use Rattle.term_layout.specs.Sound.{lent_of}
use Rattle.text.proofs.ToldLaws.{plain-placed}
use Rattle.text.proofs.plain_text.Goals as goal

pub returns-in_err-store : goal.returns-in_err-store
returns-in_err-store c =
    let p = err_from_is_err_and c.from_residual.result c.from_residual.ensures.1 in
    rw (p.1, p.2) (sym (c.in_err-store.ensures.checked.plain c.args.out.now))

pub plain_of-requires : goal.plain_of-requires
plain_of-requires c =
    let n = ap (λ (x : Stored). x.terms) c.in_ok-store.ensures.same in
    record { term_lt_terms = rw (← n) at c.in_ok-store.ensures.checked.known }

pub returns : goal.returns
returns c =
    let g = c.args in
    let h = c.in_ok-store.ensures.checked in
    c.plain_of.ensures
    ∙ ap (λ (s : Stored). plain_placed s g.term g.out.now) c.in_ok-store.ensures.same
    ∙ sym
    (plain-placed (lent_of g.lent.now) g.term g.out.now h.formed h.known)
