-- `text::let_text` meets its contract: the refusals of the two checks, and then the text. Assumes nothing.
use mathlib.Core.Path.{sym, ap, ◌∙◌}
use Rattle.term_rules.specs.Lent.{Store as Stored}
use Rattle.std.proofs.lemmas.Result.{err_from_is_err_and}
use Rattle.term_layout.specs.Sound.{lent_of}
use Rattle.text_whole.specs.LetPlaced.{naming_of, let_placed}
use Rattle.text.proofs.LetToldLaws.{let-placed}
use Rattle.text.proofs.let_text.Goals as goal

pub returns-in_err-store : goal.returns-in_err-store
returns-in_err-store c =
    let g = c.args in
    let p = err_from_is_err_and c.from_residual.result c.from_residual.ensures.1 in
    rw (p.1, p.2)
    (sym (c.in_err-store.ensures.checked.lets (naming_of g.naming.now) g.out.now))

pub returns-in_err-check_naming : goal.returns-in_err-check_naming
returns-in_err-check_naming c =
    let g = c.args in
    let s = lent_of g.lent.now in
    let p = err_from_is_err_and c.from_residual-in_err-check_naming.result c.from_residual-in_err-check_naming.ensures.1 in
    rw (p.1, p.2)
    (sym (c.in_err-check_naming.ensures.lets s g.naming.now.bare g.term g.out.now c.in_ok-store.ensures.checked))

pub let_of-requires : goal.let_of-requires
let_of-requires c =
    let h = ap (λ (x : Stored). x.terms) c.in_ok-store.ensures.same in
    let n = c.in_ok-check_naming.ensures in
    record {
      term_lt_terms = rw (← h) at c.in_ok-store.ensures.checked.known;
      prefix_value = (n.prefix_valid, n.hint_valid);
      start_bound = n.start_low;
    }

pub returns : goal.returns
returns c =
    let g = c.args in
    let s = lent_of g.lent.now in
    let h = c.in_ok-store.ensures.checked in
    let n = c.in_ok-check_naming.ensures in
    c.let_of.ensures
    ∙ ap (λ (s : Stored). let_placed s (naming_of g.naming.now) g.term g.out.now) c.in_ok-store.ensures.same
    ∙ sym
    (let-placed s (naming_of g.naming.now) g.term g.out.now h.formed h.known n.prefix_valid n.hint_valid
    n.start_low)
