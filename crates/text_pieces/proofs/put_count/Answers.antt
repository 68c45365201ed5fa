-- `text_pieces::put_count` meets its contract. Assumes nothing.
use mathlib.Core.Path.{sym, ◌∙◌}
use mathlib.Core.List.{[]}
use Rattle.decimal.proofs.WrittenLaws.{stands-none, wrote-of-stands}
use Rattle.text_pieces.proofs.PieceLaws.{count_text-bare, count_text-digits}
use Rattle.text_pieces.proofs.put_count.Goals as goal

pub returns-then-is_bare : goal.returns-then-is_bare
returns-then-is_bare c =
    let a = c.args in
    rw (count_text-bare a.bare a.n (sym c.is_bare.ensures ∙ c.if-is_bare.true))
    (wrote-of-stands a.out.now [] a.out.now 0 (stands-none a.out.now))

pub put_digits-requires : goal.put_digits-requires
put_digits-requires c =
    rw (count_text-digits c.args.bare c.args.n
    (sym c.is_bare.ensures ∙ c.if-is_bare.false)) at c.requires

pub returns : goal.returns
returns c =
    let a = c.args in
    rw (count_text-digits a.bare a.n
    (sym c.is_bare.ensures ∙
    c.if-is_bare.false))
    c.put_digits.ensures
