-- `widths::shown_width` meets its contract. Assumes nothing.
use Prim.Native.Nat.{ℕ, ◌-◌}
use mathlib.Core.Path.{sym, ap, ◌∙◌}
use mathlib.Core.List.{List}
use lib.ListN.{length, get_or}
use Rattle.text_rules.specs.Forms.{Called, shown}
use Rattle.text_pieces.specs.Pieces.{capped, name_text}
use Rattle.text_write.proofs.widths.WidthLaws.{called_by-named, called_by-text, shown-of-name, shown-of-text}
use native.Mathlib.Omega.{arith}
use Rattle.text_write.proofs.widths.shown_width.Goals as goal

pub returns-then-b-gt0 : goal.returns-then-b-gt0
returns-then-b-gt0 c =
    let a = c.args in
    record {
      right =
          λ text e.
          c.name_length.ensures
          ∙ ap (λ (x : List ℕ). capped (length x))
          (sym (shown-of-name (name_text a.spelling.now.stem.now a.spelling.now.start a.spelling.now.bare (get_or
          a.places.now a.k 0 - 1)) text)
          ∙ ap (λ (x : Called). shown x text)
          (sym (called_by-named a.places.now a.spelling.now.stem.now a.spelling.now.start a.spelling.now.bare a.k
          c.if-b-gt0.true)));
    }

pub returns : goal.returns
returns c =
    let a = c.args in
    record {
      right =
          λ text e.
          e
          ∙ ap (λ (x : List ℕ). capped (length x))
          (sym (shown-of-text text)
          ∙ ap (λ (x : Called). shown x text)
          (sym (called_by-text a.places.now a.spelling.now.stem.now a.spelling.now.start a.spelling.now.bare a.k
          (omega (arith, c.if-b-gt0.false)))));
    }
