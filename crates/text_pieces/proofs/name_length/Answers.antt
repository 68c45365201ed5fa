-- `text_pieces::name_length` meets its contract. Assumes nothing.
use Prim.Native.Nat.{ℕ, ◌+◌}
use mathlib.Core.Path.{sym, ap, ◌∙◌}
use lib.ListN.{length}
use Rattle.text_pieces.specs.Pieces.{capped}
use Rattle.text_pieces.proofs.PieceLaws.{name_text-length}
use Rattle.text_pieces.proofs.name_length.Goals as goal

pub returns : goal.returns
returns c =
    let a = c.args in
    c.add.ensures
    ∙ ap capped
    (ap (λ (x : ℕ). length a.spelling.now.stem.now + x) c.count_length.ensures
    ∙ sym (name_text-length a.spelling.now.stem.now a.spelling.now.start a.spelling.now.bare a.k))
