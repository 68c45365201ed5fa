-- `text_lines::line_length` meets its contract: the pieces of a line are summed. Assumes nothing.
use Prim.Native.Nat.{ℕ, ◌+◌}
use mathlib.Core.Path.{◌≡◌, sym, ap, ◌∙◌}
use mathlib.Core.List.{List}
use lib.ListN.{length}
use lib.Dec.{ltb}
use Rattle.text_pieces.specs.Pieces.{capped, gap_text}
use Rattle.text_write.specs.Piece.{body}
use Rattle.text_lines.specs.Lines.{body_width}
use Rattle.text_lines.proofs.LineLaws.{line_text-length, line-measured}
use Rattle.text_lines.proofs.SeenLaws.{seen, own-piece}
use Rattle.text_lines.proofs.line_length.Goals as goal

gap_is :
    {x r w : ℕ} →
    w ≡ x →
    r ≡ length (gap_text (ltb 80 w) 2) →
    r ≡ length (gap_text (ltb 80 x) 2)
gap_is e g = g ∙ ap (λ (x : ℕ). length (gap_text (ltb 80 x) 2)) e

pub returns : goal.returns
returns c =
    let v = seen c.args.page.now in
    line-measured (length (v.name c.args.k)) (length (gap_text (ltb 80 (body_width c.args.page.now.nodes.records.now
    c.args.page.now.wides.now c.args.i c.args.t)) 2))
    (length (body v 2 c.args.i c.args.t))
    c.add-opened.result c.add.result
    c.add-2.result c.add-3.result
    (c.add-opened.ensures ∙ ap (λ (x : ℕ). capped (5 + x))
    c.name_length.ensures)
    (c.add.ensures
    ∙ ap (λ (x : ℕ). capped (c.add-opened.result + x))
    (gap_is
    c.body_width.ensures
    c.gap_length-gap.ensures))
    (c.add-2.ensures
    ∙ ap (λ (x : ℕ). capped (c.add.result + x))
    (c.text_length-body.ensures ∙ ap (λ (x : List ℕ). capped (length x)) (own-piece c.args.page.now 2 c.args.i
    c.args.t c.requires.t_lt_n)))
    c.add-3.ensures
    ∙ ap capped
    (sym (line_text-length v c.args.page.now.nodes.records.now c.args.page.now.wides.now c.args.i
    c.args.t c.args.k))
