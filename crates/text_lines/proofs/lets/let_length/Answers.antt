-- `lets::let_length` meets its contract: the lines, a newline, and the root. Assumes nothing.
use Prim.Native.Nat.{ℕ, ◌+◌, ◌-◌}
use mathlib.Core.Path.{sym, ap, ◌∙◌}
use mathlib.Core.List.{List}
use lib.ListN.{length}
use Rattle.text_pieces.specs.Pieces.{capped}
use Rattle.text_write.specs.Piece.{body}
use Rattle.text_lines.specs.Lines.{lines_to}
use Rattle.text_lines.proofs.lets.WholeLaws.{whole_text-length, whole-measured}
use Rattle.text_lines.proofs.SeenLaws.{seen, own-piece}
use native.Mathlib.Omega.{arith}
use Rattle.text_lines.proofs.lets.let_length.Goals as goal

pub returns : goal.returns
returns c =
    let v = seen c.args.page.now in
    whole-measured
    (length
    (lines_to v c.args.page.now.nodes.records.now c.args.page.now.wides.now c.args.bindings.now.terms.now
    c.args.bindings.now.indents.now
    c.args.bindings.now.count))
    (length (body v 0 0 (c.args.page.now.nodes.n - 1))) c.lines_length-lines.result
    c.add.result c.add-2.result c.lines_length-lines.ensures
    c.add.ensures (c.add-2.ensures
    ∙ ap (λ (x : ℕ). capped (c.add.result + x))
    (c.text_length-root.ensures ∙ ap (λ (x : List ℕ). capped (length x)) (own-piece c.args.page.now 0 0
    (c.args.page.now.nodes.n - 1) (omega (arith, c.requires.n_nonzero)))))
    ∙ ap capped
    (sym
    (whole_text-length v c.args.page.now.nodes.records.now c.args.page.now.wides.now c.args.bindings.now.terms.now
    c.args.bindings.now.indents.now c.args.page.now.nodes.n c.args.bindings.now.count))
