-- `text_whole::put_plain` meets its contract: the length first, then the bytes. Assumes nothing.
use Prim.Native.Nat.{ℕ, ◌≤◌, ◌<◌}
use mathlib.Core.Path.{◌≡◌, sym, ap, ◌∙◌}
use mathlib.Core.Bool.{false}
use mathlib.Core.List.{List, []}
use lib.ListN.{length, get_or}
use Rattle.text_rules.specs.PlainText.{plain_line}
use Rattle.text_pieces.specs.Pieces.{capped}
use Rattle.text_pieces.specs.Read.{nodes_of}
use Rattle.text_pieces.specs.declared.nodes.Nodes.{Nodes}
use Rattle.text_write.specs.Piece.{piece, view, Sheet}
use Rattle.text_write.specs.Widths.{called_by, Widths}
use Rattle.text_whole.specs.Placed.{written, refusal, told, Zeros}
use Rattle.text_whole.proofs.PlacedLaws.{placed-fits, placed-refuses}
use Rattle.text_whole.proofs.PlainLaws.{plain-tables, plain-wide, plain-sheet, plain-piece}
use native.Mathlib.Omega.{arith}
use Rattle.text_whole.proofs.put_plain.Goals as goal

module _ (s : Nodes) (ps : List ℕ) (z : Zeros ps) (t : ℕ) (k : t < s.n) where
  abbrev plain : List ℕ
  plain = plain_line (nodes_of s) t

  -- what the table of lengths tells, whatever list it is now
  module _ (ws : List ℕ) (w : Widths (nodes_of s) (called_by ps [] 0 false) ws s.n) where
    wide : get_or ws t 0 ≡ capped (length plain)
    wide = plain-wide s.records.now s.literals.now s.names.now ps [] s.n s.readable z ws w t k

    sheet : s.n ≤ length ps → s.n ≤ length ws → Sheet s.records.now s.literals.now s.names.now ps ws s.n 0
    sheet l m = plain-sheet s.records.now s.literals.now s.names.now ps [] s.n s.readable z ws w l m

    text :
        piece (view s.records.now s.literals.now s.names.now ps ws [] 0 false 18446744073709551615) 0 0 0 t ≡ plain
    text = plain-piece s.records.now s.literals.now s.names.now ps [] s.n s.readable z ws w t k

pub widths-requires : goal.widths-requires
widths-requires c =
    plain-tables c.args.nodes.now.records.now c.args.nodes.now.literals.now c.args.nodes.now.names.now
    c.args.places.now
    [] c.args.nodes.now.n c.args.nodes.now.readable c.requires.zeros c.args.wides.now c.requires.n_in_bounds.0
    c.requires.n_in_bounds.1

pub returns-then-out-wides : goal.returns-then-out-wides
returns-then-out-wides c =
    sym
    (placed-refuses (plain c.args.nodes.now c.args.places.now c.requires.zeros c.args.t c.requires.t_lt_n) (written
    (length (plain c.args.nodes.now c.args.places.now c.requires.zeros c.args.t c.requires.t_lt_n))) (refusal
    13) c.args.out.now
    (omega (
      arith,
      c.if-out-wides.true,
      wide c.args.nodes.now c.args.places.now c.requires.zeros c.args.t
          c.requires.t_lt_n c.widths.new.wides c.widths.ensures,
    )))

pub put-requires : goal.put-requires
put-requires c =
    record {
      t_lt_n = c.requires.t_lt_n;
      t_bound = omega (arith, c.args.nodes.now.readable.few, c.requires.t_lt_n);
      t_in_bounds = rw (text c.args.nodes.now c.args.places.now c.requires.zeros c.args.t c.requires.t_lt_n
          c.widths.new.wides c.widths.ensures)
          (omega (
            arith,
            c.if-out-wides.false,
            wide c.args.nodes.now c.args.places.now c.requires.zeros c.args.t c.requires.t_lt_n c.widths.new.wides
                c.widths.ensures,
          ));
    }

pub returns : goal.returns
returns c =
    let w = rw (text c.args.nodes.now c.args.places.now c.requires.zeros c.args.t c.requires.t_lt_n
    c.widths.new.wides c.widths.ensures) at c.put.ensures in
    let fits : length (plain c.args.nodes.now c.args.places.now c.requires.zeros c.args.t c.requires.t_lt_n) ≤
    length c.args.out.now =
    omega (
      arith,
      c.if-out-wides.false,
      wide c.args.nodes.now c.args.places.now c.requires.zeros c.args.t
          c.requires.t_lt_n c.widths.new.wides c.widths.ensures,
    ) in
    ap (λ (n : ℕ). told (written n) c.put.new.out) w.long
    ∙ (ap (λ (o : List ℕ). told (written (length (plain c.args.nodes.now c.args.places.now c.requires.zeros c.args.t
    c.requires.t_lt_n))) o) w.bytes
    ∙ sym (placed-fits (plain c.args.nodes.now c.args.places.now c.requires.zeros c.args.t c.requires.t_lt_n)
    (written (length (plain c.args.nodes.now c.args.places.now c.requires.zeros c.args.t c.requires.t_lt_n)))
    (refusal 13) c.args.out.now fits))
