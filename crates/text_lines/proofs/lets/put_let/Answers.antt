-- `lets::put_let` meets its contract: the lines, a newline, and the root after it. Assumes nothing.
use Prim.Native.Nat.{ℕ, ◌+◌, ◌-◌, ◌≤◌}
use mathlib.Core.List.{List}
use lib.ListN.{length}
use Rattle.text_write.specs.declared.page.Page.{Page}
use Rattle.text_write.specs.Piece.{body}
use Rattle.text_lines.specs.declared.Bindings.{Bindings}
use Rattle.text_lines.specs.Lines.{lines_to}
use Rattle.text_lines.specs.Whole.{whole_text}
use Rattle.text_lines.proofs.lets.WholeLaws.{
  whole_text-is,
  whole_text-length,
  byte-place,
  tail-place,
  tail-fits,
  end-wrote,
}
use Rattle.text_lines.proofs.SeenLaws.{seen, own-piece}
use native.Mathlib.Omega.{arith}
use Rattle.text_lines.proofs.lets.put_let.Goals as goal

module _ (p : Page) where
  module _ (b : Bindings) where
    abbrev lines : List ℕ
    lines = lines_to (seen p) p.nodes.records.now p.wides.now b.terms.now b.indents.now b.count

    abbrev root : List ℕ
    root = body (seen p) 0 0 (p.nodes.n - 1)

    room : (o : List ℕ) → length (whole_text (seen p) p.nodes.records.now p.wides.now b.terms.now b.indents.now
        p.nodes.n b.count) ≤ length o → length lines + 1 + length root ≤ length o
    room o fits = omega (
      arith,
      fits,
      whole_text-length (seen p) p.nodes.records.now p.wides.now b.terms.now
          b.indents.now p.nodes.n b.count,
    )

pub put_lines-p-requires : goal.put_lines-p-requires
put_lines-p-requires c =
    record {
      bundle = c.requires.bundle;
      m_in_bounds = omega (arith, room c.args.page.now c.args.bindings.now c.args.out.now c.requires.m_in_bounds);
    }

pub bounds-out-p : goal.bounds-out-p
bounds-out-p c =
    let lines-text = lines c.args.page.now c.args.bindings.now in
    let root-text = root c.args.page.now c.args.bindings.now in
    byte-place c.args.out.now lines-text root-text 10 (room c.args.page.now c.args.bindings.now c.args.out.now
    c.requires.m_in_bounds) c.put_lines-p.new.out
    c.put_lines-p.result c.put_lines-p.ensures

pub slice_bounds-put-count : goal.slice_bounds-put-count
slice_bounds-put-count c =
    let lines-text = lines c.args.page.now c.args.bindings.now in
    let root-text = root c.args.page.now c.args.bindings.now in
    tail-place c.args.out.now lines-text root-text 10 (room c.args.page.now c.args.bindings.now c.args.out.now
    c.requires.m_in_bounds) c.put_lines-p.new.out
    c.put_lines-p.result c.put_lines-p.ensures

pub slice_bounds-put-start : goal.slice_bounds-put-start
slice_bounds-put-start c =
    let lines-text = lines c.args.page.now c.args.bindings.now in
    let root-text = root c.args.page.now c.args.bindings.now in
    tail-place c.args.out.now lines-text root-text 10 (room c.args.page.now c.args.bindings.now c.args.out.now
    c.requires.m_in_bounds) c.put_lines-p.new.out
    c.put_lines-p.result c.put_lines-p.ensures

pub put-requires : goal.put-requires
put-requires c =
    let lines-text = lines c.args.page.now c.args.bindings.now in
    let root-text = root c.args.page.now c.args.bindings.now in
    record {
      t_lt_n = omega (arith, c.requires.n_nonzero);
      t_bound = omega (arith, c.args.page.now.sheet.readable.few);
      t_in_bounds = rw (own-piece c.args.page.now 0 0 (c.args.page.now.nodes.n - 1) (omega (
        arith,
        c.requires.n_nonzero,
      )))
          (tail-fits c.args.out.now lines-text root-text 10 (room c.args.page.now c.args.bindings.now c.args.out.now
          c.requires.m_in_bounds)
          c.put_lines-p.new.out c.put_lines-p.result
          c.put_lines-p.ensures);
    }

pub returns : goal.returns
returns c =
    let lines-text = lines c.args.page.now c.args.bindings.now in
    let root-text = root c.args.page.now c.args.bindings.now in
    rw
    (whole_text-is (seen c.args.page.now) c.args.page.now.nodes.records.now c.args.page.now.wides.now
    c.args.bindings.now.terms.now c.args.bindings.now.indents.now
    c.args.page.now.nodes.n c.args.bindings.now.count)
    (end-wrote c.args.out.now lines-text root-text 10 (room c.args.page.now c.args.bindings.now c.args.out.now
    c.requires.m_in_bounds)
    c.put_lines-p.new.out
    c.put_lines-p.result
    c.put_lines-p.ensures c.put.new.out
    c.put.result (rw (own-piece c.args.page.now 0 0 (c.args.page.now.nodes.n - 1) (omega (
      arith,
      c.requires.n_nonzero,
    ))) at c.put.ensures))
