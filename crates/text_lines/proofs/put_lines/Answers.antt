-- `text_lines::put_lines` meets its contract: the lines passed stand. Assumes nothing.
use Rattle.text_write.specs.Seen.{view_of}
use Rattle.text_lines.proofs.LineLaws.{lining-none, lining-place, lining-fits, lining-again, lining-end}
use native.Mathlib.Omega.{arith}
use Rattle.text_lines.proofs.put_lines.Goals as goal

pub loop-k-init : goal.loop-k-init
loop-k-init c =
    let v =
    view_of c.args.page.now 80 in
    lining-none v c.args.page.now.nodes.records.now c.args.page.now.wides.now c.args.bindings.now.terms.now
    c.args.bindings.now.indents.now
    c.args.bindings.now.count c.args.out.now

pub slice_bounds-put_line-count : goal.slice_bounds-put_line-count
slice_bounds-put_line-count c =
    let v =
    view_of c.args.page.now 80 in
    let l = c.loop-k in
    lining-place v c.args.page.now.nodes.records.now c.args.page.now.wides.now c.args.bindings.now.terms.now
    c.args.bindings.now.indents.now
    c.args.bindings.now.count c.args.out.now l.out l.p l.k l.invariant c.requires.m_in_bounds

pub slice_bounds-put_line-start : goal.slice_bounds-put_line-start
slice_bounds-put_line-start c =
    let v =
    view_of c.args.page.now 80 in
    let l = c.loop-k in
    lining-place v c.args.page.now.nodes.records.now c.args.page.now.wides.now c.args.bindings.now.terms.now
    c.args.bindings.now.indents.now
    c.args.bindings.now.count c.args.out.now l.out l.p l.k l.invariant c.requires.m_in_bounds

pub put_line-p-requires : goal.put_line-p-requires
put_line-p-requires c =
    let v =
    view_of c.args.page.now 80 in
    let l = c.loop-k in
    record {
      t_lt_n = c.requires.bundle.known l.k c.loop-k-test.true;
      t_bound = c.requires.bundle.deep l.k c.loop-k-test.true;
      k_bound = omega (arith, c.requires.bundle.low, c.loop-k-test.true);
      k_in_bounds = lining-fits v c.args.page.now.nodes.records.now c.args.page.now.wides.now
          c.args.bindings.now.terms.now
          c.args.bindings.now.indents.now
          c.args.bindings.now.count c.args.out.now l.out l.p l.k l.invariant c.requires.m_in_bounds
          c.loop-k-test.true;
    }

pub loop-k-preserved : goal.loop-k-preserved
loop-k-preserved c =
    let v =
    view_of c.args.page.now 80 in
    let l = c.loop-k in
    lining-again v c.args.page.now.nodes.records.now c.args.page.now.wides.now c.args.bindings.now.terms.now
    c.args.bindings.now.indents.now
    c.args.bindings.now.count c.args.out.now l.out l.p l.k l.invariant c.requires.m_in_bounds
    c.loop-k-test.true
    c.put_line-p.new.out c.put_line-p.result c.put_line-p.ensures

pub returns : goal.returns
returns c =
    let v =
    view_of c.args.page.now 80 in
    let l = c.loop-k in
    lining-end v c.args.page.now.nodes.records.now c.args.page.now.wides.now c.args.bindings.now.terms.now
    c.args.bindings.now.indents.now
    c.args.bindings.now.count c.args.out.now l.out l.p l.k l.invariant c.requires.m_in_bounds c.loop-k-test.false
