-- `text_lines::lines_length` meets its contract: the lines passed are summed. Assumes nothing.
use mathlib.Core.Path.{ap}
use lib.ListN.{length}
use Rattle.text_write.specs.Seen.{view_of}
use Rattle.text_lines.proofs.LineLaws.{lines_to-none, lines-measured}
use native.Mathlib.Omega.{arith}
use Rattle.text_lines.proofs.lines_length.Goals as goal

pub loop-k-init : goal.loop-k-init
loop-k-init c =
    let v =
    view_of c.args.page.now 80 in
    let z =
    ap length (lines_to-none v c.args.page.now.nodes.records.now c.args.page.now.wides.now
    c.args.bindings.now.terms.now
    c.args.bindings.now.indents.now) in
    omega (arith, z)

pub loop-k-preserved : goal.loop-k-preserved
loop-k-preserved c =
    let v =
    view_of c.args.page.now 80 in
    let l = c.loop-k in
    lines-measured v c.args.page.now.nodes.records.now c.args.page.now.wides.now c.args.bindings.now.terms.now
    c.args.bindings.now.indents.now
    l.k l.acc c.line_length-long.result c.add-acc.result l.invariant
    c.line_length-long.ensures c.add-acc.ensures
