-- `text_lines::put_lines` meets its contract: the lines passed stand. Assumes nothing.
use Rattle.text_write.specs.Seen.{view_of}
use Rattle.text_lines.proofs.LineLaws.{Lining}
use Rattle.text_lines.proofs.put_lines.Given as goal

abbrev pub invariant-loop-k : goal.invariant-loop-k
invariant-loop-k l = Lining (view_of l.page 80) l.page.nodes.records.now l.page.wides.now l.bindings.terms.now
    l.bindings.indents.now l.bindings.count l.initial.out l.out l.p l.k
