-- `functions::read_functions` meets its contract: the functions read so far stand in the arrays, and the rest of the
-- reading is that of the whole. Assumes nothing.
use lib.ListN.{take}
use Rattle.file_reader.proofs.functions.FunctionLoop.{Functions-read}
use Rattle.file_reader.proofs.functions.read_functions.Given as goal

abbrev pub invariant-loop-i : goal.invariant-loop-i
invariant-loop-i l =
    Functions-read l.s (take l.n l.sorts.kinds) l.at l.count l.functions.names l.functions.declared l.functions.costs
    l.functions.unextractable l.functions.hidden l.functions.outputs l.functions.arities l.functions.arguments l.p l.i
