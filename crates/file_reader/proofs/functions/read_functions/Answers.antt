-- `functions::read_functions` meets its contract: the functions read so far stand in the arrays, and the rest of the
-- reading is that of the whole. Assumes nothing.
use Prim.Native.Nat.{◌<◌}
use native.Mathlib.Omega.{arith}
use Rattle.file_rules.proofs.ReadingLaws.{reads-done, reads-not, reads-exit, reads-got}
use Rattle.file_reader.proofs.functions.FunctionLoop.{zeros-of, functions-start, functions-names, functions-entries, functions_more, functions-refuse, functions-end}
use Rattle.file_reader.proofs.functions.read_functions.Goals as goal

pub loop-i-init : goal.loop-i-init
loop-i-init c = functions-start (zeros-of c.requires.functions_value)

pub read_function-requires : goal.read_function-requires
read_function-requires c =
    let l = c.loop-i.invariant in
    let b : c.loop-i.i < 128 = omega (arith, c.loop-i-test.true, c.requires.count_bound) in
    record {
      at_bound = omega (arith, l.near, c.requires.at_bound);
      n_bound = c.requires.n_bound;
      i_bound = b;
      entries = functions-entries l b;
    }

pub returns-in_err-p : goal.returns-in_err-p
returns-in_err-p c =
    let l = c.loop-i.invariant in
    reads-exit _ c.from_residual.ensures.1
    (functions-refuse l c.loop-i-test.true
    (reads-not (c.read_function.ensures l.fs (functions-names l)) c.in_err-p.was))

pub loop-i-preserved : goal.loop-i-preserved
loop-i-preserved c =
    let l = c.loop-i.invariant in
    let d = reads-done (c.read_function.ensures l.fs (functions-names l)) c.in_ok-p.was in
    functions_more l c.requires.count_bound c.loop-i-test.true d.is d.has

pub returns : goal.returns
returns c =
    let l = c.loop-i.invariant in
    reads-got (functions-end l c.loop-i-test.false) l.held
