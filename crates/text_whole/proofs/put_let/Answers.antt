-- `text_whole::put_let` meets its contract: the bindings, and then the text. Assumes nothing.
use Prim.Native.Nat.{ℕ}
use lib.ListN.{length-replicate}
use Rattle.text_whole.proofs.LaidLaws.{linked-of-readable, blank-tables}
use native.Mathlib.Omega.{arith}
use Rattle.text_whole.proofs.put_let.Goals as goal

pub bind-requires : goal.bind-requires
bind-requires c =
    record {
      linked = linked-of-readable c.args.nodes.now.records.now c.args.nodes.now.literals.now
          c.args.nodes.now.names.now c.args.nodes.now.n
          c.requires.readable;
      n_nonzero = c.requires.some;
      blank = blank-tables 1024 c.args.nodes.now.n c.requires.readable.few;
    }

pub put_bound-requires-clause-n_in_bounds : goal.put_bound-requires-clause-n_in_bounds
put_bound-requires-clause-n_in_bounds c =
    let q = c.bind in (
      omega (arith, c.requires.readable.few, q.ensures.long.places, length-replicate {A = ℕ} 1024 0),
      omega (arith, c.requires.readable.few, length-replicate {A = ℕ} 1024 0),
      omega (arith, q.ensures.long.terms, length-replicate {A = ℕ} 1024 0),
    )
