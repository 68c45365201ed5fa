-- `text_whole::plain_of` meets its contract: a well-formed store can be read. Assumes nothing.
use Prim.Native.Nat.{ℕ, ◌+◌}
use mathlib.Core.Path.{sym, ap, ◌∙◌}
use mathlib.Core.List.{List}
use lib.ListN.{length, length-replicate}
use Rattle.term.proofs.Promises.{promises as store-promises}
use Rattle.text_pieces.proofs.heads.ReadableLaws.{readable-of-sound}
use Rattle.text_whole.specs.Placed.{placed, written, refusal}
use Rattle.text_whole.proofs.PlacedLaws.{zeros-get, plain-text-nodes}
use native.Mathlib.Omega.{arith}
use Rattle.term_layout.specs.Sound.{store_of}
use Rattle.text_whole.proofs.plain_of.Goals as goal

pub invariant_of-nodes : goal.invariant_of-nodes
invariant_of-nodes c =
    record {
      readable = readable-of-sound c.args.store.now.records.now c.args.store.now.literals.now
          c.args.store.now.names.now c.args.store.now.terms
          c.args.store.now.symbols (c.args.term + 1) (store-promises.facts (store_of c.args.store.now)
          c.args.store.now.sound) (omega (arith, c.requires.term_lt_terms));
    }

pub put_plain-requires : goal.put_plain-requires
put_plain-requires c =
    let w = store-promises.facts (store_of c.args.store.now) c.args.store.now.sound in
    record {
      t_lt_n = omega arith;
      n_in_bounds = (
        omega (arith, w.term_limit, c.requires.term_lt_terms, length-replicate {A = ℕ} 1024 0),
        omega (arith, w.term_limit, c.requires.term_lt_terms, length-replicate {A = ℕ} 1024 0),
      );
      zeros = zeros-get 1024;
    }

pub returns : goal.returns
returns c =
    c.put_plain.ensures
    ∙ sym
    (ap (λ (text : List ℕ). placed text (written (length text)) (refusal 13) c.args.out.now)
    (plain-text-nodes c.args.store.now.records.now c.args.store.now.literals.now c.args.store.now.names.now
    c.args.store.now.terms
    c.args.store.now.symbols c.args.term))

pub overflow_add-nodes : goal.overflow_add-nodes
overflow_add-nodes c =
    let w = store-promises.facts (store_of c.args.store.now) c.args.store.now.sound in
    record { fits = omega (arith, w.term_limit, c.requires.term_lt_terms) }
