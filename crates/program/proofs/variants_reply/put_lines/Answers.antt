-- `variants_reply::put_lines` meets its contract: the length first, then the line and the answers. Assumes nothing.
use Prim.Native.Nat.{ℕ}
use lib.ListN.{length}
use Rattle.term_rules.specs.Nodes.{Node}
use Rattle.text_pieces.specs.Readable.{nodes}
use Rattle.program.proofs.variants_reply.RoomLaws.{refuses, roomy, writes}
use native.Mathlib.Omega.{arith}
use Rattle.program.proofs.variants_reply.put_lines.Goals.{Start}
use Rattle.program.proofs.variants_reply.put_lines.Goals as goal

abbrev seen_nodes : Start → ℕ → Node
seen_nodes s = nodes s.args.records.now s.args.literals.now s.args.names.now

pub texts_length-rest-requires : goal.texts_length-rest-requires
texts_length-rest-requires c =
    record {
      plain_sheet = c.requires.plain_sheet;
      within = c.requires.within;
    }

pub returns-then-out-add : goal.returns-then-out-add
returns-then-out-add c =
    refuses (seen_nodes (goal.at.returns-then-out-add c).Start) c.args.n c.args.costs.now c.args.terms.now c.args.k c.args.passes
    c.variants_length-head.result c.texts_length-rest.result
    c.add.result c.variants_length-head.ensures
    c.texts_length-rest.ensures c.add.ensures c.args.out.now c.if-out-add.true

pub put_variants-p-requires : goal.put_variants-p-requires
put_variants-p-requires c =
    omega (
      arith,
      roomy (seen_nodes (goal.at.put_variants-p-requires c).Start) c.args.n c.args.costs.now c.args.terms.now c.args.k
          c.args.passes c.variants_length-head.result
          c.texts_length-rest.result c.add.result
          c.variants_length-head.ensures
          c.texts_length-rest.ensures c.add.ensures
          (length c.args.out.now) (omega (arith)) c.if-out-add.false,
    )

pub put_texts-e-requires : goal.put_texts-e-requires
put_texts-e-requires c =
    record {
      plain_sheet = c.requires.plain_sheet;
      within = c.requires.within;
      k_in_bounds = omega (
        arith,
        c.put_variants-p.ensures.place,
        c.put_variants-p.auto.out,
        roomy (seen_nodes (goal.at.put_texts-e-requires c).Start) c.args.n c.args.costs.now
            c.args.terms.now c.args.k c.args.passes
            c.variants_length-head.result
            c.texts_length-rest.result
            c.add.result
            c.variants_length-head.ensures
            c.texts_length-rest.ensures
            c.add.ensures (length c.args.out.now)
            (omega (arith)) c.if-out-add.false,
      );
    }

pub returns : goal.returns
returns c =
    writes (seen_nodes (goal.at.returns c).Start) c.args.n c.args.costs.now c.args.terms.now c.args.k c.args.passes
    c.args.out.now c.put_variants-p.new.out
    c.put_texts-e.new.out
    c.put_variants-p.result c.put_texts-e.result
    (roomy (seen_nodes (goal.at.returns c).Start) c.args.n c.args.costs.now c.args.terms.now c.args.k c.args.passes
    c.variants_length-head.result
    c.texts_length-rest.result
    c.add.result
    c.variants_length-head.ensures
    c.texts_length-rest.ensures
    c.add.ensures
    (length c.args.out.now) (omega (arith))
    c.if-out-add.false)
    c.put_variants-p.ensures
    c.put_texts-e.ensures
