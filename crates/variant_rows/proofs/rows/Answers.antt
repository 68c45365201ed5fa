-- `variant_rows::rows` meets its contract: the rows are priced, found, and the first of them put in order. Assumes nothing.
use Rattle.variant_rows.proofs.KeptLaws.{front_below, front-room, front-are, parts-of-length}
use mathlib.Core.Path.{refl, sym}
use lib.ListN.{length}
use lib.Seq.{length-take-le}
use Rattle.variant_rows.specs.Candidates.{is_candidate}
use native.Mathlib.Omega.{arith}
use Rattle.variant_rows.proofs.rows.Goals as goal

pub price_rows-requires : goal.price_rows-requires
price_rows-requires c =
    let a = c.args in
    let p = c.requires in
    record {
      parts_in = parts-of-length _ _ _ _ a.starts.now a.children.now refl (sym p.heads_length) p.parts;
      heads_in_bounds = omega (arith, p.heads_length, p.keys.costs_long);
    }

pub find_rows-m-requires : goal.find_rows-m-requires
find_rows-m-requires c =
    let a = c.args in
    let p = c.requires in
    record {
      parts_in = parts-of-length _ _ _ _ a.starts.now a.children.now (sym p.ranks_length) refl p.parts;
      outputs_in_bounds = p.list_long;
    }

pub slice_bounds-choose-end-2 : goal.slice_bounds-choose-end-2
slice_bounds-choose-end-2 c =
    let f = c.find_rows-m in
    sym (length-take-le f.result f.new.list f.ensures.room)

pub choose-requires : goal.choose-requires
choose-requires c =
    let a = c.args in
    let p = c.requires in
    let f = c.find_rows-m in
    let s = c.min-k in
    let q = is_candidate a.ranks.now a.outputs.now a.starts.now a.children.now a.c in
    let list = f.new.list in
    let e = length-take-le f.result list f.ensures.room in
    record {
      k_in_bounds = (
        omega (arith, e, s.ensures),
        front_below c.price_rows.new.prices a.rows.now a.labels.now
            a.cells.now q (length a.outputs.now) a.most f.result s.result list list f.ensures s.ensures,
      );
    }

pub returns : goal.returns
returns c =
    let a = c.args in
    let p = c.requires in
    let f = c.find_rows-m in
    let s = c.min-k in
    let w = c.choose in
    let q = is_candidate a.ranks.now a.outputs.now a.starts.now a.children.now a.c in
    let list = f.new.list in
    let front = w.new.list in
    let e = length-take-le f.result list f.ensures.room in
    record {
      priced = λ i h. c.price_rows.ensures i (omega (arith, h, p.heads_length));
      room =
          front-room c.price_rows.new.prices a.rows.now a.labels.now
          a.cells.now q (length a.outputs.now) a.most f.result s.result list front f.ensures
          s.ensures w.auto.list;
      are =
          front-are c.price_rows.new.prices a.rows.now a.labels.now
          a.cells.now q (length a.outputs.now) a.most f.result s.result list front f.ensures
          s.ensures w.auto.list w.ensures;
    }
