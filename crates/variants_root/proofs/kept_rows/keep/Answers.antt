-- `kept_rows::keep` meets its contract: the run, the kept rows, and what they answer. Assumes nothing.
use Prim.Native.Nat.{ℕ}
use mathlib.Core.Path.{sym, ◌∙◌, subst}
use lib.ListN.{take}
use lib.Seq.{length-take-le}
use Rattle.price_passes.specs.Flat.{FlatOk}
use Rattle.price.specs.Solved.{Solved}
use Rattle.variant_answers.specs.Kept.{lending}
use Rattle.variants_root.proofs.kept_rows.RowLaws.{kept-ready}
use Rattle.variants_root.proofs.kept_rows.AnswerLaws.{answer-ready, answer-told}
use native.Mathlib.Omega.{arith}
use Rattle.variants_root.proofs.kept_rows.keep.Goals as goal

pub solve-run-requires : goal.solve-run-requires
solve-run-requires c =
    let g = c.args in
    let p = c.requires.packed_ready in
    record {
      flat_ok = subst (λ (n : ℕ). FlatOk n g.outputs.now g.heads.now g.starts.now g.children.now) (sym p.classes)
          p.is.is.flat;
      blank = c.requires.blank;
    }

pub rows-count-requires : goal.rows-count-requires
rows-count-requires c =
    let g = c.args in
    let p = c.requires.packed_ready in
    let q = c.solve-run in
    let long = c.requires.blank.fresh.long in
    kept-ready p.table p.root g.outputs.now g.heads.now g.starts.now g.children.now p.order p.functions g.labels.now
    p.values g.cells.now p.is
    g.rows.now p.packed
    q.new.costs q.new.ranks _ _ (q.auto.costs ∙ long ∙ p.classes) (q.auto.costs ∙ long ∙ sym q.auto.ranks)
    c.requires.prices_room (omega (arith, c.requires.list_room))

pub returns : goal.returns
returns c order functions values pk t root v cs s formed =
    let g = c.args in
    let q = c.solve-run in
    let r = c.rows-count in
    let e = r.ensures in
    let w =
    subst
    (λ (m : ℕ).
    Solved m q.result.passes q.result.last g.outputs.now g.heads.now g.starts.now
    g.children.now q.new.costs q.new.ranks q.new.edges)
    cs q.ensures in
    let few = length-take-le r.result r.new.list e.room in
    record {
      room = e.room;
      ready =
          answer-ready t root g.outputs.now g.heads.now g.starts.now g.children.now
          order functions g.labels.now values g.cells.now v
          q.new.costs q.new.ranks q.new.edges q.result.passes q.result.last (q.auto.ranks ∙ cs) w g.rows.now pk
          r.new.prices e.priced g.c g.most
          (take r.result r.new.list) e.are
          s formed (omega (arith, r.auto.prices, c.requires.prices_room))
          (omega (arith, r.auto.list, e.room, few, c.requires.list_room));
      answers = λ ws ts a x.
          answer-told t root g.outputs.now g.heads.now g.starts.now g.children.now
          order functions g.labels.now values g.cells.now v
          q.new.costs q.new.ranks q.new.edges q.result.passes q.result.last (q.auto.ranks ∙ cs) w g.rows.now pk
          r.new.prices e.priced g.c g.most
          (take r.result r.new.list) e.are
          (lending s ws ts) a x;
    }
