-- `row::child_term` meets its contract: a class by the builder, a literal by itself. Assumes nothing.
use Prim.Native.Nat.{◌-◌}
use lib.IntN.{ℤ, pos}
use lib.ListN.{get_or}
use mir.Syntax.{w64}
use mir.ValLaws.{to_z-of_z}
use Rattle.std.proofs.Common.{rules}
use Rattle.term_add.specs.Held.{held}
use Rattle.build.proofs.OwnLaws.{added-of-gains}
use Rattle.variant_terms.proofs.row.ChildLaws.{kid-of-class, kid-of-value}
use native.Mathlib.Omega.{arith}
use Rattle.variant_terms.proofs.row.child_term.Goals as goal

pub offset_bounds-ranks-x : goal.offset_bounds-ranks-x
offset_bounds-ranks-x c = omega (arith, c.if-x-lt512.true)

pub bounds-ranks-x : goal.bounds-ranks-x
bounds-ranks-x c = c.requires.kid.place c.if-x-lt512.true

pub build-requires : goal.build-requires
build-requires c =
    let p = c.requires in
    let h = c.if-x-lt512.true in
    record {
      rank = p.rank;
      planned = p.builder.planned;
      inside = p.builder.inside;
      tracks = p.builder.tracks;
      ranked = p.kid.ranked h;
      enough = p.kid.enough h;
    }

pub returns-then-x-lt512-clause-made : goal.returns-then-x-lt512-clause-made
returns-then-x-lt512-clause-made c =
    let a = c.args in
    let p = c.requires in
    kid-of-class p.rank a.plan.now.rows.now a.plan.now.edges.now a.ranks.now a.plan.now.labels.now
    a.plan.now.values.now a.memo.now
    (held a.store.now) p.builder a.x p.kid
    _
    c.if-x-lt512.true
    c.build.ensures.built

pub intern_literal-requires : goal.intern_literal-requires
intern_literal-requires c = c.requires.builder.tracks.formed

pub returns-clause-made : goal.returns-clause-made
returns-clause-made c =
    let a = c.args in
    let p = c.requires in
    let z : ℤ = get_or a.plan.now.values.now (a.x - 512) (pos 0) in
    let g = rw (to_z-of_z w64 z (record {
      sfits = search rules;
    })) at c.intern_literal.ensures.gains in
    kid-of-value p.rank a.plan.now.rows.now a.plan.now.edges.now a.ranks.now a.plan.now.labels.now
    a.plan.now.values.now a.memo.now
    (held a.store.now) p.builder a.x p.kid
    _
    c.if-x-lt512.false (added-of-gains a.memo.now (held a.store.now) _ _ _ g)
