-- `text_write::put` meets its contract: its name, its head alone, or its head and its children. Assumes nothing.
use Prim.Native.Nat.{◌≤◌, ℕ, ◌<◌}
use mathlib.Core.Path.{◌≡◌, sym, ap, subst, ◌∙◌}
use mathlib.Core.List.{List}
use lib.ListN.{length, get_or}
use Rattle.decimal.specs.Written.{Wrote}
use Rattle.text_write.proofs.PieceLaws.{head-in-form}
use Rattle.text_write.proofs.WritingLaws.{
  writing-none,
  writing-place,
  gap-fits,
  half_place,
  child_fits,
  writing-again,
  writing-end,
}
use Rattle.text_write.proofs.CallLaws.{
  Call,
  call,
  text,
  head,
  gap,
  child,
  kids,
  place_of,
  counts,
  by_name,
  by_form,
  by-leaf,
  by-app,
}
use native.Mathlib.Omega.{arith}
use Rattle.text_write.proofs.+put.Goals as goal

-- where the text is written
module _ (s : Call) (o : List ℕ) where
  module _ (room : length (text s) ≤ length o) where
    head-fits : place_of s ≤ s.lim → length (head s) ≤ length o
    head-fits l =
        let h =
        head-in-form s.page.nodes.records.now s.page.nodes.literals.now s.page.nodes.names.now s.page.nodes.n
        s.page.sheet.readable s.t s.below (gap s) (child s) in
        omega (arith, h, ap length (by_form s l), room)

    room_as : {d : List ℕ} → text s ≡ d → length d ≤ length o
    room_as e = subst (λ (d : List ℕ). length d ≤ length o) e room

  wrote_as : (r : ℕ) (o' : List ℕ) {d : List ℕ} → text s ≡ d → Wrote d r o o' → Wrote (text s) r o o'
  wrote_as r o' e w = subst (λ (d : List ℕ). Wrote d r o o') (sym e) w

pub put_name-requires : goal.put_name-requires
put_name-requires t c =
    let s =
    call c.args.page.now c.args.limit c.args.lim c.args.m c.args.i c.args.t c.requires.t_lt_n in
    record {
      k_bound = omega (arith, counts s, c.if-lim-b.true);
      k_in_bounds = room_as s c.args.out.now c.requires.t_in_bounds (by_name s c.if-lim-b.true);
    }

pub returns-then-lim-b : goal.returns-then-lim-b
returns-then-lim-b t c =
    let s =
    call c.args.page.now c.args.limit c.args.lim c.args.m c.args.i c.args.t c.requires.t_lt_n in
    wrote_as s c.args.out.now _ _ (by_name s c.if-lim-b.true)
    c.put_name.ensures

pub put_head-p-requires : goal.put_head-p-requires
put_head-p-requires t c =
    let s =
    call c.args.page.now c.args.limit c.args.lim c.args.m c.args.i c.args.t c.requires.t_lt_n in
    record {
      t_lt_n = c.requires.t_lt_n;
      t_in_bounds = head-fits s c.args.out.now c.requires.t_in_bounds c.if-lim-b.false;
    }

pub returns-then-kind_of-ne2 : goal.returns-then-kind_of-ne2
returns-then-kind_of-ne2 t c =
    let s =
    call c.args.page.now c.args.limit c.args.lim c.args.m c.args.i c.args.t c.requires.t_lt_n in
    wrote_as s c.args.out.now _ _ (by-leaf s c.if-lim-b.false (λ e. c.if-kind_of-ne2.true (c.kind_of.ensures ∙ e)))
    c.put_head-p.ensures

pub loop-k-init : goal.loop-k-init
loop-k-init t c =
    let s =
    call c.args.page.now c.args.limit c.args.lim c.args.m c.args.i c.args.t c.requires.t_lt_n in (
      c.children_of-ks.ensures,
      writing-none (head s) (gap s) (child s) (kids s) c.args.out.now
          c.put_head-p.new.out
          c.put_head-p.result
          c.put_head-p.ensures
          c.put_head-p.auto.out
          (room_as s c.args.out.now c.requires.t_in_bounds (by-app s c.if-lim-b.false
          (sym c.kind_of.ensures ∙ c.if-kind_of-ne2.false))),
    )

pub slice_bounds-put_gap-count : goal.slice_bounds-put_gap-count
slice_bounds-put_gap-count t c =
    let s =
    call c.args.page.now c.args.limit c.args.lim c.args.m c.args.i c.args.t c.requires.t_lt_n in
    let l = c.loop-k in
    omega (
      arith,
      writing-place (head s) (gap s) (child s) (kids s) c.put_head-p.new.out l.out
          l.p l.k-index l.invariant.1,
    )

pub slice_bounds-put_gap-start : goal.slice_bounds-put_gap-start
slice_bounds-put_gap-start t c =
    let s =
    call c.args.page.now c.args.limit c.args.lim c.args.m c.args.i c.args.t c.requires.t_lt_n in
    let l = c.loop-k in
    omega (
      arith,
      writing-place (head s) (gap s) (child s) (kids s) c.put_head-p.new.out l.out l.p l.k-index l.invariant.1,
    )

pub put_gap-p-requires : goal.put_gap-p-requires
put_gap-p-requires t c =
    let s =
    call c.args.page.now c.args.limit c.args.lim c.args.m c.args.i c.args.t c.requires.t_lt_n in
    let l = c.loop-k in
    gap-fits (head s) (gap s) (child s) (kids s)
    c.put_head-p.new.out l.out
    l.p l.k-index l.invariant.1
    (omega (arith, c.loop-k-test.true, ap length l.invariant.0))

pub slice_bounds-put-count : goal.slice_bounds-put-count
slice_bounds-put-count t c =
    let s =
    call c.args.page.now c.args.limit c.args.lim c.args.m c.args.i c.args.t c.requires.t_lt_n in
    let l = c.loop-k in
    half_place (head s) (gap s) (child s) (kids s)
    c.put_head-p.new.out l.out l.p l.k-index l.invariant.1 (omega (
      arith,
      c.loop-k-test.true,
      ap length
          c.loop-k.invariant.0,
    ))
    c.put_gap-p.new.out c.put_gap-p.result
    c.put_gap-p.ensures

pub slice_bounds-put-start : goal.slice_bounds-put-start
slice_bounds-put-start t c =
    let s =
    call c.args.page.now c.args.limit c.args.lim c.args.m c.args.i c.args.t c.requires.t_lt_n in
    let l = c.loop-k in
    half_place (head s) (gap s) (child s) (kids s)
    c.put_head-p.new.out l.out l.p l.k-index l.invariant.1 (omega (
      arith,
      c.loop-k-test.true,
      ap length
          c.loop-k.invariant.0,
    ))
    c.put_gap-p.new.out c.put_gap-p.result
    c.put_gap-p.ensures

pub put-p-requires : goal.put-p-requires
put-p-requires t c =
    let s =
    call c.args.page.now c.args.limit c.args.lim c.args.m c.args.i c.args.t c.requires.t_lt_n in
    let l = c.loop-k in
    let k : get_or (kids s) l.k-index 0 < c.args.t =
    c.args.page.now.sheet.readable.lower c.args.t c.requires.t_lt_n l.k-index
    (omega (arith, c.loop-k-test.true, ap length c.loop-k.invariant.0)) in
    rw l.invariant.0 (
      omega (arith, k),
      (
        omega (arith, k, c.requires.t_lt_n),
        (
          omega (arith, k, c.requires.t_bound),
          child_fits (head s) (gap s) (child s) (kids s)
              c.put_head-p.new.out l.out l.p l.k-index l.invariant.1
              (omega (arith, c.loop-k-test.true, ap length c.loop-k.invariant.0))
              c.put_gap-p.new.out
              c.put_gap-p.result
              c.put_gap-p.ensures,
        ),
      ),
    )

pub loop-k-preserved : goal.loop-k-preserved
loop-k-preserved t c =
    let s =
    call c.args.page.now c.args.limit c.args.lim c.args.m c.args.i c.args.t c.requires.t_lt_n in
    let l = c.loop-k in (
      l.invariant.0,
      writing-again (head s) (gap s) (child s) (kids s)
          c.put_head-p.new.out l.out l.p l.k-index l.invariant.1
          (omega (arith, c.loop-k-test.true, ap length c.loop-k.invariant.0))
          c.put_gap-p.new.out
          c.put_gap-p.result
          c.put_gap-p.ensures c.put-p.new.out
          c.put-p.result (rw l.invariant.0 at c.put-p.ensures),
    )

pub returns : goal.returns
returns t c =
    let s =
    call c.args.page.now c.args.limit c.args.lim c.args.m c.args.i c.args.t c.requires.t_lt_n in
    let l = c.loop-k in
    wrote_as s c.args.out.now _ _ (by-app s
    c.if-lim-b.false
    (sym c.kind_of.ensures ∙ c.if-kind_of-ne2.false))
    (writing-end (head s) (gap s) (child s) (kids s) c.args.out.now
    c.put_head-p.new.out l.out
    c.put_head-p.result l.p l.k-index
    c.put_head-p.ensures
    (omega (arith, c.loop-k-test.false, ap length c.loop-k.invariant.0)) l.invariant.1)
