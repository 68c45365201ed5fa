-- `lengths::text_length` meets its contract, by the cases of the writer. Assumes nothing.
use Prim.Native.Nat.{ℕ, ◌<◌}
use mathlib.Core.Path.{sym, ap, ◌∙◌}
use mathlib.Core.List.{List}
use lib.ListN.{length, get_or}
use Rattle.text_pieces.specs.Pieces.{capped}
use Rattle.text_write.proofs.MeasuringLaws.{measuring-none, measuring-again, measuring-end}
use Rattle.text_write.proofs.CallLaws.{call, head, gap, child, kids, by_name, by-leaf, by-app}
use native.Mathlib.Omega.{arith}
use Rattle.text_write.proofs.lengths.+text_length.Goals as goal

pub returns-then-lim-b : goal.returns-then-lim-b
returns-then-lim-b t c =
    let s =
    call c.args.page.now c.args.limit c.args.lim c.args.m c.args.i c.args.t c.requires.t_lt_n in
    c.name_length.ensures ∙ ap (λ (x : List ℕ). capped (length x)) (sym (by_name s c.if-lim-b.true))

pub returns-then-kind_of-ne2 : goal.returns-then-kind_of-ne2
returns-then-kind_of-ne2 t c =
    let s =
    call c.args.page.now c.args.limit c.args.lim c.args.m c.args.i c.args.t c.requires.t_lt_n in
    c.head_length-acc.ensures
    ∙ ap (λ (x : List ℕ). capped (length x))
    (sym (by-leaf s c.if-lim-b.false (λ e. c.if-kind_of-ne2.true (c.kind_of.ensures ∙ e))))

pub loop-k-init : goal.loop-k-init
loop-k-init t c =
    let s =
    call c.args.page.now c.args.limit c.args.lim c.args.m c.args.i c.args.t c.requires.t_lt_n in (
      c.children_of-ks.ensures,
      measuring-none (head s) (gap s) (child s) (kids s)
          c.head_length-acc.result
          c.head_length-acc.ensures,
    )

pub text_length-long-requires : goal.text_length-long-requires
text_length-long-requires t c =
    let s =
    call c.args.page.now c.args.limit c.args.lim c.args.m c.args.i c.args.t c.requires.t_lt_n in
    let k : get_or (kids s) c.loop-k.k-index 0 < c.args.t =
    c.args.page.now.sheet.readable.lower c.args.t c.requires.t_lt_n c.loop-k.k-index
    (omega (arith, c.loop-k-test.true, ap length c.loop-k.invariant.0)) in
    rw c.loop-k.invariant.0 (
      omega (arith, k),
      (omega (arith, k, c.requires.t_lt_n), omega (arith, k, c.requires.t_bound)),
    )

pub loop-k-preserved : goal.loop-k-preserved
loop-k-preserved t c =
    let s =
    call c.args.page.now c.args.limit c.args.lim c.args.m c.args.i c.args.t c.requires.t_lt_n in
    let l = c.loop-k in (
      l.invariant.0,
      measuring-again (head s) (gap s) (child s) (kids s) l.acc l.k-index l.invariant.1
          (omega (arith, c.loop-k-test.true, ap length c.loop-k.invariant.0))
          c.gap_length-gap.result c.add.result
          c.text_length-long.result c.add-acc.result
          c.gap_length-gap.ensures
          c.add.ensures (rw l.invariant.0 at c.text_length-long.ensures) c.add-acc.ensures,
    )

pub returns : goal.returns
returns t c =
    let s =
    call c.args.page.now c.args.limit c.args.lim c.args.m c.args.i c.args.t c.requires.t_lt_n in
    let l = c.loop-k in
    measuring-end (head s) (gap s) (child s) (kids s) l.acc l.k-index l.invariant.1 (omega (
      arith,
      c.loop-k-test.false,
      ap length c.loop-k.invariant.0,
    ))
    c.add-2.result c.add-2.ensures
    ∙ ap (λ (x : List ℕ). capped (length x))
    (sym (by-app s c.if-lim-b.false
    (sym c.kind_of.ensures ∙ c.if-kind_of-ne2.false)))
