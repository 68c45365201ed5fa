-- `name::are_same` meets its contract. Bytes or words at one place that differ are enough; from the end, the walk stops at
-- the first bytes that differ. Assumes nothing.
use Prim.Native.Nat.{ℕ, ◌-◌, ◌+◌}
use mathlib.Core.Path.{◌≡◌, sym, ◌∙◌}
use mathlib.Core.List.{List}
use native.Mathlib.Omega.{arith}
use lib.ListN.{length, take, drop}
use Rattle.std.specs.Int.{w64, from_le_bytes}
use Rattle.name.proofs.NameLaws.{same_length, same-apart, same_more, same_end, same-told, same-eq}
use Rattle.name.proofs.are_same.Goals as goal

-- the word from byte i on
word : ℕ → List ℕ → ℕ
word i s = from_le_bytes w64 (take 8 (drop i s))

pub returns-then-n-b : goal.returns-then-n-b
returns-then-n-b c = sym (same_length c.args.a.now c.args.b.now c.if-n-b.true)

pub returns-then-word_at : goal.returns-then-word_at
unfolding word
returns-then-word_at c =
    let g = c.args in
    sym (same-told (word (length g.a.now - 8)) g.a.now g.b.now
    (λ e. c.if-word_at.true (c.word_at.ensures ∙ e ∙ sym c.word_at-2.ensures)))

pub returns-then-word_at-2 : goal.returns-then-word_at-2
unfolding word
returns-then-word_at-2 c =
    let g = c.args in
    sym (same-told (word 0) g.a.now g.b.now
    (λ e. c.if-word_at-2.true (c.word_at-3.ensures ∙ e ∙ sym c.word_at-4.ensures)))

pub loop-i-init : goal.loop-i-init
loop-i-init c =
    let g = c.args in
    same_end g.a.now g.b.now (length g.a.now) (omega arith) (omega arith) c.if-n-b.false

pub returns-then-a-i : goal.returns-then-a-i
returns-then-a-i c =
    let g = c.args in
    sym (same-apart g.a.now g.b.now (c.loop-i.i - 1) (omega arith) (omega arith) c.if-a-i.true)

pub loop-i-preserved : goal.loop-i-preserved
loop-i-preserved c =
    let g = c.args in
    let l = c.loop-i in
    let d : l.i ≡ l.i - 1 + 1 = omega arith in
    let s = same_more g.a.now g.b.now (l.i - 1) (omega arith) (omega arith) c.if-a-i.false in
    sym s ∙ rw d at l.invariant

pub returns-then-n-lt8 : goal.returns-then-n-lt8
returns-then-n-lt8 c =
    let l = c.loop-i in
    let z : l.i ≡ 0 = omega arith in
    sym (rw z at l.invariant)

pub returns : goal.returns
returns c = c.eq.ensures ∙ same-eq c.args.a.now c.args.b.now
