-- What the writers of lines leave behind. Assumes nothing.
use mathlib.Core.Path.{◌≡◌}
use mathlib.Core.List.{List, [], ◌∷◌, ◌++◌}
use Prim.Native.Nat.{ℕ, ◌+◌, ◌-◌, ◌≤◌}
use native.Mathlib.Omega.{arith}
use lib.ListN.{length, set, take, drop, length-append}
use borrow.Rule.Slice.PartMut.{put_mid}
use Rattle.decimal.specs.Decimal.{digits}
use Rattle.decimal.specs.Written.{Wrote}
use Rattle.program_rules.specs.Lines.{number_text}
use Rattle.program_rules.specs.Step.{Step}
use Rattle.program_rules.proofs.headlines.StepLaws.{step-of-tail, step-byte, step-length, step_then}
use Rattle.program_rules.proofs.headlines.LineLaws.{number-length}

-- The digits, then the byte after them.
pub number_step :
    (o : List ℕ) (x a p r : ℕ) (q : List ℕ) →
    p + length (number_text x a) ≤ length o →
    Wrote (digits x) r (take (length o - p) (drop p o)) q →
    Step (number_text x a) p (p + r + 1) o (set (put_mid p (length o - p) o q) (p + r) a)
unfolding number_text
number_step o x a p r q l w =
    let room : p + length (digits x) + 1 ≤ length o = omega (arith, l, number-length x a) in
    let s : Step (digits x) p (p + r) o (put_mid p (length o - p) o q) =
    step-of-tail o (digits x) q p r (omega (arith, room)) w in
    let same : length (put_mid p (length o - p) o q) ≡ length o =
    step-length o (digits x) (put_mid p (length o - p) o q) p (p + r) s (omega (arith, room)) in
    step_then o (digits x) (put_mid p (length o - p) o q) (a ∷ []) (set (put_mid p (length o - p) o q) (p + r) a) p
    (p + r) (p + r + 1) s
    (step-byte (put_mid p (length o - p) o q) a (p + r) (omega (arith, room, same, s.place)))
    (omega (arith, room))
