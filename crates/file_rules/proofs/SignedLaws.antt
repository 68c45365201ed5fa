-- Laws of two's complement: 64 bits read as a signed number. Assumes nothing.
use Prim.{Dec, yes, no}
use Prim.Native.Nat.{ℕ, suc, ◌-◌, ◌^◌, ◌<◌, ◌≤◌}
use mathlib.Core.Path.{◌≡◌, sym, ap, ◌∙◌}
use native.Mathlib.Decide.{dec_lt}
use native.Mathlib.Omega.{arith}
use lib.IntN.{pos, negsuc}
use borrow.Author.Tests.{lt-ltb, le-ltb}
use mir.Syntax.{w64}
use mir.Val.{SFits, to_z, of_z}
use mir.ValLaws.{to_z_pos, to_z-neg, to_z-of_z, to_z-Fits}
use Rattle.bits.specs.Got.{pick}
use Rattle.file_rules.specs.Literals.{signed}

pub signed-when-small : (v : ℕ) → v < 2 ^ 63 → signed v ≡ pos v
unfolding signed pick
signed-when-small v h = rw (lt-ltb _ _ h)

pub signed-when-large : (v : ℕ) → 2 ^ 63 ≤ v → signed v ≡ negsuc (2 ^ 64 - 1 - v)
unfolding signed pick
signed-when-large v h = rw (le-ltb _ _ h)

signed_by : (v : ℕ) → v < 2 ^ 64 → Dec (v < 2 ^ 63) → to_z w64 v ≡ signed v
signed_by v h (yes l) = to_z_pos w64 v l ∙ sym (signed-when-small v l)
signed_by v h (no n) =
    let k : ℕ = 2 ^ 64 - 1 - v in
    let l : 2 ^ 63 ≤ v = omega arith in
    let m : k < 2 ^ 63 = omega arith in
    let e : 2 ^ 64 - suc k ≡ v = omega arith in
    ap (to_z w64) (sym e) ∙ to_z-neg w64 k m ∙ sym (signed-when-large v l)

-- The bits of v, read as a signed number.
pub signed-is : (v : ℕ) → v < 2 ^ 64 → to_z w64 v ≡ signed v
signed-is v h = signed_by v h (dec_lt v (2 ^ 63))

pub signed-fits : (v : ℕ) → v < 2 ^ 64 → SFits w64 (signed v)
signed-fits v h = rw (← signed-is v h) (to_z-Fits w64 v (record { fits = h }))

-- What an array of signed numbers keeps of one.
pub signed-kept : (v : ℕ) → v < 2 ^ 64 → to_z w64 (of_z w64 (signed v)) ≡ signed v
signed-kept v h = to_z-of_z w64 (signed v) (signed-fits v h)
