-- Laws on the first records of a list, and on the room of a list of whole records. Assumes nothing.
use Prim.Native.Nat.{ℕ, zero, suc, ◌+◌, ◌*◌, ◌≤◌, ◌<◌}
use mathlib.Core.Path.{◌≡◌, ap}
use mathlib.Core.List.{List, [], ◌∷◌}
use native.Mathlib.Nat.{mul-div_left}
use native.Mathlib.Omega.{arith}
use lib.ListN.{take, drop}
use lib.Seq.{get_or-take, take-take, take-nil}
use lib.IntN.{ℤ, pos}
use Rattle.term_rules.specs.Lent.{width, records_length, record_room, record_in}
use Rattle.term_rules.proofs.SameLaws.{term-same}

-- what stands within the first m numbers stands there still when the rest is cut off
part-take : (l : List ℕ) (m a n : ℕ) → a + n ≤ m → take n (drop a (take m l)) ≡ take n (drop a l)
part-take l m zero n h = take-take n m l (omega arith)
part-take [] m (suc a) n h = ap (λ (k : List ℕ). take n (drop (suc a) k)) (take-nil m)
part-take (x ∷ l) zero (suc a) n h = absurd (omega arith)
part-take (x ∷ l) (suc m) (suc a) n h = part-take l m a n (omega arith)

-- record k needs no more than the first n records
pub record-take :
    (rs : List ℕ) (ls : List ℤ) (n k : ℕ) → k < n → record_in (take (records_length n) rs) (take n ls) k ≡ record_in rs ls k
unfolding record_in
record-take rs ls n k h =
    term-same (record_in (take (records_length n) rs) (take n ls) k) (record_in rs ls k)
    (get_or-take (n * width) rs (k * width) 0 (omega arith))
    (get_or-take (n * width) rs (k * width + 1) 0 (omega arith))
    (get_or-take (n * width) rs (k * width + 2) 0 (omega arith))
    (get_or-take n ls k (pos 0) h)
    (part-take rs (n * width) (k * width + 3) 8 (omega arith))

-- as many records fit as there are
pub room_whole : (n : ℕ) → record_room (records_length n) ≡ n
room_whole n = mul-div_left n (omega arith)
