-- The laws of the flags, and of the bindings of a root. Assumes nothing.
use mathlib.Core.Path.{◌≡◌, refl, sym, ap, ◌∙◌}
use mathlib.Core.Bool.{Bool, false, ◌&&◌}
use mathlib.Core.List.{List, []}
use Prim.{Dec, yes, no}
use Prim.Native.Nat.{ℕ, suc, ◌-◌, ◌<◌, ◌≤◌, min}
use native.Mathlib.Omega.{arith}
use native.Mathlib.Decide.{dec_lt, dec_le}
use lib.ListN.{length, get_or}
use lib.Dec.{ltb, leb}
use borrow.Author.Tests.{lt-ltb, le-ltb, le-leb, lt-leb}
use Rattle.text_rules.specs.Counts.{count, size, in_turn}
use Rattle.text_rules.specs.Bindings.{Bound, find, to_bind, bind, meet_in, bindings}
use Rattle.text_rules.proofs.CountLaws.{places-here, places-none, stage-first, stage-own}
use Rattle.term_rules.specs.Lent.{kids_at}
use Rattle.text_pieces.specs.Readable.{Inside}
use Rattle.text_counts.specs.Tallies.{Counts, Sizes}
use Rattle.text_counts.specs.Met.{place_no, Met, Wanted, met_at, flag_of, Marked}
use Rattle.text_counts.proofs.bindings.FindLaws.{find_none}
use Rattle.text_counts.proofs.bindings.MeetLaws.{bind-no, meet_in-wanted}
use Rattle.text_counts.proofs.bindings.TableLaws.{bounds-none, zeros-length}

pub flag_of-single : (c z : ℕ) → c ≤ 1 → flag_of c z ≡ 0
unfolding flag_of
flag_of-single c z l = rw (le-ltb 1 c l, flag_of)

pub flag_of-small : (c z : ℕ) → 1 < c → z < 4 → flag_of c z ≡ 0
unfolding flag_of
flag_of-small c z l m = rw (lt-ltb 1 c l, lt-leb 4 z m, flag_of)

pub flag_of-bound : (c z : ℕ) → 1 < c → 4 ≤ z → flag_of c z ≡ 1
unfolding flag_of
flag_of-bound c z l m = rw (lt-ltb 1 c l, le-leb 4 z m, flag_of)

to_bind-is : (kids : ℕ → List ℕ) (root t : ℕ) → to_bind kids root t ≡ (ltb 1 (count kids root t) && leb 4 (size kids
    t))
unfolding to_bind
to_bind-is kids root t = refl

flag-tells : (c z : ℕ) → ltb 0 (flag_of c (min 4 z)) ≡ (ltb 1 c && leb 4 z)
flag-tells c z = by (dec_lt 1 c) (dec_le 4 z)
  where
    by : Dec (1 < c) → Dec (4 ≤ z) → ltb 0 (flag_of c (min 4 z)) ≡ (ltb 1 c && leb 4 z)
    by (no l) d = rw (flag_of-single c (min 4 z) (omega arith), le-ltb 1 c (omega arith))
    by (yes l) (no m) = rw (flag_of-small c (min 4 z) l (omega arith), lt-ltb 1 c l, lt-leb 4 z (omega arith))
    by (yes l) (yes m) = rw (flag_of-bound c (min 4 z) l (omega arith), lt-ltb 1 c l, le-leb 4 z m)

-- the flags of the counts and sizes are what document 01 asks
pub wanted-of-marked :
    (rs counts sizes wanted : List ℕ) (n : ℕ) →
    Counts rs counts n →
    Sizes rs sizes n →
    Marked counts sizes wanted n →
    Wanted rs wanted n (n - 1)
wanted-of-marked rs counts sizes wanted n c z m t l =
    ap (ltb 0) (m t l)
    ∙ (ap (λ (x : ℕ). ltb 0 (flag_of x (get_or sizes t 0))) (c t l)
    ∙ (ap (λ (x : ℕ). ltb 0 (flag_of (count (kids_at rs) (n - 1) t) x)) (z t l)
    ∙ (flag-tells (count (kids_at rs) (n - 1) t) (size (kids_at rs) t) ∙ sym (to_bind-is (kids_at rs) (n - 1) t))))

-- ---- the root
module _ (kids : ℕ → List ℕ) (n : ℕ) (lower : (t : ℕ) → t < n → Inside t (kids t)) (root : ℕ) (k : root < n) where
  -- its count is 1
  root-unbound : to_bind kids root root ≡ false
  root-unbound =
      let c : count kids root root ≡ 1 =
      omega (
        arith,
        stage-own kids n lower root k root,
        stage-first kids n lower root k root,
        places-here root root [] refl,
        places-none root,
      ) in
      rw (to_bind-is kids root root, le-ltb 1 (count kids root root) (omega arith))

  bindings-is : bindings kids root ≡ in_turn (meet_in kids (to_bind kids root) root 2) (kids root) []
  unfolding bindings
  bindings-is = refl

  -- meeting the root at indent 0 finds its bindings
  pub bindings-of-met :
      (wanted : ℕ → Bool) → ((t : ℕ) → t < n → wanted t ≡ to_bind kids root t)
      → met_at kids wanted 0 root [] ≡ bindings kids root
  unfolding met_at meet_in find bindings
  bindings-of-met wanted e =
      meet_in-wanted kids wanted (to_bind kids root) n lower e (suc root) 0 root [] k
      ∙ (ap (λ (b : Bool). bind_by b) root-unbound ∙ bind-no root 0 _)
    where
      bind_by : Bool → List Bound
      bind_by b = bind b root 0 (in_turn (meet_in kids (to_bind kids root) root 2) (kids root) [])

-- nothing is bound yet
pub met-none :
    (places terms indents : List ℕ) →
    ((t : ℕ) → get_or places t 0 ≤ 0) →
    length places ≤ length terms →
    length indents ≡ length terms →
    Met places terms indents 0
met-none places terms indents z l e = record {
  right = λ t lt.
      let h : get_or places t 0 ≡ 0 = omega (arith, z t) in
      h ∙ sym (ap place_no (ap (find t 0) (bounds-none terms indents) ∙ find_none t 0));
  free = omega (arith, zeros-length places);
  long = e;
}
