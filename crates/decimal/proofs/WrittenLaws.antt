-- Text that grows from the start of a lent part, piece by piece. Assumes nothing.
use mathlib.Core.Path.{◌≡◌, refl, sym, ap, ◌∙◌}
use mathlib.Core.List.{List, [], ◌∷◌, ◌++◌, append_assoc, append-nil}
use Prim.Native.Nat.{ℕ, ◌+◌, ◌-◌, ◌<◌, ◌≤◌}
use native.Mathlib.Omega.{arith}
use native.Mathlib.Numerals.{add-one}
use lib.ListN.{length, set, take, drop, length-append, length-drop, length-take, drop_of_length-le}
use lib.Seq.{take_all, drop-drop, drop_at, take_at, set_at, drop-cons, drop-append-add}
use borrow.Rule.Slice.PartMut.{put_mid}
use Rattle.decimal.specs.Written.{Wrote}

-- o, with d at its start
unfoldable pub laid : List ℕ → List ℕ → List ℕ
laid o d = d ++ drop (length d) o

-- the text d stands at the start of what was o₀, and p is its length
pub record Stands (o₀ d o : List ℕ) (p : ℕ) : Type 0 where
  pub long : p ≡ length d
  pub bytes : o ≡ laid o₀ d

pub stands-of-wrote : (o d o' : List ℕ) (p : ℕ) → Wrote d p o o' → Stands o d o' p
unfolding laid
stands-of-wrote o d o' p w = record { long = w.long; bytes = w.bytes }

pub wrote-of-stands : (o d o' : List ℕ) (p : ℕ) → Stands o d o' p → Wrote d p o o'
unfolding laid
wrote-of-stands o d o' p w = record { long = w.long; bytes = w.bytes }

pub stands-none : (o : List ℕ) → Stands o [] o 0
unfolding laid
stands-none o = record { long = refl; bytes = refl }

module _ (o d : List ℕ) where
  laid-length : length d ≤ length o → length (laid o d) ≡ length o
  unfolding laid
  laid-length l = rw (length-append, length-drop) (omega arith)

  laid-drop : drop (length d) (laid o d) ≡ drop (length d) o
  unfolding laid
  laid-drop = drop_at d _ (length d) refl

  laid-take : take (length d) (laid o d) ≡ d
  unfolding laid
  laid-take = take_at d _ (length d) refl

  laid-byte : (b q : ℕ) → length d < length o → q ≡ length d → set (laid o d) q b ≡ laid o (d ++ (b ∷ []))
  unfolding laid
  laid-byte b q l h =
      rw (h, drop-cons o (length d) 0 l, set_at d _ _ b (length d) refl, length-append, append_assoc, add-one)

  -- a callee wrote e at the start of the tail after the text
  laid-tail :
      (e p : List ℕ) (q : ℕ) →
      q ≡ length d →
      p ≡ e ++ drop (length e) (take (length (laid o d) - q) (drop q (laid o d))) →
      put_mid q (length (laid o d) - q) (laid o d) p ≡ laid o (d ++ e)
  unfolding laid
  laid-tail e p q h w =
      let t : take (length (laid o d) - q) (drop q (laid o d)) ≡ drop q (laid o d) =
      take_all (length (laid o d) - q) (drop q (laid o d)) (omega (arith, length-drop q (laid o d))) in
      let z : drop (length (laid o d) - q) (drop q (laid o d)) ≡ [] =
      drop_of_length-le (drop q (laid o d)) {i = length (laid o d) - q}
      (omega (arith, length-drop q (laid o d))) in
      rw (w, z, append-nil, t, h, laid-take, laid-drop, drop-drop, length-append, append_assoc)

pub laid-laid : (o d e : List ℕ) → laid (laid o d) (d ++ e) ≡ laid o (d ++ e)
unfolding laid
laid-laid o d e = rw (length-append, drop-append-add d (drop (length d) o) (length e), drop-drop)

module _ (o₀ d o : List ℕ) (p : ℕ) (v : Stands o₀ d o p) where
  -- the same text, as standing at the start of what it stands in
  pub stands-again : Stands o d o p
  stands-again = record {
    long = v.long;
    bytes =
        v.bytes ∙ (ap (laid o₀) (sym (append-nil d)) ∙ (sym (laid-laid o₀ d []) ∙ rw (append-nil, ← v.bytes)));
  }

  -- a callee wrote e in the tail
  pub stands-then :
      (e q : List ℕ) (r : ℕ) →
      Wrote e r (take (length o - p) (drop p o)) q →
      Stands o₀ (d ++ e) (put_mid p (length o - p) o q) (p + r)
  stands-then e q r w = record {
    long = rw length-append (omega (arith, v.long, w.long));
    bytes = rw v.bytes (laid-tail o₀ d e q p v.long (rw v.bytes at w.bytes));
  }

  -- one byte more
  pub stands-byte : (b : ℕ) → length d < length o₀ → Stands o₀ (d ++ (b ∷ [])) (set o p b) (p + 1)
  stands-byte b l = record {
    long = rw length-append (omega (arith, v.long));
    bytes = rw v.bytes (laid-byte o₀ d b p l v.long);
  }

  pub stands-length : length d ≤ length o₀ → length o ≡ length o₀
  stands-length l = ap length v.bytes ∙ laid-length o₀ d l

  pub stands-place : length d ≤ length o₀ → p ≤ length o
  stands-place l = omega (arith, v.long, stands-length l)

  -- how much room is left after it
  pub stands-room : length d ≤ length o₀ → length (take (length o - p) (drop p o)) ≡ length o₀ - length d
  stands-room l = omega (arith, length-take (length o - p) (drop p o), length-drop p o, stands-length l, v.long)

  -- and that a further text fits there
  pub stands-fits :
      (e : List ℕ) → length d + length e ≤ length o₀ → length e ≤ length (take (length o - p) (drop p o))
  stands-fits e l = omega (arith, stands-room (omega arith))

-- a first byte
pub stands-first : (o : List ℕ) (b : ℕ) → 0 < length o → Stands o (b ∷ []) (set o 0 b) 1
unfolding laid
stands-first [] b l = let z : ⊥ = omega arith in absurd z
stands-first (x ∷ o) b l = record { long = refl; bytes = refl }
