-- Laws on the numbers of a record that is made of its parts. Assumes nothing.
use Prim.Native.Nat.{ℕ, ◌+◌, ◌-◌, ◌≤◌}
use mathlib.Core.Path.{◌≡◌, ap}
use mathlib.Core.List.{List, ◌∷◌, ◌++◌}
use native.Mathlib.Omega.{arith}
use lib.ListN.{length, set, replicate, length-append, length-replicate}
use lib.IntN.{ℤ}
use borrow.Rule.Slice.PartMut.{put_mid, post_of}
use Rattle.std.proofs.lemmas.List.{drop-replicate}
use Rattle.term_rules.specs.Lent.{width, records_length, numbers}
use Rattle.term_layout.specs.Padded.{padded}

module _ (kind symbol count : ℕ) (z : ℤ) (ks : List ℕ) where
  pub padded-eight : length ks ≤ 8 → length (padded kind symbol count z ks).children ≡ 8
  padded-eight h = simp (length-append, length-replicate) (omega arith)

  pub numbers-length : length ks ≤ 8 → length (numbers (padded kind symbol count z ks)) ≡ records_length 1
  numbers-length h = simp (length-append, length-replicate) (omega arith)

  -- a record's numbers are made of as many zeros, into which its parts are written
  pub numbers-made : (ys : List ℕ) → length ks ≤ 8 → ys ≡ ks
      → put_mid 3 (3 + length ks - 3) (set (set (set (replicate width 0) 0 kind) 1 symbol) 2 count) ys
      ≡ numbers (padded kind symbol count z ks)
  numbers-made ys h e =
      let k : 3 + length ks - 3 ≡ length ks = omega arith in
      rw (e, k, post_of)
      (ap (λ (zs : List ℕ). kind ∷ symbol ∷ count ∷ (ks ++ zs)) (drop-replicate (length ks) 8 0))
