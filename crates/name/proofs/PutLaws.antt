-- A name's bytes in the table, and a table into which a name was put: the entries before it stay, and it is there.
-- Assumes nothing.
use Prim.Native.Nat.{ℕ, ◌+◌, ◌*◌, ◌-◌, ◌≤◌, ◌<◌}
use mathlib.Core.Path.{◌≡◌, refl, sym, ap, ◌∙◌}
use mathlib.Core.List.{List}
use native.Mathlib.Nat.{add-zero}
use native.Mathlib.Omega.{arith}
use lib.ListN.{length, get_or, take, drop, replicate, length-take, length-drop, length-append, length-replicate}
use lib.Seq.{paste, take-append_seam, length-paste, get_or-take, get_or-drop}
use Rattle.name.specs.Entries.{
  entries_length,
  HasEntry,
  length_at,
  name_at,
  padding_at,
  byte_at,
  entry,
  put_name,
  InEntries,
}
use Rattle.name.proofs.EntryLaws.{entry-length-get, entry-past-get}
use Rattle.name.proofs.PasteLaws.{
  part-paste-before,
  part-paste,
  get_d-paste-before,
  get_d-paste,
  drop-paste-past,
}

-- a name's place in the table
name_at-part : (t : List ℕ) (k n : ℕ) → length_at t k ≡ n → name_at t k ≡ take n (drop (k * 32 + 1) t)
unfolding name_at
name_at-part t k n e =
    let d : k * 32 + 1 + length_at t k - (k * 32 + 1) ≡ n = omega (arith, e) in
    ap (λ (m : ℕ). take m (drop (k * 32 + 1) t)) d

-- a name's length stands before it
pub name_at-length : (t : List ℕ) (k : ℕ) → InEntries t k → length (name_at t k) ≡ length_at t k
name_at-length t k h =
    let e = name_at-part t k (length_at t k) refl in
    omega (
      arith,
      ap length e,
      h.long,
      h.short,
      length-take (length_at t k) (drop (k * 32 + 1) t),
      length-drop (k * 32 + 1) t,
    )

-- what stands past a name
pub padding-get : (t : List ℕ) (k j : ℕ) → length_at t k + j < 31
    → get_or (padding_at t k) j 0 ≡ byte_at t k (length_at t k + j)
padding-get t k j h =
    let n : ℕ = length_at t k in
    let d : k * 32 + 1 + n + j ≡ k * 32 + 1 + (n + j) = omega arith in
    get_or-take (31 - n) (drop (k * 32 + 1 + n) t) j 0 (omega arith)
    ∙ get_or-drop (k * 32 + 1 + n) t j 0
    ∙ ap (λ (m : ℕ). get_or t m 0) d

pub padding-length : (t : List ℕ) (k : ℕ) → length (padding_at t k) ≤ 31 - length_at t k
padding-length t k =
    omega (arith, length-take (31 - length_at t k) (drop (k * 32 + 1 + length_at t k) t))

entry-wide : (name : List ℕ) → 32 ≤ length (entry name)
unfolding entry
entry-wide name = simp (length-append, length-replicate) (omega arith)

-- what stands past the entry stays, whatever was put
pub put_name-past :
    (t : List ℕ) (j : ℕ) (name : List ℕ) (n : ℕ) → entries_length j ≤ length t → j < n →
    drop (entries_length n) (put_name t j name) ≡ drop (entries_length n) t
unfolding put_name
put_name-past t j name n long l =
    drop-paste-past t (j * 32) (entry name) 32 long (entry-wide name) (n * 32) (omega arith)

module _ (t : List ℕ) (j : ℕ) (name : List ℕ) (long : entries_length j ≤ length t) (short : length name ≤ 31) where
  wide : 32 ≤ length (entry name)
  wide = entry-wide name

  module _ (k : ℕ) (l : k < j) where
    -- the entries before it stay
    pub length_at-kept : length_at (put_name t j name) k ≡ length_at t k
    unfolding put_name
    length_at-kept = get_d-paste-before t (j * 32) (entry name) 32 long wide (k * 32) 0 (omega arith)

    pub byte_at-kept : (i : ℕ) → i < 31 → byte_at (put_name t j name) k i ≡ byte_at t k i
    unfolding put_name
    byte_at-kept i h = get_d-paste-before t (j * 32) (entry name) 32 long wide (k * 32 + 1 + i) 0 (omega arith)

    pub name_at-kept : length_at t k ≤ 31 → name_at (put_name t j name) k ≡ name_at t k
    unfolding put_name
    name_at-kept h =
        name_at-part (put_name t j name) k (length_at t k) length_at-kept
        ∙ part-paste-before t (j * 32) (entry name) 32 long wide (k * 32 + 1) (length_at t k) (omega arith)
        ∙ sym (name_at-part t k (length_at t k) refl)

  -- it is there, with zeros past it
  pub length_at-put : length_at (put_name t j name) j ≡ length name
  unfolding put_name
  length_at-put =
      ap (λ (m : ℕ). get_or (paste t (j * 32) (entry name) 32) m 0) (sym (add-zero (j * 32)))
      ∙ get_d-paste t (j * 32) (entry name) 32 long wide 0 0 (omega arith)
      ∙ entry-length-get name 0 refl

  pub name_at-put : name_at (put_name t j name) j ≡ name
  unfolding put_name entry
  name_at-put =
      name_at-part (put_name t j name) j (length name) length_at-put
      ∙ part-paste t (j * 32) (entry name) 32 long wide 1 (length name) (omega arith)
      ∙ take-append_seam name (replicate (31 - length name) 0)

  pub byte_at-past : (i : ℕ) → length name ≤ i → i < 31 → byte_at (put_name t j name) j i ≡ 0
  unfolding put_name
  byte_at-past i h b =
      let e : j * 32 + 1 + i ≡ j * 32 + (1 + i) = omega arith in
      ap (λ (m : ℕ). get_or (paste t (j * 32) (entry name) 32) m 0) e
      ∙ get_d-paste t (j * 32) (entry name) 32 long wide (1 + i) 0 (omega arith)
      ∙ entry-past-get name (1 + i) (λ q. omega arith) (omega arith)

  -- the table is as long as it was
  pub put_name-length : HasEntry t j → length (put_name t j name) ≡ length t
  unfolding put_name
  put_name-length h = length-paste t (j * 32) (entry name) 32 h wide
