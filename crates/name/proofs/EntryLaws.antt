-- Laws on a name's entry, on the bytes of an entry in a table, and on the search for a name. Assumes nothing.
use Prim.Native.Nat.{ℕ, zero, suc, ◌+◌, ◌-◌, ◌≤◌, ◌<◌}
use mathlib.Core.Path.{◌≡◌, refl, ap, sym, ◌∙◌}
use mathlib.Core.Bool.{true, false}
use mathlib.Core.List.{List, [], ◌∷◌, ◌++◌, append_assoc}
use native.Mathlib.Nat.{add-zero, mul-div_left}
use native.Mathlib.Omega.{arith}
use lib.ListN.{length, get_or, set, take, drop, replicate, length-append, length-replicate}
use lib.Seq.{get_or-append-add, get_or-take, get_or-drop, take-take, take-append_seam, drop-drop}
use Rattle.std.specs.Prelude.{Some, None}
use borrow.Rule.Slice.PartMut.{put_mid, post_of}
use Rattle.std.proofs.lemmas.List.{drop-replicate}
use Rattle.name.specs.Name.{same}
use Rattle.name.specs.Entries.{
  entry_width,
  entries_length,
  entry_room,
  entry_at,
  length_in,
  name_in,
  length_at,
  name_at,
  entry,
  find_from,
  find_name,
}

pub entry_length : (name : List ℕ) → length name ≤ 31 → length (entry name) ≡ entry_width
unfolding entry
entry_length name h = simp (length-append, length-replicate) (omega arith)

-- an entry is made of 32 zeros, into which the length and the name are written
pub entry-made : (name ys : List ℕ) → length name ≤ 31 → ys ≡ name
    → put_mid 1 (length name + 1 - 1) (set (replicate 32 0) 0 (length name)) ys ≡ entry name
unfolding entry
entry-made name ys h e =
    let k : length name + 1 - 1 ≡ length name = omega arith in
    rw (e, k, post_of) (ap (λ (zs : List ℕ). length name ∷ (name ++ zs)) (drop-replicate (length name) 31 0))

pub entry-length-get : (name : List ℕ) (j : ℕ) → j ≡ 0 → get_or (entry name) j 0 ≡ length name
unfolding entry
entry-length-get name j e = rw e

pub entry-past-get : (name : List ℕ) (j : ℕ) → (j ≡ 0 → ⊥) → length name ≤ j - 1 → get_or (entry name) j 0 ≡ 0
unfolding entry
entry-past-get name zero n h = absurd (n refl)
entry-past-get name (suc j) n h =
    let e : j ≡ length name + (j - length name) = omega arith in
    ap (λ (k : ℕ). get_or (name ++ replicate (31 - length name) 0) k 0) e
    ∙ get_or-append-add name (replicate (31 - length name) 0) (j - length name) 0
    ∙ get_d-zeros (31 - length name) (j - length name)
  where
    get_d-zeros : (n i : ℕ) → ◌≡◌ {A = ℕ} (get_or (replicate n 0) i 0) 0
    get_d-zeros zero i = refl
    get_d-zeros (suc n) zero = refl
    get_d-zeros (suc n) (suc i) = get_d-zeros n i

-- an entry's bytes tell the length and the name that stand in the table
pub length_at-entry : (table : List ℕ) (k : ℕ) → length_at table k ≡ length_in (entry_at table k)
length_at-entry table k =
    sym
    (get_or-take entry_width (drop (entries_length k) table) 0 0 (omega arith)
    ∙ get_or-drop (entries_length k) table 0 0
    ∙ ap (λ (i : ℕ). get_or table i 0) (add-zero (entries_length k)))

cut-drop : (l : List ℕ) (m : ℕ) → m ≤ 31 → take m (drop 1 (take entry_width l)) ≡ take m (drop 1 l)
cut-drop [] m h = refl
cut-drop (x ∷ l) m h = take-take m 31 l h

pub name_at-entry :
    (table : List ℕ) (k : ℕ) → length_in (entry_at table k) ≤ 31 → name_at table k ≡ name_in (entry_at table k)
unfolding name_at name_in
name_at-entry table k short =
    let n : ℕ = length_at table k in
    let a : ℕ = entries_length k in
    let first : n ≡ length_in (entry_at table k) = length_at-entry table k in
    let e : a + 1 + n - (a + 1) ≡ n = omega arith in
    ap (λ (m : ℕ). take m (drop (a + 1) table)) e
    ∙ ap (take n) (sym (drop-drop 1 a table))
    ∙ sym (cut-drop (drop a table) n (omega (arith, first, short)))
    ∙ ap (λ (m : ℕ). take m (drop 1 (entry_at table k))) first

-- the length and the name of an entry that stands in the table
module _ (table name rest : List ℕ) (k : ℕ) (stands : drop (entries_length k) table ≡ entry name ++ rest) where
  pub length_at-of-entry : length_at table k ≡ length name
  unfolding entry
  length_at-of-entry =
      ap (λ (i : ℕ). get_or table i 0) (sym (add-zero (entries_length k)))
      ∙ sym (get_or-drop (entries_length k) table 0 0)
      ∙ ap (λ (x : List ℕ). get_or x 0 0) stands

  pub name_at-of-entry : name_at table k ≡ name
  unfolding name_at entry
  name_at-of-entry =
      let a : ℕ = entries_length k in
      let z : List ℕ = replicate (31 - length name) 0 in
      let e : a + 1 + length_at table k - (a + 1) ≡ length name = omega (arith, length_at-of-entry) in
      ap (λ (j : ℕ). take j (drop (a + 1) table)) e
      ∙ ap (take (length name)) (sym (drop-drop 1 a table) ∙ ap (drop 1) stands ∙ append_assoc name z rest)
      ∙ take-append_seam name (z ++ rest)

-- entries fill the bytes that they take
pub entry_room-whole : (n : ℕ) → entry_room (entries_length n) ≡ n
entry_room-whole n = mul-div_left n (omega arith)

module _ (table name : List ℕ) where
  pub find_from-here : (k n : ℕ) → k < n → same (name_at table k) name ≡ true → find_from table name k (n - k) ≡ Some k
  unfolding find_from
  find_from-here k n h e = let m : n - k ≡ suc (n - k - 1) = omega arith in rw (m, find_from) (rw e)

  pub find_from-more :
      (k n : ℕ) →
      k < n →
      same (name_at table k) name ≡ false →
      find_from table name (k + 1) (n - (k + 1)) ≡ find_from table name k (n - k)
  unfolding find_from
  find_from-more k n h e =
      let m : n - k ≡ suc (n - (k + 1)) = omega arith in
      sym (rw (m, find_from) (rw e))

  pub find_from-end : (k n : ℕ) → n ≤ k → find_from table name k (n - k) ≡ None
  unfolding find_from
  find_from-end k n h = let m : n - k ≡ 0 = omega arith in rw m

  pub find_from-start : (n : ℕ) → find_from table name 0 (n - 0) ≡ find_name table n name
  unfolding find_name
  find_from-start n = let e : n - 0 ≡ n = omega arith in rw e
