-- Row j after row i was put, part by part: row i has what was put, any other row what it had. Assumes nothing.
use mathlib.Core.Path.{◌≡◌, refl, ap, sym, ◌∙◌}
use mathlib.Core.List.{List, [], ◌∷◌}
use Prim.{Dec, yes, no}
use Prim.Native.Nat.{ℕ, ◌+◌, ◌*◌, ◌≤◌, ◌<◌}
use native.Mathlib.Decide.{dec_lt}
use native.Mathlib.Omega.{arith}
use lib.ListN.{length, get_or, set, take, drop}
use lib.Seq.{paste, paste-zero, paste-suc, length-paste, take-length, get_or-drop}
use Rattle.std.proofs.lemmas.List.Edits.{paste-paste}
use Rattle.name.proofs.PasteLaws.{part-paste-before, part-paste, get_d-paste-before, get_d-paste, drop-paste-past}
use Rattle.table_layout.specs.Rows.{
  width,
  HasRow,
  file_row_at,
  function_at,
  output_at,
  count_at,
  children_at,
  row_numbers,
  put_row,
}

-- The numbers of a row are written one by one, and its children as one part.
module _ (d : List ℕ) (at r f c : ℕ) (ks : List ℕ) (h : at + 4 ≤ length d) where
  abbrev s : List ℕ
  s = row_numbers r f c ks

  -- the four numbers before its children
  pub paste-four : set (set (set (set d at r) (at + 1) f) (at + 2) c) (at + 3) (length ks) ≡ paste d at s 4
  paste-four =
      let z : at ≡ at + 0 = omega arith in
      let a : set d at r ≡ paste d at s 1 =
      ap (λ (x : List ℕ). set x at r) (paste-zero d at s)
      ∙ ap (λ (k : ℕ). set (paste d at s 0) k r) z
      ∙ paste-suc d at s 0 0 (omega arith) (omega arith) in
      let b : set (set d at r) (at + 1) f ≡ paste d at s 2 =
      ap (λ (x : List ℕ). set x (at + 1) f) a ∙ paste-suc d at s 1 0 (omega arith) (omega arith) in
      let e : set (set (set d at r) (at + 1) f) (at + 2) c ≡ paste d at s 3 =
      ap (λ (x : List ℕ). set x (at + 2) c) b ∙ paste-suc d at s 2 0 (omega arith) (omega arith) in
      ap (λ (x : List ℕ). set x (at + 3) (length ks)) e ∙ paste-suc d at s 3 0 (omega arith) (omega arith)

  -- and its children
  pub paste-row :
      paste (set (set (set (set d at r) (at + 1) f) (at + 2) c) (at + 3) (length ks)) (at + 4) ks (length ks)
      ≡ paste d at s (4 + length ks)
  paste-row =
      ap (λ (x : List ℕ). paste x (at + 4) ks (length ks)) paste-four
      ∙ paste-paste d at (r ∷ f ∷ c ∷ length ks ∷ []) ks 4 (length ks) refl refl (omega arith)

module _ (rows : List ℕ) (i r f c : ℕ) (ks : List ℕ) (h : HasRow rows i) (few : length ks ≤ 8) where
  abbrev new : List ℕ
  new = put_row rows i r f c ks

  there : (k : ℕ) → k < 4 + length ks → get_or new (i * width + k) 0 ≡ get_or (row_numbers r f c ks) k 0
  there k l = get_d-paste rows (i * width) (row_numbers r f c ks) (4 + length ks) (omega arith) (omega arith) k 0 l

  pub put-length : length new ≡ length rows
  put-length = length-paste rows (i * width) (row_numbers r f c ks) (4 + length ks) (omega arith) (omega arith)

  pub put-file-row : file_row_at new i ≡ r
  put-file-row =
      let z : i * width ≡ i * width + 0 = omega arith in ap (λ (k : ℕ). get_or new k 0) z ∙ there 0 (omega arith)

  pub put_function : function_at new i ≡ f
  put_function = there 1 (omega arith)

  pub put-output : output_at new i ≡ c
  put-output = there 2 (omega arith)

  pub put_count : count_at new i ≡ length ks
  put_count = there 3 (omega arith)

  pub put-children : children_at new i ≡ ks
  put-children =
      ap (λ (n : ℕ). take n (drop (i * width + 4) new)) put_count
      ∙ part-paste rows (i * width) (row_numbers r f c ks) (4 + length ks) (omega arith) (omega arith) 4 (length ks)
      (omega arith)
      ∙ take-length ks

  module _ (j : ℕ) (other : j ≡ i → ⊥) where
    past : (k : ℕ) → i * width + (4 + length ks) ≤ k → drop k new ≡ drop k rows
    past k l =
        drop-paste-past rows (i * width) (row_numbers r f c ks) (4 + length ks) (omega arith) (omega arith) k l

    kept : (k : ℕ) → k < width → get_or new (j * width + k) 0 ≡ get_or rows (j * width + k) 0
    kept k l = go (dec_lt j i)
      where
        go : Dec (j < i) → get_or new (j * width + k) 0 ≡ get_or rows (j * width + k) 0
        go (yes b) =
            get_d-paste-before rows (i * width) (row_numbers r f c ks) (4 + length ks) (omega arith) (omega arith)
            (j * width + k) 0 (omega arith)
        go (no b) =
            let x : ℕ = j * width + k in
            let z : x ≡ x + 0 = omega arith in
            ap (λ (y : ℕ). get_or new y 0) z
            ∙ sym (get_or-drop x new 0 0)
            ∙ ap (λ (y : List ℕ). get_or y 0 0) (past x (omega (arith, other, b)))
            ∙ get_or-drop x rows 0 0
            ∙ sym (ap (λ (y : ℕ). get_or rows y 0) z)

    pub kept-file-row : file_row_at new j ≡ file_row_at rows j
    kept-file-row =
        let z : j * width ≡ j * width + 0 = omega arith in
        ap (λ (k : ℕ). get_or new k 0) z ∙ kept 0 (omega arith) ∙ sym (ap (λ (k : ℕ). get_or rows k 0) z)

    pub kept-function : function_at new j ≡ function_at rows j
    kept-function = kept 1 (omega arith)

    pub kept-output : output_at new j ≡ output_at rows j
    kept-output = kept 2 (omega arith)

    pub kept-count : count_at new j ≡ count_at rows j
    kept-count = kept 3 (omega arith)

    pub kept-children : count_at rows j ≤ 8 → children_at new j ≡ children_at rows j
    kept-children l = ap (λ (n : ℕ). take n (drop (j * width + 4) new)) kept-count ∙ go (dec_lt j i)
      where
        go : Dec (j < i) → take (count_at rows j) (drop (j * width + 4) new) ≡ children_at rows j
        go (yes b) =
            part-paste-before rows (i * width) (row_numbers r f c ks) (4 + length ks) (omega arith) (omega arith)
            (j * width + 4) (count_at rows j) (omega arith)
        go (no b) = ap (take (count_at rows j)) (past (j * width + 4) (omega (arith, other, b)))
