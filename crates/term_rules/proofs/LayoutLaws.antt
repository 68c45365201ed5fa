-- How records lie in the lent numbers: a record's parts, and the numbers into which a record was put (the records before
-- it stay, it is there, and what stands past it stays). Assumes nothing.
use Prim.Native.Nat.{ℕ, zero, suc, ◌+◌, ◌*◌, ◌≤◌, ◌<◌}
use mathlib.Core.Path.{◌≡◌, refl, sym, ap, ◌∙◌}
use mathlib.Core.List.{List, ◌∷◌, ◌++◌}
use native.Mathlib.Nat.{add-zero}
use native.Mathlib.Omega.{arith}
use lib.ListN.{length, get_or, take, drop, set, length-drop}
use lib.Seq.{
  paste,
  length-paste,
  take_all,
  take_at,
  take-paste,
  drop-cons,
  length-take-le,
  drop-append-add,
  get_or-append-add,
  get_or-set_same,
  get_or-set_other,
}
use lib.IntN.{ℤ, pos}
use Rattle.name.proofs.PasteLaws.{part-paste-before, part-paste, get_d-paste-before, get_d-paste, drop-paste-past}
use Rattle.term_rules.specs.declared.Term.{Term}
use Rattle.term_rules.specs.Lent.{
  width,
  records_length,
  HasRecord,
  kind_at,
  symbol_no,
  arity_at,
  places_at,
  record_in,
  numbers,
  put_record,
}
use Rattle.term_rules.proofs.SameLaws.{term-same}

-- ---- the parts of a record
pub numbers-length : (t : Term) → length t.children ≡ 8 → length (numbers t) ≡ records_length 1
numbers-length t e = omega (arith, e)

-- the eight child places of a record that stands in the store
pub children-length : (rs : List ℕ) (i : ℕ) → HasRecord rs i → length (places_at rs i) ≡ 8
children-length rs i h = length-take-le 8 (drop (i * width + 3) rs) (omega (arith, length-drop (i * width + 3) rs))

-- what stands past a record that is put at j stays
pub put-past :
    (rs : List ℕ) (j : ℕ) (t : Term) (n : ℕ) → records_length j ≤ length rs → 8 ≤ length t.children → j < n →
    drop (records_length n) (put_record rs j t) ≡ drop (records_length n) rs
put-past rs j t n long wide l =
    drop-paste-past rs (j * width) (numbers t) width long (omega arith) (n * width) (omega arith)

-- ---- a record is put at j, behind those before it
module _ (rs : List ℕ) (j : ℕ) (t : Term) (long : records_length j ≤ length rs) (wide : length t.children ≡ 8) where
  whole : width ≤ length (numbers t)
  whole = omega (arith, wide)

  module _ (i : ℕ) (l : i < j) where
    get : (k : ℕ) → k < width → get_or (put_record rs j t) (i * width + k) 0 ≡ get_or rs (i * width + k) 0
    get k b = get_d-paste-before rs (j * width) (numbers t) width long whole (i * width + k) 0 (omega arith)

    pub kind-kept : kind_at (put_record rs j t) i ≡ kind_at rs i
    kind-kept = get_d-paste-before rs (j * width) (numbers t) width long whole (i * width) 0 (omega arith)

    pub symbol-kept : symbol_no (put_record rs j t) i ≡ symbol_no rs i
    symbol-kept = get 1 (omega arith)

    pub arity-kept : arity_at (put_record rs j t) i ≡ arity_at rs i
    arity-kept = get 2 (omega arith)

    pub places-kept : places_at (put_record rs j t) i ≡ places_at rs i
    places-kept = part-paste-before rs (j * width) (numbers t) width long whole (i * width + 3) 8 (omega arith)

    -- the records before it stay
    pub record-kept : (ls : List ℤ) → record_in (put_record rs j t) (set ls j t.literal) i ≡ record_in rs ls i
    unfolding record_in
    record-kept ls =
        term-same (record_in (put_record rs j t) (set ls j t.literal) i) (record_in rs ls i) kind-kept symbol-kept
        arity-kept
        (get_or-set_other ls j i t.literal (pos 0) (λ e. omega arith))
        places-kept

  pub kind-put : kind_at (put_record rs j t) j ≡ t.kind
  kind-put =
      ap (λ (k : ℕ). get_or (put_record rs j t) k 0) (sym (add-zero (j * width)))
      ∙ get_d-paste rs (j * width) (numbers t) width long whole 0 0 (omega arith)

  pub symbol-put : symbol_no (put_record rs j t) j ≡ t.symbol
  symbol-put = get_d-paste rs (j * width) (numbers t) width long whole 1 0 (omega arith)

  pub arity-put : arity_at (put_record rs j t) j ≡ t.count
  arity-put = get_d-paste rs (j * width) (numbers t) width long whole 2 0 (omega arith)

  pub places-put : places_at (put_record rs j t) j ≡ t.children
  places-put =
      part-paste rs (j * width) (numbers t) width long whole 3 8 (omega arith)
      ∙ take_all 8 t.children (omega (arith, wide))

  -- it is there
  pub record-put : (ls : List ℤ) → j < length ls → record_in (put_record rs j t) (set ls j t.literal) j ≡ t
  unfolding record_in
  record-put ls l =
      term-same (record_in (put_record rs j t) (set ls j t.literal) j) t kind-put symbol-put arity-put
      (get_or-set_same ls j t.literal (pos 0) l) places-put

  -- as long as they were
  pub put-length : HasRecord rs j → length (put_record rs j t) ≡ length rs
  put-length h = length-paste rs (j * width) (numbers t) width h whole

  -- the first j + 1 records are the first j and it
  pub take_put : take (records_length (suc j)) (put_record rs j t) ≡ take (records_length j) rs ++ numbers t
  take_put =
      let e : suc j * width ≡ j * width + width = omega arith in
      ap (λ (n : ℕ). take n (put_record rs j t)) e
      ∙ take-paste rs (j * width) (numbers t) width long whole
      ∙ ap (λ (l : List ℕ). take (j * width) rs ++ l) (take_all width (numbers t) (omega (arith, wide)))

-- ---- records one behind the other
-- the first record is the one that was put in front
pub record-first :
    (t : Term) (rs : List ℕ) (ls : List ℤ) → length t.children ≡ 8 →
    record_in (numbers t ++ rs) (t.literal ∷ ls) 0 ≡ t
unfolding record_in
record-first t rs ls e =
    term-same (record_in (numbers t ++ rs) (t.literal ∷ ls) 0) t refl refl refl refl (take_at t.children rs 8 e)

-- record i + 1 is record i of what follows the first record
pub record-next :
    (a rs : List ℕ) (z : ℤ) (ls : List ℤ) (i : ℕ) → length a ≡ records_length 1 →
    record_in (a ++ rs) (z ∷ ls) (suc i) ≡ record_in rs ls i
unfolding record_in
record-next a rs z ls i e =
    let at : (k : ℕ) → get_or (a ++ rs) (suc i * width + k) 0 ≡ get_or rs (i * width + k) 0 = λ k.
    let h : suc i * width + k ≡ length a + (i * width + k) = omega (arith, e) in
    ap (λ (n : ℕ). get_or (a ++ rs) n 0) h ∙ get_or-append-add a rs (i * width + k) 0 in
    let h : suc i * width ≡ length a + i * width = omega (arith, e) in
    let at0 : get_or (a ++ rs) (suc i * width) 0 ≡ get_or rs (i * width) 0 =
    ap (λ (n : ℕ). get_or (a ++ rs) n 0) h ∙ get_or-append-add a rs (i * width) 0 in
    let h3 : suc i * width + 3 ≡ length a + (i * width + 3) = omega (arith, e) in
    let past : drop (suc i * width + 3) (a ++ rs) ≡ drop (i * width + 3) rs =
    ap (λ (n : ℕ). drop n (a ++ rs)) h3 ∙ drop-append-add a rs (i * width + 3) in
    term-same (record_in (a ++ rs) (z ∷ ls) (suc i)) (record_in rs ls i) at0 (at 1) (at 2) refl (ap (take 8) past)

-- a list that is long enough, from place a on, by its first three numbers
drop-three :
    (rs : List ℕ) (a : ℕ) → a + 3 ≤ length rs →
    drop a rs ≡ get_or rs a 0 ∷ get_or rs (a + 1) 0 ∷ get_or rs (a + 2) 0 ∷ drop (a + 3) rs
drop-three rs a h =
    let e1 : suc a ≡ a + 1 = omega arith in
    let e2 : suc (a + 1) ≡ a + 2 = omega arith in
    let e3 : suc (a + 2) ≡ a + 3 = omega arith in
    drop-cons rs a 0 (omega arith)
    ∙ ap (λ (l : List ℕ). get_or rs a 0 ∷ l)
    (ap (λ (n : ℕ). drop n rs) e1
    ∙ drop-cons rs (a + 1) 0 (omega arith)
    ∙ ap (λ (l : List ℕ). get_or rs (a + 1) 0 ∷ l)
    (ap (λ (n : ℕ). drop n rs) e2
    ∙ drop-cons rs (a + 2) 0 (omega arith)
    ∙ ap (λ (n : ℕ). get_or rs (a + 2) 0 ∷ drop n rs) e3))

-- the numbers of record i are those that stand there
pub numbers-record_in :
    (rs : List ℕ) (ls : List ℤ) (i : ℕ) → HasRecord rs i →
    numbers (record_in rs ls i) ≡ take (records_length 1) (drop (records_length i) rs)
unfolding record_in
numbers-record_in rs ls i h = sym (ap (take width) (drop-three rs (i * width) (omega arith)))
