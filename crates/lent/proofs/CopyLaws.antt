-- Laws on copying the records into flat arrays and back, one record at a time. Assumes nothing.
use Prim.Native.Nat.{ℕ, suc, ◌+◌, ◌≤◌, ◌<◌, min}
use mathlib.Core.Path.{◌≡◌, refl, ap, sym, ◌∙◌, subst}
use mathlib.Core.Logic.{inl, inr}
use mathlib.Core.List.{List, [], ◌∷◌, ◌++◌, append_assoc, append-nil}
use native.Mathlib.Nat.{eq-or-lt_of_le}
use native.Mathlib.Numerals.{add-one}
use native.Mathlib.Omega.{arith}
use lib.ListN.{length, get_or, take, drop, set, length-take}
use lib.Seq.{take-suc, take-suc-set, drop-cons, get_or-take, set_at}
use lib.IntN.{ℤ}
use Rattle.term_rules.specs.declared.Term.{Term}
use Rattle.term_rules.specs.Lent.{records_length, HasRecord, record_in, numbers as numbers_of, put_record}
use Rattle.term_rules.proofs.LayoutLaws.{take_put}
use Rattle.lent.specs.declared.copied.Flat.{Flat}
use Rattle.lent.specs.Records.{no_term, Eight, flat, literals_of, records_in}
use Rattle.lent.specs.Copies.{AllEight, Loaded}
use Rattle.lent_entries.proofs.EntriesLaws.{take_min}
use Rattle.lent.proofs.RecordLaws.{flat_append, literals_of-append, records_in-length}

-- the first i records are copied
pub record Copied (ys : List Term) (i : ℕ) (rs : List ℕ) (ls : List ℤ) : Type 0 where
  pub numbers : take (records_length i) rs ≡ flat (take i ys)
  pub literals : take i ls ≡ literals_of (take i ys)
  pub eight : AllEight (take i ys)

pub copied_none : (ys : List Term) (rs : List ℕ) (ls : List ℤ) → Copied ys 0 rs ls
unfolding flat literals_of AllEight
copied_none ys rs ls = record { numbers = refl; literals = refl; eight = λ i h. absurd (omega arith) }

module _ (ys : List Term) (i : ℕ) (l : i < length ys) where
  flat-more : flat (take (suc i) ys) ≡ flat (take i ys) ++ numbers_of (get_or ys i no_term)
  unfolding flat
  flat-more =
      ap flat (take-suc ys i no_term l)
      ∙ flat_append (take i ys) (get_or ys i no_term ∷ [])
      ∙ ap (λ (k : List ℕ). flat (take i ys) ++ k) (append-nil (numbers_of (get_or ys i no_term)))

  literals-more : literals_of (take (suc i) ys) ≡ literals_of (take i ys) ++ ((get_or ys i no_term).literal ∷ [])
  unfolding literals_of
  literals-more = ap literals_of (take-suc ys i no_term l) ∙ literals_of-append (take i ys) (get_or ys i no_term ∷ [])

  eight-more : AllEight (take i ys) → Eight (get_or ys i no_term) → AllEight (take (suc i) ys)
  unfolding AllEight
  eight-more all e j h = elim (eq-or-lt_of_le before) [ inl s ↦ new s | inr s ↦ old s ]
    where
      before : j ≤ i
      before = omega (arith, h, length-take (suc i) ys)

      old : j < i → Eight (get_or (take (suc i) ys) j no_term)
      old s =
          subst Eight (get_or-take i ys j no_term s ∙ sym (get_or-take (suc i) ys j no_term (omega arith)))
          (all j (omega (arith, s, l, length-take i ys)))

      new : j ≡ i → Eight (get_or (take (suc i) ys) j no_term)
      new s = subst Eight (sym (get_or-take (suc i) ys j no_term (omega arith) ∙ ap (λ (k : ℕ). get_or ys k no_term) s)) e

pub copied_more :
    (ys : List Term) (i : ℕ) (rs : List ℕ) (ls : List ℤ) (t : Term) →
    i < length ys → t ≡ get_or ys i no_term → Eight t → HasRecord rs i → i < length ls → Copied ys i rs ls →
    Copied ys (i + 1) (put_record rs i t) (set ls i t.literal)
copied_more ys i rs ls t l is e long wide c =
    let n : i + 1 ≡ suc i = add-one i in
    record {
      numbers =
          ap (λ (k : ℕ). take (records_length k) (put_record rs i t)) n
          ∙ take_put rs i t (omega arith) e
          ∙ ap (λ (k : List ℕ). k ++ numbers_of t) c.numbers
          ∙ ap (λ (u : Term). flat (take i ys) ++ numbers_of u) is
          ∙ sym (flat-more ys i l)
          ∙ ap (λ (k : ℕ). flat (take k ys)) (sym n);
      literals =
          ap (λ (k : ℕ). take k (set ls i t.literal)) n
          ∙ take-suc-set ls i t.literal wide
          ∙ ap (λ (k : List ℤ). k ++ (t.literal ∷ [])) c.literals
          ∙ ap (λ (u : Term). literals_of (take i ys) ++ (u.literal ∷ [])) is
          ∙ sym (literals-more ys i l)
          ∙ ap (λ (k : ℕ). literals_of (take k ys)) (sym n);
      eight = subst (λ (k : ℕ). AllEight (take k ys)) (sym n) (eight-more ys i l c.eight (subst Eight is e));
    }

pub copied-whole :
    (ys : List Term) (f : Flat) → f.room ≡ min (length ys) 1024 → length f.records ≡ records_length 1024 →
    length f.literals ≡ 1024 → Copied ys f.room f.records f.literals → Loaded ys f
copied-whole ys f e long wide c =
    let room : f.room ≡ min 1024 (length ys) = omega arith in
    let same : take f.room ys ≡ take 1024 ys = ap (λ (k : ℕ). take k ys) room ∙ take_min 1024 ys in
    record {
      whole = record { long = long; wide = wide; within = omega arith };
      room = room;
      numbers = c.numbers ∙ ap flat same;
      literals = c.literals ∙ ap literals_of same;
      eight = subst AllEight same c.eight;
    }

-- the list with its first i records put back
abbrev pub put_to : List Term → List ℕ → List ℤ → ℕ → List Term
put_to ys rs ls i = records_in rs ls i ++ drop i ys

pub put_to-none : (ys : List Term) (rs : List ℕ) (ls : List ℤ) → ys ≡ put_to ys rs ls 0
unfolding records_in
put_to-none ys rs ls = refl

pub put_to-more :
    (ys : List Term) (rs : List ℕ) (ls : List ℤ) (i : ℕ) → i < length ys →
    set (put_to ys rs ls i) i (record_in rs ls i) ≡ put_to ys rs ls (i + 1)
unfolding records_in
put_to-more ys rs ls i l =
    ap (λ (k : List Term). set (records_in rs ls i ++ k) i (record_in rs ls i)) (drop-cons ys i no_term l)
    ∙ set_at (records_in rs ls i) (get_or ys i no_term) (drop (suc i) ys) (record_in rs ls i) i (records_in-length rs ls i)
    ∙ sym (append_assoc (records_in rs ls i) (record_in rs ls i ∷ []) (drop (suc i) ys))
    ∙ ap (λ (k : ℕ). records_in rs ls k ++ drop k ys) (sym (add-one i))
