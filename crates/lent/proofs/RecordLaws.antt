-- Laws on the list of records and its flat form: the two mean the same store. Assumes nothing.
use Prim.Native.Nat.{ℕ, zero, suc, ◌+◌, ◌≤◌, ◌<◌}
use mathlib.Core.Path.{◌≡◌, refl, ap, sym, ◌∙◌}
use mathlib.Core.List.{List, [], ◌∷◌, ◌++◌, append_assoc, append-nil}
use native.Mathlib.Omega.{arith}
use lib.ListN.{length, get_or, take, length-append}
use lib.Seq.{take-suc, take-add}
use lib.IntN.{ℤ, pos}
use Rattle.term_rules.specs.declared.Term.{Term}
use Rattle.term_rules.specs.Lent.{records_length, record_in, numbers}
use Rattle.term_rules.proofs.LayoutLaws.{numbers-length, record-first, record-next, numbers-record_in}
use Rattle.lent.specs.Records.{no_term, Eight, flat, literals_of, records_in}
use Rattle.lent.specs.Copies.{AllEight}

-- a record by its fields
abbrev pub term : ℕ → ℕ → ℕ → ℤ → List ℕ → Term
term k s c z ks = record { kind = k; symbol = s; count = c; literal = z; children = ks }

pub same-fields :
    {k k' s s' c c' : ℕ} {ks ks' : List ℕ} (z : ℤ) → k ≡ k' → s ≡ s' → c ≡ c' → ks ≡ ks' → term k s c z ks ≡ term k'
    s' c' z ks'
same-fields z p q r t = λ i. term (p i) (q i) (r i) z (t i)

pub flat_append : (ts us : List Term) → flat (ts ++ us) ≡ flat ts ++ flat us
unfolding flat
flat_append [] us = refl
flat_append (t ∷ ts) us = ap (λ (l : List ℕ). numbers t ++ l) (flat_append ts us) ∙ sym (append_assoc (numbers t)
    (flat ts) (flat us))

pub literals_of-append : (ts us : List Term) → literals_of (ts ++ us) ≡ literals_of ts ++ literals_of us
unfolding literals_of
literals_of-append [] us = refl
literals_of-append (t ∷ ts) us = ap (λ (l : List ℤ). t.literal ∷ l) (literals_of-append ts us)

pub literals_of-length : (ts : List Term) → length (literals_of ts) ≡ length ts
unfolding literals_of
literals_of-length [] = refl
literals_of-length (t ∷ ts) = ap suc (literals_of-length ts)

pub all_eight-tail : (t : Term) (ts : List Term) → AllEight (t ∷ ts) → AllEight ts
unfolding AllEight
all_eight-tail t ts all i h = all (suc i) (omega arith)

pub all_eight-head : (t : Term) (ts : List Term) → AllEight (t ∷ ts) → Eight t
unfolding AllEight
all_eight-head t ts all = all 0 (omega arith)

pub flat-length : (ts : List Term) → AllEight ts → length (flat ts) ≡ records_length (length ts)
unfolding flat
flat-length [] all = refl
flat-length (t ∷ ts) all =
    length-append (numbers t) (flat ts)
    ∙ omega (arith, numbers-length t (all_eight-head t ts all), flat-length ts (all_eight-tail t ts all))

-- record i of the flat lists is the i-th record
pub record_in-flat :
    (ts : List Term) (i : ℕ) → AllEight ts → i < length ts → record_in (flat ts) (literals_of ts) i ≡ get_or ts i no_term
unfolding flat literals_of
record_in-flat [] i all h = absurd (omega arith)
record_in-flat (t ∷ ts) zero all h = record-first t (flat ts) (literals_of ts) (all_eight-head t ts all)
record_in-flat (t ∷ ts) (suc i) all h =
    record-next (numbers t) (flat ts) t.literal (literals_of ts) i (numbers-length t (all_eight-head t ts all))
    ∙ record_in-flat ts i (all_eight-tail t ts all) (omega arith)

-- the first n records of the flat lists are the first n records
pub records_in-flat :
    (ts : List Term) (n : ℕ) → AllEight ts → n ≤ length ts → records_in (flat ts) (literals_of ts) n ≡ take n ts
unfolding records_in
records_in-flat ts zero all h = refl
records_in-flat ts (suc n) all h =
    rw (records_in-flat ts n all (omega arith), record_in-flat ts n all (omega arith)) (sym (take-suc ts n no_term
    (omega arith)))

pub records_in-length : (rs : List ℕ) (ls : List ℤ) (n : ℕ) → length (records_in rs ls n) ≡ n
unfolding records_in
records_in-length rs ls zero = refl
records_in-length rs ls (suc n) =
    length-append (records_in rs ls n) (record_in rs ls n ∷ []) ∙ omega (arith, records_in-length rs ls n)

-- the first n records of flat lists, flattened again, are the numbers that stand there
pub flat-records_in :
    (rs : List ℕ) (ls : List ℤ) (n : ℕ) → records_length n ≤ length rs →
    flat (records_in rs ls n) ≡ take (records_length n) rs
unfolding flat records_in
flat-records_in rs ls zero h = refl
flat-records_in rs ls (suc n) h =
    let e : records_length n + records_length 1 ≡ records_length (suc n) = omega arith in
    flat_append (records_in rs ls n) (record_in rs ls n ∷ [])
    ∙ rw (
      flat-records_in rs ls n (omega arith),
      append-nil (numbers (record_in rs ls n)),
      numbers-record_in rs ls n
          (omega arith),
    ) refl
    ∙ sym (take-add (records_length n) (records_length 1) rs)
    ∙ ap (λ (k : ℕ). take k rs) e

pub literals_of-records_in :
    (rs : List ℕ) (ls : List ℤ) (n : ℕ) → n ≤ length ls → literals_of (records_in rs ls n) ≡ take n ls
unfolding literals_of records_in record_in
literals_of-records_in rs ls zero h = refl
literals_of-records_in rs ls (suc n) h =
    literals_of-append (records_in rs ls n) (record_in rs ls n ∷ [])
    ∙ ap (λ (l : List ℤ). l ++ (get_or ls n (pos 0) ∷ [])) (literals_of-records_in rs ls n (omega arith))
    ∙ sym (take-suc ls n (pos 0) (omega arith))
