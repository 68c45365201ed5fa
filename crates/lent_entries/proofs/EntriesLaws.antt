-- Laws on the list of name entries and its flat form: the two mean the same symbol table. Assumes nothing.
use Prim.Native.Nat.{ℕ, zero, suc, ◌+◌, ◌≤◌, ◌<◌, min}
use mathlib.Core.Path.{◌≡◌, refl, ap, sym, ◌∙◌, subst}
use mathlib.Core.Logic.{inl, inr}
use mathlib.Core.List.{List, [], ◌∷◌, ◌++◌, append_assoc, append-nil}
use native.Mathlib.Nat.{eq-or-lt_of_le}
use native.Mathlib.Numerals.{add-one}
use native.Mathlib.Omega.{arith}
use lib.ListN.{length, get_or, take, drop, set, length-append, length-take, length-drop}
use lib.Seq.{take_all, take-suc, take-add, take_at, take-nil, take-paste, take-append-le, drop-cons, drop-nil, drop-append-add, drop-append-le, get_or-take, set_at}
use Rattle.name.specs.Entries.{entry_width, entries_length, HasEntry, entry_at, put_entry, length_in, name_in, name_at}
use Rattle.name.proofs.EntryLaws.{name_at-entry}
use Rattle.lent_entries.specs.Entries.{entries_of, entries_in, AllWide, LoadedNames, entries_after}

pub entries_of-append : (es fs : List (List ℕ)) → entries_of (es ++ fs) ≡ entries_of es ++ entries_of fs
unfolding entries_of
entries_of-append [] fs = refl
entries_of-append (e ∷ es) fs =
    ap (λ (l : List ℕ). e ++ l) (entries_of-append es fs) ∙ sym (append_assoc e (entries_of es) (entries_of fs))

pub all_wide-head : (e : List ℕ) (es : List (List ℕ)) → AllWide (e ∷ es) → length e ≡ entry_width
unfolding AllWide
all_wide-head e es all = all 0 (omega arith)

pub all_wide-tail : (e : List ℕ) (es : List (List ℕ)) → AllWide (e ∷ es) → AllWide es
unfolding AllWide
all_wide-tail e es all k h = all (suc k) (omega arith)

pub entries_of-length : (es : List (List ℕ)) → AllWide es → length (entries_of es) ≡ entries_length (length es)
unfolding entries_of
entries_of-length [] all = refl
entries_of-length (e ∷ es) all =
    length-append e (entries_of es)
    ∙ omega (arith, all_wide-head e es all, entries_of-length es (all_wide-tail e es all))

-- the bytes of entry k stand where entry k begins
pub entry-get :
    (es : List (List ℕ)) (k : ℕ) → AllWide es → k < length es → entry_at (entries_of es) k ≡ get_or es k []
unfolding entries_of
entry-get [] k all h = absurd (omega arith)
entry-get (e ∷ es) zero all h = take_at e (entries_of es) entry_width (all_wide-head e es all)
entry-get (e ∷ es) (suc k) all h =
    let m : entries_length (suc k) ≡ length e + entries_length k = omega (arith, all_wide-head e es all) in
    ap (λ (n : ℕ). take entry_width (drop n (e ++ entries_of es))) m
    ∙ ap (take entry_width) (drop-append-add e (entries_of es) (entries_length k))
    ∙ entry-get es k (all_wide-tail e es all) (omega arith)

-- the first n entries of the flat table are the first n entries
pub entries_in-entries_of : (es : List (List ℕ)) (n : ℕ) → AllWide es → n ≤ length es → entries_in (entries_of es) n ≡
    take n es
unfolding entries_in
entries_in-entries_of es zero all h = refl
entries_in-entries_of es (suc n) all h =
    rw (entries_in-entries_of es n all (omega arith), entry-get es n all (omega arith)) (sym (take-suc es n [] (omega
    arith)))

pub entries_in-length : (bs : List ℕ) (n : ℕ) → length (entries_in bs n) ≡ n
unfolding entries_in
entries_in-length bs zero = refl
entries_in-length bs (suc n) =
    length-append (entries_in bs n) (entry_at bs n ∷ []) ∙ omega (arith, entries_in-length bs n)

-- the first n entries of a flat table, flattened again, are the bytes that stand there
pub entries_of-entries_in : (bs : List ℕ) (n : ℕ) → entries_of (entries_in bs n) ≡ take (entries_length n) bs
unfolding entries_of entries_in
entries_of-entries_in bs zero = refl
entries_of-entries_in bs (suc n) =
    let e : entries_length n + entry_width ≡ entries_length (suc n) = omega arith in
    entries_of-append (entries_in bs n) (entry_at bs n ∷ [])
    ∙ rw (entries_of-entries_in bs n, append-nil (entry_at bs n)) refl
    ∙ sym (take-add (entries_length n) entry_width bs)
    ∙ ap (λ (k : ℕ). take k bs) e

-- the name of symbol k is the name that entry k holds, where its length is one of an entry
pub name_at-entries_of :
    (es : List (List ℕ)) (k : ℕ) → AllWide es → k < length es → length_in (get_or es k []) ≤ 31 →
    name_at (entries_of es) k ≡ name_in (get_or es k [])
name_at-entries_of es k all h short =
    let e : entry_at (entries_of es) k ≡ get_or es k [] = entry-get es k all h in
    name_at-entry (entries_of es) k (rw e short) ∙ ap name_in e

-- ---- copying, entry by entry
pub record CopiedNames (ns : List (List ℕ)) (k : ℕ) (bs : List ℕ) : Type 0 where
  pub bytes : take (entries_length k) bs ≡ entries_of (take k ns)
  pub wide : AllWide (take k ns)

pub copied_none : (ns : List (List ℕ)) (bs : List ℕ) → CopiedNames ns 0 bs
unfolding entries_of AllWide
copied_none ns bs = record { bytes = refl; wide = λ k h. absurd (omega arith) }

wide-more :
    (ns : List (List ℕ)) (i : ℕ) → i < length ns → AllWide (take i ns) → length (get_or ns i []) ≡ entry_width → AllWide (take
    (suc i) ns)
unfolding AllWide
wide-more ns i l all e j h = elim (eq-or-lt_of_le before) [ inl s ↦ new s | inr s ↦ old s ]
  where
    before : j ≤ i
    before = omega (arith, h, length-take (suc i) ns)

    old : j < i → length (get_or (take (suc i) ns) j []) ≡ entry_width
    old s =
        subst (λ (e : List ℕ). length e ≡ entry_width) (get_or-take i ns j [] s ∙ sym (get_or-take (suc i) ns j [] (omega arith)))
        (all j (omega (arith, s, l, length-take i ns)))

    new : j ≡ i → length (get_or (take (suc i) ns) j []) ≡ entry_width
    new s =
        subst (λ (e : List ℕ). length e ≡ entry_width)
        (sym (get_or-take (suc i) ns j [] (omega arith) ∙ ap (λ (k : ℕ). get_or ns k []) s)) e

pub copied_more :
    (ns : List (List ℕ)) (k : ℕ) (bs e : List ℕ) →
    k < length ns → e ≡ get_or ns k [] → length e ≡ entry_width → HasEntry bs k → CopiedNames ns k bs →
    CopiedNames ns (k + 1) (put_entry bs k e)
unfolding entries_of
copied_more ns k bs e l is w long c =
    let m : entries_length (k + 1) ≡ entries_length k + entry_width = omega arith in
    let n : k + 1 ≡ suc k = add-one k in
    record {
      bytes =
          ap (λ (i : ℕ). take i (put_entry bs k e)) m
          ∙ take-paste bs (entries_length k) e entry_width (omega arith) (omega arith)
          ∙ ap (λ (s : List ℕ). take (entries_length k) bs ++ s) (take_all entry_width e (omega arith))
          ∙ ap (λ (s : List ℕ). s ++ e) c.bytes
          ∙ ap (λ (s : List ℕ). entries_of (take k ns) ++ s) (is ∙ sym (append-nil (get_or ns k [])))
          ∙ sym (entries_of-append (take k ns) (get_or ns k [] ∷ []))
          ∙ ap entries_of (sym (take-suc ns k [] l))
          ∙ ap (λ (i : ℕ). entries_of (take i ns)) (sym n);
      wide =
          subst (λ (i : ℕ). AllWide (take i ns)) (sym n)
          (wide-more ns k l c.wide (subst (λ (s : List ℕ). length s ≡ entry_width) is w));
    }

-- what is past the end of a list takes nothing more
pub take_min {ℓ} : {X : Type ℓ} (a : ℕ) (l : List X) → take (min a (length l)) l ≡ take a l
take_min a [] = take-nil (min a 0) ∙ sym (take-nil a)
take_min zero (x ∷ l) = let e : min 0 (suc (length l)) ≡ 0 = omega arith in ap (λ (n : ℕ). take n (x ∷ l)) e
take_min (suc a) (x ∷ l) =
    let e : min (suc a) (suc (length l)) ≡ suc (min a (length l)) = omega arith in
    ap (λ (n : ℕ). take n (x ∷ l)) e ∙ ap (◌∷◌ x) (take_min a l)

-- what is past the end of a list drops nothing more
pub drop_min {ℓ} : {X : Type ℓ} (a : ℕ) (l : List X) → drop (min a (length l)) l ≡ drop a l
drop_min a [] = drop-nil (min a 0) ∙ sym (drop-nil a)
drop_min zero (x ∷ l) = let e : min 0 (suc (length l)) ≡ 0 = omega arith in ap (λ (n : ℕ). drop n (x ∷ l)) e
drop_min (suc a) (x ∷ l) =
    let e : min (suc a) (suc (length l)) ≡ suc (min a (length l)) = omega arith in
    ap (λ (n : ℕ). drop n (x ∷ l)) e ∙ drop_min a l

pub copied-whole :
    (ns : List (List ℕ)) (n : ℕ) (bs₀ bs : List ℕ) →
    n ≡ min 128 (length ns) → length bs ≡ length bs₀ → CopiedNames ns n bs → LoadedNames ns bs₀ n bs
copied-whole ns n bs₀ bs e long c =
    let same : take n ns ≡ take 128 ns = ap (λ (k : ℕ). take k ns) e ∙ take_min 128 ns in
    record {
      room = e;
      bytes = c.bytes ∙ ap entries_of same;
      long = long;
      wide = subst AllWide same c.wide;
    }

-- the list with its first k entries put back
abbrev pub put_to : List (List ℕ) → List ℕ → ℕ → List (List ℕ)
put_to ns bs k = entries_in bs k ++ drop k ns

pub put_to-none : (ns : List (List ℕ)) (bs : List ℕ) → ns ≡ put_to ns bs 0
unfolding entries_in
put_to-none ns bs = refl

pub put_to-more :
    (ns : List (List ℕ)) (bs e : List ℕ) (k : ℕ) → k < length ns → e ≡ entry_at bs k →
    set (put_to ns bs k) k e ≡ put_to ns bs (k + 1)
unfolding entries_in
put_to-more ns bs e k l is =
    ap (λ (v : List ℕ). set (put_to ns bs k) k v) is
    ∙ ap (λ (t : List (List ℕ)). set (entries_in bs k ++ t) k (entry_at bs k)) (drop-cons ns k [] l)
    ∙ set_at (entries_in bs k) (get_or ns k []) (drop (suc k) ns) (entry_at bs k) k (entries_in-length bs k)
    ∙ sym (append_assoc (entries_in bs k) (entry_at bs k ∷ []) (drop (suc k) ns))
    ∙ ap (λ (i : ℕ). entries_in bs i ++ drop i ns) (sym (add-one k))

pub put_to-whole :
    (ns : List (List ℕ)) (bs : List ℕ) (n : ℕ) → n ≡ min 128 (length ns) → put_to ns bs n ≡ entries_after ns bs
unfolding entries_after
put_to-whole ns bs n e =
    ap (λ (k : ℕ). put_to ns bs k) e
    ∙ ap (λ (t : List (List ℕ)). entries_in bs (min 128 (length ns)) ++ t) (drop_min 128 ns)

-- the first k entries need no more than their bytes
entries_in-front : (a b : List ℕ) (k : ℕ) → entries_length k ≤ length a → entries_in (a ++ b) k ≡ entries_in a k
unfolding entries_in
entries_in-front a b zero h = refl
entries_in-front a b (suc k) h =
    let at : entries_length k ≤ length a = omega arith in
    let part : entry_at (a ++ b) k ≡ entry_at a k =
    ap (take entry_width) (drop-append-le (entries_length k) a b at)
    ∙ take-append-le entry_width (drop (entries_length k) a) b (omega (arith, length-drop (entries_length k) a)) in
    rw (entries_in-front a b k at, part)

pub entries_after-front :
    (ns : List (List ℕ)) (a b : List ℕ) → length a ≡ entries_length (min 128 (length ns)) → entries_after ns (a ++ b) ≡
    entries_after ns a
unfolding entries_after
entries_after-front ns a b e =
    ap (λ (l : List (List ℕ)). l ++ drop 128 ns) (entries_in-front a b (min 128 (length ns)) (omega (arith, e)))
