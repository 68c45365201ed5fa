-- The lent lists and the flat lists mean the same store. Assumes nothing.
use Prim.Native.Nat.{ℕ, zero, suc, ◌≤◌, ◌<◌, min}
use mathlib.Core.Path.{◌≡◌, refl, ap, sym, ◌∙◌, subst}
use mathlib.Core.Bool.{Bool, true, false, not}
use mathlib.Core.List.{List, [], ◌++◌, append-nil}
use native.Mathlib.Omega.{arith}
use lib.Dec.{T as Holds, leb, leb→le, nleb→lt}
use lib.ListN.{length, get_or, take, drop, length-take, take-append-drop, drop_of_length-le}
use lib.Seq.{get_or-take, take_at, take-length, take_all}
use lib.IntN.{ℤ}
use Rattle.name.specs.Entries.{entries_length, entry_room, length_in, name_in}
use Rattle.name.proofs.EntryLaws.{entry_room-whole}
use Rattle.lent_entries.specs.Entries.{entries_of, entries_in, AllWide, entries_after}
use Rattle.lent_entries.proofs.EntriesLaws.{
  entries_in-entries_of,
  entries_of-entries_in,
  entries_in-length,
  entries_of-length,
  name_at-entries_of,
  drop_min,
}
use Rattle.term_rules.specs.declared.Term.{Term}
use Rattle.term_rules.specs.Lent.{Store, store, records_length, record_room, record_at, symbol_at, term_room, symbol_room}
use Rattle.term_layout.proofs.TakeLaws.{record-take, room_whole}
use Rattle.lent.specs.declared.copied.Flat.{Flat}
use Rattle.lent.specs.Records.{no_term, flat, literals_of, lent_store, records_in, records_after}
use Rattle.lent.specs.declared.copied.StoreCopy.{StoreCopy}
use Rattle.lent.specs.Copies.{AllEight, Loaded, CopyOf, store_in}
use Rattle.lent.proofs.RecordLaws.{record_in-flat, flat-length, literals_of-length, records_in-flat, records_in-length, flat-records_in, literals_of-records_in}

-- what is copied is the lent store
pub loaded-store :
    (ts : List Term) (ns : List (List ℕ)) (f : Flat) (n m : ℕ) → Loaded ts f → store_in f ns n m ≡ lent_store ts ns n m
unfolding store_in lent_store
loaded-store ts ns f n m l = rw (l.numbers, l.literals)

-- as many records as were copied can be put back
pub loaded-fits :
    (ts : List Term) (f g : Flat) → Loaded ts f → g.room ≡ f.room → (g.room ≤ length ts) × (g.room ≤ 1024)
loaded-fits ts f g l e = (omega (arith, e, l.room), omega (arith, e, l.room))

-- the same with the names copied too
pub store_in-is :
    (f : Flat) (ns : List (List ℕ)) (n m : ℕ) (bs : List ℕ) → bs ≡ entries_of (take 128 ns) →
    store (take (records_length f.room) f.records) (take f.room f.literals) bs n m ≡ store_in f ns n m
unfolding store_in
store_in-is f ns n m bs e = rw e

-- the store that a call's own copy holds is the lent store
pub copied-store :
    (ts : List Term) (ns : List (List ℕ)) (c : StoreCopy) (n m : ℕ) → CopyOf ts ns c →
    store (take c.numbers c.flat.records) (take c.flat.room c.flat.literals) (take c.bytes c.names) n m ≡ lent_store ts
    ns n m
copied-store ts ns c n m k =
    ap (λ (e : ℕ). store (take e c.flat.records) (take c.flat.room c.flat.literals) (take c.bytes c.names) n m) k.numbers
    ∙ store_in-is c.flat ns n m (take c.bytes c.names) k.entries
    ∙ loaded-store ts ns c.flat n m k.records

-- the records of the store are the lent records
pub lent_store-record :
    (ts : List Term) (ns : List (List ℕ)) (n m i : ℕ) → AllEight (take 1024 ts) → i < length (take 1024 ts) →
    record_at (lent_store ts ns n m) i ≡ get_or ts i no_term
unfolding lent_store
lent_store-record ts ns n m i all h =
    record_in-flat (take 1024 ts) i all h ∙ get_or-take 1024 ts i no_term (omega (arith, length-take 1024 ts))

-- the names of the store are those that the lent entries hold
pub lent_store-symbol :
    (ts : List Term) (ns : List (List ℕ)) (n m k : ℕ) → AllWide (take 128 ns) → k < length (take 128 ns) →
    length_in (get_or ns k []) ≤ 31 → symbol_at (lent_store ts ns n m) k ≡ name_in (get_or ns k [])
unfolding lent_store
lent_store-symbol ts ns n m k all h short =
    let same : get_or (take 128 ns) k [] ≡ get_or ns k [] = get_or-take 128 ns k [] (omega (arith, length-take 128 ns)) in
    name_at-entries_of (take 128 ns) k all h (subst (λ (e : List ℕ). length_in e ≤ 31) (sym same) short) ∙ ap name_in same

-- a store that is as it was leaves the records as they were
pub records_after-same :
    (ts : List Term) (ns : List (List ℕ)) (n m : ℕ) → AllEight (take 1024 ts) → records_after ts (lent_store ts ns n m)
    ≡ ts
unfolding records_after lent_store
records_after-same ts ns n m all =
    let e : min 1024 (length ts) ≡ length (take 1024 ts) = sym (length-take 1024 ts) in
    ap (λ (k : ℕ). records_in (flat (take 1024 ts)) (literals_of (take 1024 ts)) k ++ drop 1024 ts) e
    ∙ ap (λ (l : List Term). l ++ drop 1024 ts)
    (records_in-flat (take 1024 ts) (length (take 1024 ts)) all (omega arith) ∙ take-length (take 1024 ts))
    ∙ take-append-drop 1024 ts

pub entries_after-same :
    (ns : List (List ℕ)) → AllWide (take 128 ns) → entries_after ns (entries_of (take 128 ns)) ≡ ns
unfolding entries_after
entries_after-same ns all =
    let e : min 128 (length ns) ≡ length (take 128 ns) = sym (length-take 128 ns) in
    ap (λ (k : ℕ). entries_in (entries_of (take 128 ns)) k ++ drop 128 ns) e
    ∙ ap (λ (l : List (List ℕ)). l ++ drop 128 ns)
    (entries_in-entries_of (take 128 ns) (length (take 128 ns)) all (omega arith) ∙ take-length (take 128 ns))
    ∙ take-append-drop 128 ns

-- a list put in front of what is past a, where it is as long as what it takes the place of
take-front {ℓ} : {X : Type ℓ} (a : ℕ) (l p : List X) → length p ≡ min a (length l) → take a (p ++ drop a l) ≡ p
take-front {X = X} a l p e = cases (leb a (length l)) refl
  where
    cases : (z : Bool) → leb a (length l) ≡ z → take a (p ++ drop a l) ≡ p
    cases true t =
        let h : a ≤ length l = leb→le a (length l) (subst Holds (sym t) tt) in
        take_at p (drop a l) a (omega arith)
    cases false t =
        let h : length l < a = nleb→lt a (length l) (subst (λ (z : Bool). Holds (not z)) (sym t) tt) in
        ap (λ (k : List X). take a (p ++ k)) (drop_of_length-le l {i = a} (omega arith))
        ∙ ap (take a) (append-nil p)
        ∙ take_all a p (omega arith)

-- the lent lists after a call are the store after it, where its lists are as long as those of the lent store
pub lent_store-after :
    (ts : List Term) (ns : List (List ℕ)) (s : Store) (n m : ℕ) → length s.records ≡ records_length (min 1024 (length ts)) →
    length s.literals ≡ min 1024 (length ts) → length s.names ≡ entries_length (min 128 (length ns)) →
    lent_store (records_after ts s) (entries_after ns s.names) n m ≡ store s.records s.literals s.names n m
unfolding lent_store records_after entries_after
lent_store-after ts ns s n m long wide named =
    let rs : List Term = records_in s.records s.literals (min 1024 (length ts)) in
    let records : take 1024 (rs ++ drop 1024 ts) ≡ rs =
    take-front 1024 ts rs (records_in-length s.records s.literals (min 1024 (length ts))) in
    let es : List (List ℕ) = entries_in s.names (min 128 (length ns)) in
    let entries : take 128 (es ++ drop 128 ns) ≡ es =
    take-front 128 ns es (entries_in-length s.names (min 128 (length ns))) in
    let numbers : flat (take 1024 (rs ++ drop 1024 ts)) ≡ s.records =
    ap flat records
    ∙ flat-records_in s.records s.literals (min 1024 (length ts)) (omega arith)
    ∙ take_all (records_length (min 1024 (length ts))) s.records (omega arith) in
    let literals : literals_of (take 1024 (rs ++ drop 1024 ts)) ≡ s.literals =
    ap literals_of records
    ∙ literals_of-records_in s.records s.literals (min 1024 (length ts)) (omega arith)
    ∙ take_all (min 1024 (length ts)) s.literals (omega arith) in
    let names : entries_of (take 128 (es ++ drop 128 ns)) ≡ s.names =
    ap entries_of entries
    ∙ entries_of-entries_in s.names (min 128 (length ns))
    ∙ take_all (entries_length (min 128 (length ns))) s.names (omega arith) in
    λ i. store (numbers i) (literals i) (names i) n m

-- the first k records need no more than their numbers and literals
pub records_in-take :
    (rs : List ℕ) (ls : List ℤ) (n k : ℕ) → k ≤ n → records_in (take (records_length n) rs) (take n ls) k ≡ records_in rs ls k
unfolding records_in
records_in-take rs ls n zero h = refl
records_in-take rs ls n (suc k) h = rw (records_in-take rs ls n k (omega arith), record-take rs ls n k (omega arith))

-- what is put back from the arrays is the store that they hold
pub records_after-store_in :
    (ts : List Term) (ns : List (List ℕ)) (f : Flat) (n m : ℕ) → f.room ≡ min 1024 (length ts) →
    records_in f.records f.literals f.room ++ drop f.room ts ≡ records_after ts (store_in f ns n m)
unfolding records_after store_in
records_after-store_in ts ns f n m e =
    ap (λ (l : List Term). l ++ drop f.room ts) (sym (records_in-take f.records f.literals f.room f.room (omega arith)))
    ∙ ap (λ (k : ℕ). records_in (take (records_length f.room) f.records) (take f.room f.literals) k ++ drop k ts) e
    ∙ ap (λ (l : List Term). records_in (take (records_length f.room) f.records) (take f.room f.literals) (min 1024
    (length ts)) ++ l)
    (drop_min 1024 ts)

-- what is put back depends on the numbers and the literals alone
pub records_after-lists :
    (ts : List Term) (f : Flat) (ns : List (List ℕ)) (n m : ℕ) (s : Store) →
    take (records_length f.room) f.records ≡ s.records → take f.room f.literals ≡ s.literals →
    records_after ts (store_in f ns n m) ≡ records_after ts s
unfolding records_after store_in
records_after-lists ts f ns n m s p q = λ i. records_in (p i) (q i) (min 1024 (length ts)) ++ drop 1024 ts

-- "the store's room (its lent lengths, at most 1,024 and 128)"
pub lent_store-room :
    (ts : List Term) (ns : List (List ℕ)) (n m : ℕ) → AllEight (take 1024 ts) →
    term_room (lent_store ts ns n m) ≡ min 1024 (length ts)
unfolding term_room lent_store
lent_store-room ts ns n m all =
    let k : ℕ = length (take 1024 ts) in
    let numbers : record_room (length (flat (take 1024 ts))) ≡ length (take 1024 ts) =
    ap record_room (flat-length (take 1024 ts) all) ∙ room_whole (length (take 1024 ts)) in
    rw numbers (omega (arith, literals_of-length (take 1024 ts), length-take 1024 ts))

pub lent_store-name_room :
    (ts : List Term) (ns : List (List ℕ)) (n m : ℕ) → AllWide (take 128 ns) →
    symbol_room (lent_store ts ns n m) ≡ min 128 (length ns)
unfolding symbol_room lent_store
lent_store-name_room ts ns n m all =
    let bytes : entry_room (length (entries_of (take 128 ns))) ≡ length (take 128 ns) =
    ap entry_room (entries_of-length (take 128 ns) all) ∙ entry_room-whole (length (take 128 ns)) in
    rw bytes (omega (arith, length-take 128 ns))

-- the records of a store are one list
pub lent_store-once :
    (ts ts' : List Term) (ns ns' : List (List ℕ)) (n m : ℕ) → AllEight (take 1024 ts) → AllEight (take 1024 ts') →
    AllWide (take 128 ns) → AllWide (take 128 ns') → lent_store ts ns n m ≡ lent_store ts' ns' n m →
    (take 1024 ts ≡ take 1024 ts') × (take 128 ns ≡ take 128 ns')
unfolding lent_store
lent_store-once ts ts' ns ns' n m all all' wide wide' e = (
  records-of ts all ∙ ap (λ (s : Store). records_in s.records s.literals (length s.literals)) e ∙ sym
      (records-of ts' all'),
  entries-of ns wide ∙ ap (λ (s : Store). entries_in s.names (entry_room (length s.names))) e ∙ sym
      (entries-of ns' wide'),
)
  where
    records-of :
        (us : List Term) → AllEight (take 1024 us) →
        take 1024 us ≡ records_in (flat (take 1024 us)) (literals_of (take 1024 us))
        (length (literals_of (take 1024 us)))
    records-of us a =
        sym (take-length (take 1024 us))
        ∙ sym (records_in-flat (take 1024 us) (length (take 1024 us)) a (omega arith))
        ∙ ap (records_in (flat (take 1024 us)) (literals_of (take 1024 us))) (sym (literals_of-length (take 1024 us)))

    entries-of :
        (us : List (List ℕ)) → AllWide (take 128 us) →
        take 128 us ≡ entries_in (entries_of (take 128 us)) (entry_room (length (entries_of (take 128 us))))
    entries-of us a =
        sym (take-length (take 128 us))
        ∙ sym (entries_in-entries_of (take 128 us) (length (take 128 us)) a (omega arith))
        ∙ ap (entries_in (entries_of (take 128 us)))
        (sym (ap entry_room (entries_of-length (take 128 us) a) ∙ entry_room-whole (length (take 128 us))))
