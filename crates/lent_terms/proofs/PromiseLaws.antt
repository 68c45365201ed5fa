-- Laws behind the promises of the crate `lent_terms`. Assumes nothing.
use Prim.Native.Nat.{ℕ, ◌≤◌, ◌<◌, min}
use mathlib.Core.Path.{◌≡◌, refl, ap, sym, ◌∙◌, subst}
use mathlib.Core.Bool.{true}
use mathlib.Core.List.{List, [], ◌++◌}
use native.Mathlib.Omega.{arith}
use borrow.Author.Tests.{leb-true, leb-false, lt-ltb}
use lib.Dec.{leb}
use lib.ListN.{length, get_or, take, drop, length-append, drop_of_length-le}
use lib.Seq.{drop_at}
use Rattle.lent_entries.specs.Entries.{entries_in, entries_after}
use Rattle.lent_entries.proofs.EntriesLaws.{entries_in-length}
use Rattle.term_rules.specs.declared.Term.{Term}
use Rattle.term_rules.specs.Lent.{Store}
use Rattle.term_rules.specs.WellFormed.{well_formed}
use Rattle.term_rules.proofs.TestLaws.{cases}
use Rattle.lent.specs.Records.{no_term, literals_of, lent_store, records_in, records_after}
use Rattle.lent.specs.Promises.{Shaped}
use Rattle.lent.proofs.RecordLaws.{literals_of-length, records_in-length}
use Rattle.lent.proofs.Promises.{promises as lists}
use Rattle.std.specs.Prelude.{Result}
use Rattle.refusal.specs.declared.Refusal.{Refusal}
use Rattle.term_add.specs.declared.Added.{Added}
use Rattle.term.specs.Answers.{Answer, given, refused, seen_added, seen_got}
use Rattle.term.specs.Calls.{get_term, fine, get_faults, unless}
use Rattle.term.proofs.CallLaws.{get-given}
use Rattle.term.proofs.Promises.{promises}
use Rattle.lent_terms.specs.Lists.{LentAdded}
use Rattle.lent_terms.specs.Promises.{seen_lent, OnLists, RefusalKeeps, Reads}

-- what is seen of the lists after a call is what was wanted
pub lent_seen :
    (ts ts' : List Term) (ns ns' : List (List ℕ)) (n m : ℕ) (wanted : Answer ℕ × Store) (r : Result Added Refusal) →
    LentAdded ts ns n m wanted r ts' ns' →
    seen_lent r ts' ns' n m ≡ wanted
unfolding lent_store
lent_seen ts ts' ns ns' n m wanted r a =
    (λ i. seen_added r (a.held i).records (a.held i).literals (a.held i).names n m) ∙ a.answer

-- so what is promised of the flat call on every store is promised of the lists
pub carry :
    (model : Store → Answer ℕ × Store) (P : Store → Answer ℕ × Store → Type 0) →
    ((s : Store) → P s (model s)) →
    OnLists model (λ ts ns n m r ts' ns'. P (lent_store ts ns n m) (seen_lent r ts' ns' n m))
carry model P h ts ts' ns ns' n m r a =
    subst (P (lent_store ts ns n m)) (sym (lent_seen ts ts' ns ns' n m (model (lent_store ts ns n m)) r a))
    (h (lent_store ts ns n m))

-- and so of a call that only reads
pub read :
    {R A : Type 0} (model : Store → A) (seen : R → A) (P : Store → A → Type 0) →
    ((s : Store) → P s (model s)) →
    Reads model seen P
read model seen P h ts ns n m r e = subst (P (lent_store ts ns n m)) (sym e) (h (lent_store ts ns n m))

pub refusal-keeps :
    (model : Store → Answer ℕ × Store) →
    ((s : Store) (k : ℕ) → (model s).0 ≡ refused k → (model s).1 ≡ s) →
    RefusalKeeps model
refusal-keeps model unchanged ts ts' ns ns' n m r a k e =
    let s : Store = lent_store ts ns n m in
    a.unchanged
    (unchanged s k
    (sym (ap (λ (w : Answer ℕ × Store). w.0) (lent_seen ts ts' ns ns' n m (model s) r a)) ∙ e))

-- what is past a front as long as the part that it replaced
drop-front : {X : Type 0} (a : ℕ) (l p : List X) → length p ≡ min a (length l) → drop a (p ++ drop a l) ≡ drop a l
drop-front a l p e =
    cases (leb a (length l)) (λ t. drop_at p (drop a l) a (omega (arith, leb-true a (length l) t)))
    (λ t.
    let h : length l < a = leb-false a (length l) t in
    let none : drop a l ≡ [] = drop_of_length-le l {i = a} (omega arith) in
    drop_of_length-le (p ++ drop a l) {i = a} (omega (arith, length-append p (drop a l), ap length none)) ∙ sym none)

pub rest-stays :
    (model : Store → Answer ℕ × Store) →
    OnLists model (λ ts ns n m r ts' ns'. (drop 1024 ts' ≡ drop 1024 ts) × (drop 128 ns' ≡ drop 128 ns))
unfolding records_after entries_after
rest-stays model ts ts' ns ns' n m r a =
    let s : Store = (model (lent_store ts ns n m)).1 in (
      ap (drop 1024) a.records
          ∙ drop-front 1024 ts (records_in s.records s.literals (min 1024 (length ts)))
          (records_in-length s.records s.literals (min 1024 (length ts))),
      ap (drop 128) a.entries
          ∙ drop-front 128 ns (entries_in s.names (min 128 (length ns)))
          (entries_in-length s.names (min 128 (length ns))),
    )

no-fault : (s : Store) (i : ℕ) → well_formed s ≡ true → i < s.terms → fine ≡ get_faults s i
unfolding get_faults unless
no-fault s i w h = rw (w, lt-ltb i s.terms h) refl

-- what get gives is the lent record
pub got-record :
    (ts : List Term) (ns : List (List ℕ)) (n m i : ℕ) (r : Result Term Refusal) →
    Shaped ts ns →
    well_formed (lent_store ts ns n m) ≡ true →
    i < n →
    seen_got r ≡ get_term (lent_store ts ns n m) i →
    seen_got r ≡ (given tt, get_or ts i no_term)
unfolding lent_store
got-record ts ns n m i r shaped w h e =
    let s : Store = lent_store ts ns n m in
    let within : n ≤ length (literals_of (take 1024 ts)) = (promises.facts s w).literals_long in
    e
    ∙ sym (get-given s i (no-fault s i w h))
    ∙ ap (λ (t : Term). (given tt, t))
    (lists.same_record ts ns n m i shaped (omega (arith, literals_of-length (take 1024 ts))))

pub added-determined :
    (ts ts' ts'' : List Term) (ns ns' ns'' : List (List ℕ)) (n m : ℕ) (wanted : Answer ℕ × Store) (r r' : Result Added Refusal) →
    LentAdded ts ns n m wanted r ts' ns' → LentAdded ts ns n m wanted r' ts'' ns'' →
    (r ≡ r') × ((ts' ≡ ts'') × (ns' ≡ ns''))
added-determined ts ts' ts'' ns ns' ns'' n m wanted r r' a b = (
  (promises.add_determined r r' wanted.1.records wanted.1.records wanted.1.literals wanted.1.literals
      wanted.1.names
      wanted.1.names n m (a.answer ∙ sym b.answer)).0,
  (a.records ∙ sym b.records, a.entries ∙ sym b.entries),
)
