-- What the store's calls on lent lists promise beside their contracts: all that `term` promises, of the store that the
-- lists are (`lent/specs/Promises.antt` says which that is). Assumes nothing: a record, with one field for each theorem.
use Rattle.std.specs.Prelude.{ℕ, ◌<◌, ◌≡◌, true, List, ℤ, get_or, drop, Result}
use Rattle.refusal.specs.declared.Refusal.{Refusal}
use Rattle.term_rules.specs.declared.Term.{Term}
use Rattle.term_rules.specs.Lent.{Store}
use Rattle.term_rules.specs.WellFormed.{well_formed}
use Rattle.term_rules.specs.Nodes.{Node, literal, variable, application}
use Rattle.lent.specs.Records.{no_term, lent_store}
use Rattle.lent.specs.Promises.{Shaped}
use Rattle.std.specs.declared.cmp.Ordering.{Ordering}
use Rattle.term_order.specs.TreeOrder.{compare_at}
use Rattle.term_add.specs.declared.Added.{Added}
use Rattle.term.specs.Answers.{
  Answer,
  given,
  refused,
  seen,
  seen_added,
  seen_got,
  seen_sort,
  zero_record,
}
use Rattle.term.specs.Calls.{
  add_literal,
  add_variable,
  add_application,
  find_literal,
  find_variable,
  find_application,
  size_of,
  get_term,
  compare_terms,
  sort_terms,
}
use Rattle.term.specs.Orders.{Telling, never, must, Refuses}
use Rattle.term.specs.Outcomes.{AllIn, Adds, Finds, asks_literal, asks_variable, asks_application}
use Rattle.term.specs.Promises.{Sorts}
use Rattle.lent_terms.specs.Lists.{LentAdded}

-- What a call that adds has told, and the store that the lent lists are then.
abbrev pub seen_lent : Result Added Refusal → List Term → List (List ℕ) → ℕ → ℕ → Answer ℕ × Store
seen_lent r ts ns n m =
    seen_added r (lent_store ts ns n m).records (lent_store ts ns n m).literals (lent_store ts ns n m).names n m

-- What the contract allows of a call that adds `model` on lent lists, before and after it.
abbrev pub OnLists :
    (Store → Answer ℕ × Store) →
    (List Term → List (List ℕ) → ℕ → ℕ → Result Added Refusal → List Term → List (List ℕ) → Type 0) →
    Type 0
OnLists model P =
    (ts ts' : List Term) (ns ns' : List (List ℕ)) (n m : ℕ) (r : Result Added Refusal) →
    LentAdded ts ns n m (model (lent_store ts ns n m)) r ts' ns' →
    P ts ns n m r ts' ns'

-- The promise of `term` on a call that adds (`Adds`), of the lists before and after it.
abbrev pub AddsOnLists : Node → (Store → Telling → Telling) → (Store → Answer ℕ × Store) → Type 0
AddsOnLists node asks model =
    OnLists model
    (λ ts ns n m r ts' ns'. Adds (lent_store ts ns n m) node (asks (lent_store ts ns n m)) (seen_lent r ts' ns' n m))

abbrev pub RefusalKeeps : (Store → Answer ℕ × Store) → Type 0
RefusalKeeps model =
    OnLists model
    (λ ts ns n m r ts' ns'. (k : ℕ) → (seen_lent r ts' ns' n m).0 ≡ refused k → (ts' ≡ ts) × (ns' ≡ ns))

-- The promise P of `term` on a call that only reads, `model`: of what is seen of its answer on lent lists.
abbrev pub Reads : {R A : Type 0} → (Store → A) → (R → A) → (Store → A → Type 0) → Type 0
Reads {R} model seen P =
    (ts : List Term) (ns : List (List ℕ)) (n m : ℕ) (r : R) →
    seen r ≡ model (lent_store ts ns n m) →
    P (lent_store ts ns n m) (seen r)

-- "Size: 17": else the count of terms.
abbrev pub Sizes : Store → Answer ℕ → Type 0
Sizes s a = Refuses a (must (well_formed s ≡ true) 17 never) × ((n : ℕ) → a ≡ given n → n ≡ s.terms)

-- "Get, compare and sort: 17, 14": compare tells how the two terms stand,
abbrev pub Compares : Store → ℕ → ℕ → Answer Ordering → Type 0
Compares s i j a =
    Refuses a (must (well_formed s ≡ true) 17 (must ((i < s.terms) × (j < s.terms)) 14 never))
    × ((o : Ordering) → a ≡ given o → o ≡ compare_at s i j)

-- sort leaves the sorted permutation of the list, or with a refusal the list as it was,
abbrev pub Sorting : Store → List ℕ → Answer Unit × List ℕ → Type 0
Sorting s l x =
    Refuses x.0 (must (well_formed s ≡ true) 17 (must (AllIn s l) 14 never)) × Sorts s l x.0 x.1

-- and get gives a record, or zeros with its refusal.
abbrev pub Gets : Store → ℕ → Answer Unit × Term → Type 0
Gets s i x =
    Refuses x.0 (must (well_formed s ≡ true) 17 (must (i < s.terms) 14 never))
    × ((k : ℕ) → x.0 ≡ refused k → x.1 ≡ zero_record)

pub record Promises : Type 1 where
  -- Each refusal exactly when and in its order; the old number, and nothing changed; or exactly one record more, and a
  -- name only if it is new.
  pub literal_added : (z : ℤ) → AddsOnLists (literal z) asks_literal (λ s. add_literal s z)
  pub variable_added :
      (name : List ℕ) → AddsOnLists (variable name) (λ s. asks_variable s name) (λ s. add_variable s name)
  pub application_added :
      (name ks : List ℕ) →
      AddsOnLists (application name ks) (λ s. asks_application s name ks) (λ s. add_application s name ks)
  -- Whatever else is promised of the flat call holds of what is seen of the lists after the call.
  pub carried :
      (model : Store → Answer ℕ × Store) (P : Store → Answer ℕ × Store → Type 0) →
      ((s : Store) → P s (model s)) →
      OnLists model (λ ts ns n m r ts' ns'. P (lent_store ts ns n m) (seen_lent r ts' ns' n m))
  -- "Nothing lent is changed": a refused call leaves both lists as they were, whatever they hold.
  pub literal_kept : (z : ℤ) → RefusalKeeps (λ s. add_literal s z)
  pub variable_kept : (name : List ℕ) → RefusalKeeps (λ s. add_variable s name)
  pub application_kept : (name ks : List ℕ) → RefusalKeeps (λ s. add_application s name ks)
  -- Records past the first 1,024 and entries past the first 128 are no part of the store, and stay.
  pub rest_stays :
      (model : Store → Answer ℕ × Store) →
      OnLists model (λ ts ns n m r ts' ns'. (drop 1024 ts' ≡ drop 1024 ts) × (drop 128 ns' ≡ drop 128 ns))
  -- "Lookup has its kind's order with 15 for 13": what is found is the term, and Absent comes exactly when no number has
  -- it.
  pub literal_found : (z : ℤ) → Reads (λ s. find_literal s z) seen (λ s a. Finds s (literal z) (asks_literal s) a)
  pub variable_found :
      (name : List ℕ) →
      Reads (λ s. find_variable s name) seen (λ s a. Finds s (variable name) (asks_variable s name) a)
  pub application_found :
      (name ks : List ℕ) →
      Reads (λ s. find_application s name ks) seen
      (λ s a. Finds s (application name ks) (asks_application s name ks) a)
  -- The other calls that read, each refusal exactly when, and what they tell else.
  pub sized : Reads size_of seen Sizes
  pub compared : (i j : ℕ) → Reads (λ s. compare_terms s i j) seen (λ s a. Compares s i j a)
  pub sorted : (l after : List ℕ) → Reads (λ s. sort_terms s l) (λ v. seen_sort v after) (λ s x. Sorting s l x)
  pub get_refused : (i : ℕ) → Reads (λ s. get_term s i) seen_got (λ s x. Gets s i x)
  -- What get gives is the lent record itself.
  pub got :
      (ts : List Term) (ns : List (List ℕ)) (n m i : ℕ) (r : Result Term Refusal) →
      Shaped ts ns →
      well_formed (lent_store ts ns n m) ≡ true →
      i < n →
      seen_got r ≡ get_term (lent_store ts ns n m) i →
      seen_got r ≡ (given tt, get_or ts i no_term)
  -- Any two results that a contract allows coincide: the answer, the records and the entries.
  pub add_determined :
      (ts ts' ts'' : List Term) (ns ns' ns'' : List (List ℕ)) (n m : ℕ) (wanted : Answer ℕ × Store) (r r' : Result Added Refusal) →
      LentAdded ts ns n m wanted r ts' ns' → LentAdded ts ns n m wanted r' ts'' ns'' →
      (r ≡ r') × ((ts' ≡ ts'') × (ns' ≡ ns''))
