-- What each call answers, by its tests. Assumes nothing.
use Prim.Native.Nat.{ℕ, ◌≤◌, ◌<◌}
use mathlib.Core.Path.{◌≡◌, refl, sym, ap, ◌∙◌}
use mathlib.Core.Bool.{Bool, true, false}
use mathlib.Core.List.{List}
use mathlib.Core.Logic.{◌⊎◌, inl, inr}
use native.Mathlib.Omega.{arith}
use borrow.Author.Tests.{leb-true, lt-ltb, le-ltb}
use lib.Dec.{leb, ltb}
use lib.ListN.{length}
use lib.IntN.{ℤ}
use Rattle.std.specs.Prelude.{Option, Some, None, ok_or, is_some}
use Rattle.name.specs.Name.{valid}
use Rattle.refusal.specs.declared.Refusal.{Refusal}
use Rattle.refusal.specs.declared.Refusal.TheVariants.{BadStore, BadName, BadSize, BadTerm, NoRoom, Absent}
use Rattle.term_rules.specs.Lent.{Store, store, record_at, InRecords}
use Rattle.term_rules.specs.WellFormed.{all_below, well_formed}
use Rattle.term_rules.specs.Nodes.{Node, literal, variable, application}
use Rattle.term_rules.specs.Adding.{find_term, at, no_room, add}
use Rattle.term_rules.specs.Growing.{Fit}
use Rattle.term_rules.proofs.FactsLaws.{sound-of-well_formed}
use Rattle.order.specs.Sort.{sorted}
use Rattle.order.proofs.Sorting.CountLaws.{place-of-count}
use Rattle.order.specs.Merge.{Within}
use Rattle.term_order.specs.TreeOrder.{compare_at, at_most}
use Rattle.term_rules.proofs.ListLaws.{all_below-get}
use Rattle.term_add.specs.Interning.{Leaves}
use Rattle.term_add.specs.Held.{Gains}
use Rattle.term_add.specs.declared.Added.{Added}
use Rattle.term.specs.Answers.{given, refuse, zero_record, seen, seen_added}
use Rattle.term.specs.Calls.{
  Faults,
  fine,
  fault,
  unless,
  faults_of,
  literal_faults,
  variable_faults,
  terms_faults,
  application_faults,
  added,
  adding,
  found,
  finding,
  sizing,
  size_of,
  get_faults,
  getting,
  get_term,
  compare_faults,
  comparing,
  compare_terms,
  sort_faults,
  sorting,
  sort_terms,
}

-- what holds of the store that is read holds of the one that was lent
pub of-lent : {A : Type 0} (f : Store → A) {r : A} {s t : Store} → r ≡ f s → s ≡ t → r ≡ f t
of-lent f e d = e ∙ ap f d

-- what is wrong first: with the tests before, or else with those after
abbrev pub and_then : Faults → Faults → Faults
and_then fine g = g
and_then (fault r) g = fault r

unless-then : (b : Bool) (r : Refusal) (g : Faults) → and_then (unless b r fine) g ≡ unless b r g
unfolding unless
unless-then true r g = refl
unless-then false r g = refl

pub unless-yes : (b : Bool) (r : Refusal) (f : Faults) → b ≡ true → f ≡ unless b r f
unfolding unless
unless-yes b r f e = rw e

pub unless-no : (b : Bool) (r : Refusal) (f : Faults) → b ≡ false → fault r ≡ unless b r f
unfolding unless
unless-no b r f e = rw e

-- the store's test
pub store-told : {A : Type 0} (o : Option A) (b : Bool) → is_some o ≡ b
    → faults_of (ok_or o BadStore) ≡ unless b BadStore fine
store-told (Some a) b e = unless-yes b BadStore fine (sym e)
store-told None b e = unless-no b BadStore fine (sym e)

-- two tests with one refusal, of which one fails
pub either-no :
    (a b n : ℕ) →
    ((n ≤ a) ⊎ ((a < n) × (n ≤ b))) →
    fault BadTerm ≡ unless (ltb a n) BadTerm (unless (ltb b n) BadTerm fine)
either-no a b n (inl h) = unless-no _ _ _ (le-ltb a n h)
either-no a b n (inr h) = unless-no _ _ _ (le-ltb b n h.1) ∙ unless-yes _ _ _ (lt-ltb a n h.0)

-- a test that has passed
pub passed : (b : Bool) (r : Refusal) (f : Faults) → fine ≡ unless b r f → (b ≡ true) × (fine ≡ f)
unfolding unless
passed true r f e = (refl, e)
passed false r f e = let z : ◌≡◌ {A = ℕ} 0 1 = cc in absurd (omega arith)

twice :
    (p q : Bool) (g : Faults) →
    and_then (unless p BadStore (unless q BadName fine)) g ≡ unless p BadStore (unless q BadName g)
unfolding unless
twice true q g = unless-then q BadName g
twice false q g = refl

-- the tests of the whole are those of the first part, f, and then the rest
module _ (s : Store) where
  first_then : (g f : Faults) → f ≡ literal_faults s → and_then f g ≡ unless (well_formed s) BadStore g
  unfolding literal_faults
  first_then g f e = rw e (unless-then (well_formed s) BadStore g)

  pub variable-then :
      (n : List ℕ) (f : Faults) →
      f ≡ literal_faults s →
      and_then f (unless (valid n) BadName fine) ≡ variable_faults s n
  unfolding variable_faults
  variable-then n f e = first_then _ f e

  pub application-then :
      (n ks : List ℕ) (f : Faults) →
      f ≡ variable_faults s n →
      and_then f (unless (leb (length ks) 8) BadSize (terms_faults s.terms ks)) ≡ application_faults s n ks
  unfolding application_faults variable_faults terms_faults
  application-then n ks f e = rw e (twice (well_formed s) (valid n) _)

  pub get-then :
      (i : ℕ) (f : Faults) → f ≡ literal_faults s → and_then f (unless (ltb i s.terms) BadTerm fine) ≡ get_faults s i
  unfolding get_faults
  get-then i f e = first_then _ f e

  pub compare-then :
      (a b : ℕ) (f : Faults) →
      f ≡ literal_faults s →
      and_then f (unless (ltb a s.terms) BadTerm (unless (ltb b s.terms) BadTerm fine)) ≡ compare_faults s a b
  unfolding compare_faults
  compare-then a b f e = first_then _ f e

  pub sort-then :
      (l : List ℕ) (f : Faults) → f ≡ literal_faults s → and_then f (terms_faults s.terms l) ≡ sort_faults s l
  unfolding sort_faults terms_faults
  sort-then l f e = first_then _ f e

  -- where all tests pass, the lent lists are a store, and the node fits
  pub literal-fits : (z : ℤ) → fine ≡ literal_faults s → (well_formed s ≡ true) × Fit s (literal z)
  unfolding literal_faults
  literal-fits z e = ((passed (well_formed s) BadStore fine e).0, tt)

  pub store-fine : fine ≡ literal_faults s → well_formed s ≡ true
  unfolding literal_faults
  store-fine e = (passed (well_formed s) BadStore fine e).0

  pub variable-fits : (n : List ℕ) → fine ≡ variable_faults s n → (well_formed s ≡ true) × Fit s (variable n)
  unfolding variable_faults
  variable-fits n e =
      let p = passed (well_formed s) BadStore (unless (valid n) BadName fine) e in
      let q = passed (valid n) BadName fine p.1 in
      (p.0, q.0)

  pub application-fits :
      (n ks : List ℕ) → fine ≡ application_faults s n ks → (well_formed s ≡ true) × Fit s (application n ks)
  unfolding application_faults
  application-fits n ks e =
      let p = passed (well_formed s) BadStore _ e in
      let q = passed (valid n) BadName _ p.1 in
      let r = passed (leb (length ks) 8) BadSize _ q.1 in
      let t = passed (all_below s.terms ks) BadTerm fine r.1 in
      (p.0, (q.0, leb-true (length ks) 8 r.0, all_below-get s.terms ks t.0))

  pub in-records : well_formed s ≡ true → (i : ℕ) → i < s.terms → InRecords s.records s.literals i
  in-records e i h =
      let w = sound-of-well_formed s e in
      record { numbers = omega (arith, w.records_long); literal = omega (arith, w.literals_long) }

  pub within-of-below : (l : List ℕ) → fine ≡ terms_faults s.terms l → Within s.terms l
  unfolding terms_faults
  within-of-below l e y c =
      let p = place-of-count y l c in
      rw p.1.1 at (all_below-get s.terms l (passed _ BadTerm fine e).0 p.0 p.1.0)

-- the answers, by the tests
module _ (s : Store) (node : Node) (f : Faults) where
  pub adding-refuses : (r : Refusal) → fault r ≡ f → (refuse r, s) ≡ adding s node f
  unfolding adding
  adding-refuses r e = rw (← e)

  pub adding-told :
      (r : Option Added) (rs : List ℕ) (ls : List ℤ) (ns : List ℕ) →
      fine ≡ f →
      Leaves s (add s node) r rs ls ns →
      seen_added (ok_or r NoRoom) rs ls ns s.terms s.symbols ≡ adding s node f
  unfolding adding added
  adding-told None rs ls ns e l =
      let a : no_room ≡ add s node = l.answer in
      rw (← e, ← a) (ap (λ (t : Store). (refuse NoRoom, t)) (l.kept refl))
  adding-told (Some t) rs ls ns e l =
      let a : at t.term (store rs ls ns t.terms t.symbols) ≡ add s node = l.answer in rw (← e, ← a)

  pub adding-gains :
      (r : Option ℕ) (t : Store) → fine ≡ f → Gains s (add s node) r t
      → (seen (ok_or r NoRoom), t) ≡ adding s node f
  unfolding adding added
  adding-gains None t e l =
      let a : no_room ≡ add s node = l.answer in
      rw (← e, ← a) (ap (λ (x : Store). (refuse NoRoom, x)) (l.kept refl))
  adding-gains (Some i) t e l =
      let a : at i t ≡ add s node = l.answer in rw (← e, ← a)

  pub finding-refuses : (r : Refusal) → fault r ≡ f → refuse r ≡ finding s node f
  unfolding finding
  finding-refuses r e = rw (← e)

  pub finding-told :
      (r : Option ℕ) → fine ≡ f → r ≡ find_term s node → seen (ok_or r Absent) ≡ finding s node f
  unfolding finding found
  finding-told None e d = rw (← e, ← d)
  finding-told (Some i) e d = rw (← e, ← d)

module _ (s : Store) where
  pub size-refuses : (r : Refusal) → fault r ≡ literal_faults s → refuse r ≡ size_of s
  unfolding size_of sizing literal_faults
  size-refuses r e = rw (← e)

  pub size-given : fine ≡ literal_faults s → given s.terms ≡ size_of s
  unfolding size_of sizing literal_faults
  size-given e = rw (← e)

  module _ (i : ℕ) where
    pub get-refuses : (r : Refusal) → fault r ≡ get_faults s i → (refuse r, zero_record) ≡ get_term s i
    unfolding get_term getting
    get-refuses r e = rw (← e)

    pub get-given : fine ≡ get_faults s i → (given tt, record_at s i) ≡ get_term s i
    unfolding get_term getting
    get-given e = rw (← e)

  module _ (a b : ℕ) where
    pub compare-refuses : (r : Refusal) → fault r ≡ compare_faults s a b → refuse r ≡ compare_terms s a b
    unfolding compare_terms comparing
    compare-refuses r e = rw (← e)

    pub compare-given : fine ≡ compare_faults s a b → given (compare_at s a b) ≡ compare_terms s a b
    unfolding compare_terms comparing
    compare-given e = rw (← e)

  module _ (l : List ℕ) where
    pub sort-refuses : (r : Refusal) → fault r ≡ sort_faults s l → (refuse r, l) ≡ sort_terms s l
    unfolding sort_terms sorting
    sort-refuses r e = rw (← e)

    pub sort-given : fine ≡ sort_faults s l → (given tt, sorted (at_most s) l) ≡ sort_terms s l
    unfolding sort_terms sorting
    sort-given e = rw (← e)
