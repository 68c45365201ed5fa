-- The calls that only read, each told by its status and value. Assumes nothing.
use mathlib.Core.Path.{◌≡◌, refl, sym, ap, subst, ◌∙◌}
use mathlib.Core.List.{List}
use Prim.Native.Nat.{ℕ}
use lib.IntN.{ℤ, pos}
use Rattle.std.specs.declared.cmp.Ordering.{Ordering}
use Rattle.order.specs.Sort.{SameCounts, Sorted}
use Rattle.term_rules.specs.Lent.{Store, record_at}
use Rattle.term_rules.specs.Nodes.{Node, literal, variable, application}
use Rattle.term_order.specs.TreeOrder.{compare_at, at_most}
use Rattle.term.specs.Answers.{Answer, given, refused, zero_record}
use Rattle.term.specs.Orders.{Telling}
use Rattle.term.specs.Outcomes.{Finds, IsTerm, asks_literal, asks_variable, asks_application}
use Rattle.term.specs.Calls.{
  find_literal,
  find_variable,
  find_application,
  size_of,
  get_term,
  compare_terms,
  sort_terms,
}
use Rattle.term.specs.Promises.{Sorts as Sorting}
use Rattle.term.proofs.Promises.{promises as flat}
use Rattle.c_told.specs.Terms.{number_of, status_of, sign_of, order_of, got_of}
use Rattle.c_told.specs.declared.terms.Number.{Number}
use Rattle.c_told.specs.declared.terms.Standing.{Standing}
use Rattle.c_told.specs.declared.terms.Got.{Got}
use Rattle.needlevale_c.specs.Terms.{Sorts}
use Rattle.needlevale_c.specs.Reading.{
  Tells,
  TellsNumber,
  TellsFound,
  asks_store,
  asks_term,
  asks_two,
  asks_all,
}
use Rattle.needlevale_c.proofs.TellsLaws.{
  Known,
  Stated,
  tells,
  literal-known,
  variable-known,
  application-known,
  size-known,
  compare-known,
  get-known,
  sort-known,
}

-- ---- size and lookups
number-stated : (a : Answer ℕ) (z : Number) → z ≡ number_of a → Stated (λ n. n) 0 a z.status z.number
unfolding Stated
number-stated (given i) z h = (ap (λ (x : Number). x.status) h, ap (λ (x : Number). x.number) h)
number-stated (refused k) z h = (ap (λ (x : Number). x.status) h, ap (λ (x : Number). x.number) h)

pub sized : (s : Store) (z : Number) → z ≡ number_of (size_of s) → TellsNumber (asks_store s) (λ n. n ≡ s.terms) z
sized s z h =
    tells (λ (n : ℕ). n) 0 (size_of s) z.status z.number (asks_store s) (λ n. n ≡ s.terms) (size-known s)
    (number-stated (size_of s) z h) (flat.size_refused s) (λ n e v. v ∙ flat.size_given s n e)

looked :
    (s : Store) (node : Node) (asked : Telling → Telling) (a : Answer ℕ) (z : Number) →
    Known a →
    Finds s node asked a →
    z ≡ number_of a →
    TellsFound s node asked z
looked s node asked a z known f h =
    tells (λ (n : ℕ). n) 0 a z.status z.number _ (IsTerm s node) known (number-stated a z h) f.refusals
    (λ i e v. subst (IsTerm s node) (sym v) (f.found i e))

pub literal_found :
    (s : Store) (v : ℤ) (z : Number) → z ≡ number_of (find_literal s v) → TellsFound s (literal v) (asks_literal s) z
literal_found s v z h =
    looked s (literal v) (asks_literal s) (find_literal s v) z (literal-known s v) (flat.literal_found s v) h

pub variable_found :
    (s : Store) (name : List ℕ) (z : Number) →
    z ≡ number_of (find_variable s name) →
    TellsFound s (variable name) (asks_variable s name) z
variable_found s name z h =
    looked s (variable name) (asks_variable s name) (find_variable s name) z (variable-known s name)
    (flat.variable_found s name) h

pub application_found :
    (s : Store) (name children : List ℕ) (z : Number) →
    z ≡ number_of (find_application s name children) →
    TellsFound s (application name children) (asks_application s name children) z
application_found s name children z h =
    looked s (application name children) (asks_application s name children) (find_application s name children) z
    (application-known s name children) (flat.application_found s name children) h

-- ---- compare
order-stated : (a : Answer Ordering) (z : Standing) → z ≡ order_of a → Stated sign_of (pos 0) a z.status z.order
unfolding Stated
order-stated (given o) z h = (ap (λ (x : Standing). x.status) h, ap (λ (x : Standing). x.order) h)
order-stated (refused k) z h = (ap (λ (x : Standing). x.status) h, ap (λ (x : Standing). x.order) h)

pub compared :
    (s : Store) (i j : ℕ) (z : Standing) →
    z ≡ order_of (compare_terms s i j) →
    Tells (asks_two s i j) (λ o. o ≡ sign_of (compare_at s i j)) (pos 0) z.status z.order
compared s i j z h =
    tells sign_of (pos 0) (compare_terms s i j) z.status z.order (asks_two s i j)
    (λ o. o ≡ sign_of (compare_at s i j)) (compare-known s i j) (order-stated (compare_terms s i j) z h)
    (flat.compare_refused s i j) (λ o e v. v ∙ ap sign_of (flat.compare_given s i j o e))

-- ---- get
got-stated :
    (s : Store) (i : ℕ) (a : Answer Unit) (z : Got) →
    (get_term s i).0 ≡ a →
    z ≡ got_of (get_term s i) →
    Stated (λ u. record_at s i) zero_record a z.status z.term
unfolding Stated
got-stated s i (given u) z e h = (
  ap (λ (x : Got). x.status) h ∙ ap status_of e,
  ap (λ (x : Got). x.term) h ∙ flat.get_given s i e,
)
got-stated s i (refused k) z e h = (
  ap (λ (x : Got). x.status) h ∙ ap status_of e,
  ap (λ (x : Got). x.term) h ∙ flat.get_zeros s i k e,
)

pub got :
    (s : Store) (i : ℕ) (z : Got) →
    z ≡ got_of (get_term s i) →
    Tells (asks_term s i) (λ t. t ≡ record_at s i) zero_record z.status z.term
got s i z h =
    tells (λ (u : Unit). record_at s i) zero_record (get_term s i).0 z.status z.term (asks_term s i)
    (λ t. t ≡ record_at s i) (get-known s i) (got-stated s i (get_term s i).0 z refl h) (flat.get_refused s i)
    (λ u e v. v)

-- ---- sort
module _ (s : Store) (l after : List ℕ) (z : ℤ) (h : Sorts (sort_terms s l) z after) where
  sort-stated :
      (a : Answer Unit) →
      (sort_terms s l).0 ≡ a →
      Sorting s l a (sort_terms s l).1 →
      Stated (λ u. (sort_terms s l).1) l a z after
  unfolding Stated
  sort-stated (given u) e t = (h.number ∙ ap status_of e, h.list_is)
  sort-stated (refused k) e t = (h.number ∙ ap status_of e, h.list_is ∙ t)

  abbrev Good : List ℕ → Type 0
  Good m = Sorted (at_most s) m × SameCounts m l

  pub sorted : Tells (asks_all s l) (λ m. Sorted (at_most s) m × SameCounts m l) l z after
  sorted =
      tells (λ (u : Unit). (sort_terms s l).1) l (sort_terms s l).0 z after (asks_all s l) Good (sort-known s l)
      (sort-stated (sort_terms s l).0 refl (flat.sorts s l)) (flat.sort_refused s l)
      (λ u e v. subst Good (sym v) (subst (λ (a : Answer Unit). Sorting s l a (sort_terms s l).1) e (flat.sorts s l)))
