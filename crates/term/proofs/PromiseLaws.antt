-- The other theorems of the promise page: size, get, compare and sort. Assumes nothing.
use Prim.Native.Nat.{ℕ, ◌<◌}
use mathlib.Core.Path.{◌≡◌, refl, ap, sym}
use mathlib.Core.Bool.{Bool, true, false}
use mathlib.Core.List.{List}
use mathlib.Core.Logic.{◌↔◌}
use borrow.Author.Tests.{ltb-true, lt-ltb}
use lib.Dec.{ltb}
use Rattle.std.specs.declared.cmp.Ordering.{Ordering}
use Rattle.std.specs.declared.cmp.Ordering.TheVariants.{Equal}
use Rattle.order.specs.Compare.{up_to}
use Rattle.order.proofs.Sorting.SortLaws.{sorted-same, sorted-sorted}
use Rattle.refusal.specs.declared.Refusal.{Refusal}
use Rattle.refusal.specs.declared.Refusal.TheVariants.{BadStore, BadTerm}
use Rattle.term_rules.specs.Lent.{Store, record_at}
use Rattle.term_rules.specs.WellFormed.{all_below, well_formed}
use Rattle.term_rules.specs.Nodes.{Tree, Means}
use Rattle.term_rules.proofs.TestLaws.{no_both}
use Rattle.term_rules.proofs.ListLaws.{all_below-get, all_below-of}
use Rattle.term_rules.proofs.FactsLaws.{sound-of-well_formed}
use Rattle.term_rules.specs.Trees.{tree_at}
use Rattle.term_rules.proofs.Meaning.MeansLaws.{means-one}
use Rattle.term_rules.proofs.Meaning.TreeLaws.{tree_at-means}
use Rattle.term_order.specs.TreeOrder.{trees, compare_at, at_most}
use Rattle.term_order.proofs.LawfulLaws.{trees-tells, self-same, at_most-linear}
use Rattle.term_order.proofs.CodeLaws.{order_is, compare_same}
use Rattle.term.specs.Answers.{Answer, given, refused, refuse, zero_record}
use Rattle.term.specs.Calls.{
  Faults,
  fine,
  fault,
  unless,
  sizing,
  size_of,
  get_faults,
  getting,
  get_term,
  compare_faults,
  comparing,
  compare_terms,
  sort_faults,
  sorting,
  sort_terms,
}
use Rattle.term.specs.Orders.{never, must, Refuses}
use Rattle.term.specs.Outcomes.{AllIn}
use Rattle.term.specs.Promises.{Sorts}
use Rattle.term.proofs.DeterminedLaws.{given-same, given-refused}
use Rattle.term.proofs.OrderLaws.{refuses-never, refuses-pass, refuses-fail, refuses-unless}

-- size, get, compare and sort
module _ (s : Store) where
  sizing-refuses : (r : Refusal) → sizing s (fault r) ≡ refuse r
  unfolding sizing
  sizing-refuses r = refl

  sizing-never : Refuses (sizing s fine) never
  unfolding sizing
  sizing-never = refuses-never s.terms

  pub size-refused : Refuses (size_of s) (must (well_formed s ≡ true) 17 never)
  unfolding size_of
  size-refused =
      refuses-unless (sizing s) sizing-refuses (well_formed s) (well_formed s ≡ true) BadStore fine never (λ e. e)
      (λ e. e) (λ e. sizing-never)

  sizing-given : (f : Faults) (n : ℕ) → sizing s f ≡ given n → n ≡ s.terms
  unfolding sizing
  sizing-given fine n e = sym (given-same e)
  sizing-given (fault r) n e = given-refused (sym e)

  pub size_is : (n : ℕ) → size_of s ≡ given n → n ≡ s.terms
  unfolding size_of
  size_is n e = sizing-given _ n e

  module _ (i : ℕ) where
    getting-refuses : (r : Refusal) → (getting s i (fault r)).0 ≡ refuse r
    unfolding getting
    getting-refuses r = refl

    getting-never : Refuses (getting s i fine).0 never
    unfolding getting
    getting-never = refuses-never tt

    pub get_refused : Refuses (get_term s i).0 (must (well_formed s ≡ true) 17 (must (i < s.terms) 14 never))
    unfolding get_term get_faults
    get_refused =
        let answer : Faults → Answer Unit = λ f. (getting s i f).0 in
        refuses-unless answer getting-refuses (well_formed s) (well_formed s ≡ true) BadStore _ _ (λ e. e) (λ e. e)
        (λ e.
        refuses-unless answer getting-refuses (ltb i s.terms) (i < s.terms) BadTerm fine never
        (ltb-true i s.terms) (lt-ltb i s.terms) (λ l. getting-never))

    getting-given : (f : Faults) → (getting s i f).0 ≡ given tt → (getting s i f).1 ≡ record_at s i
    unfolding getting
    getting-given fine e = refl
    getting-given (fault r) e = given-refused (sym e)

    pub get-is : (get_term s i).0 ≡ given tt → (get_term s i).1 ≡ record_at s i
    unfolding get_term
    get-is e = getting-given (get_faults s i) e

    getting-zeros : (f : Faults) (k : ℕ) → (getting s i f).0 ≡ refused k → (getting s i f).1 ≡ zero_record
    unfolding getting
    getting-zeros fine k e = given-refused e
    getting-zeros (fault r) k e = refl

    pub get-zeros : (k : ℕ) → (get_term s i).0 ≡ refused k → (get_term s i).1 ≡ zero_record
    unfolding get_term
    get-zeros k e = getting-zeros (get_faults s i) k e

  module _ (a b : ℕ) where
    comparing-refuses : (r : Refusal) → comparing s a b (fault r) ≡ refuse r
    unfolding comparing
    comparing-refuses r = refl

    comparing-never : Refuses (comparing s a b fine) never
    unfolding comparing
    comparing-never = refuses-never (compare_at s a b)

    -- two tests with one number are one question
    both : Bool → Bool → Faults
    both p q = unless p BadTerm (unless q BadTerm fine)

    both_told :
        (p q : Bool) (P Q : Type 0) →
        (p ≡ true → P) →
        (P → p ≡ true) →
        (q ≡ true → Q) →
        (Q → q ≡ true) →
        Refuses (comparing s a b (both p q)) (must (P × Q) 14 never)
    unfolding unless both
    both_told true true P Q f g h k =
        refuses-pass (comparing s a b fine) (P × Q) 14 never (f refl, h refl) comparing-never
    both_told true false P Q f g h k =
        refuses-fail (comparing s a b (fault BadTerm)) (P × Q) 14 never (λ x. no_both false (k x.1) refl)
        (comparing-refuses BadTerm)
    both_told false q P Q f g h k =
        refuses-fail (comparing s a b (fault BadTerm)) (P × Q) 14 never (λ x. no_both false (g x.0) refl)
        (comparing-refuses BadTerm)

    pub compare-refused :
        Refuses (compare_terms s a b)
        (must (well_formed s ≡ true) 17 (must ((a < s.terms) × (b < s.terms)) 14 never))
    unfolding compare_terms compare_faults both
    compare-refused =
        refuses-unless (comparing s a b) comparing-refuses (well_formed s) (well_formed s ≡ true) BadStore _ _ (λ e. e)
        (λ e. e)
        (λ e.
        both_told (ltb a s.terms) (ltb b s.terms) (a < s.terms) (b < s.terms) (ltb-true a s.terms)
        (lt-ltb a s.terms) (ltb-true b s.terms) (lt-ltb b s.terms))

    comparing-given : (f : Faults) (o : Ordering) → comparing s a b f ≡ given o → o ≡ compare_at s a b
    unfolding comparing
    comparing-given fine o e = sym (given-same e)
    comparing-given (fault r) o e = given-refused (sym e)

    pub compare-is : (o : Ordering) → compare_terms s a b ≡ given o → o ≡ compare_at s a b
    unfolding compare_terms
    compare-is o e = comparing-given (compare_faults s a b) o e

  module _ (l : List ℕ) where
    sorting-refuses : (r : Refusal) → (sorting s l (fault r)).0 ≡ refuse r
    unfolding sorting
    sorting-refuses r = refl

    sorting-never : Refuses (sorting s l fine).0 never
    unfolding sorting
    sorting-never = refuses-never tt

    pub sort-refused :
        Refuses (sort_terms s l).0 (must (well_formed s ≡ true) 17 (must (AllIn s l) 14 never))
    unfolding sort_terms sort_faults
    sort-refused =
        let answer : Faults → Answer Unit = λ f. (sorting s l f).0 in
        refuses-unless answer sorting-refuses (well_formed s) (well_formed s ≡ true) BadStore _ _ (λ e. e) (λ e. e)
        (λ e.
        refuses-unless answer sorting-refuses (all_below s.terms l) (AllIn s l) BadTerm fine never
        (all_below-get s.terms l) (all_below-of s.terms l) (λ b. sorting-never))

  module _ (w : well_formed s ≡ true) where
    pub sort-order : (a b : ℕ) → a < s.terms → b < s.terms → at_most s a b ≡ up_to (compare_at s a b)
    sort-order a b h k = ap up_to (order_is s (sound-of-well_formed s w) a b h k)

    -- the same number is equal, and nothing else
    pub order-numbers : (a b : ℕ) → a < s.terms → b < s.terms → (compare_at s a b ≡ Equal) ↔ (a ≡ b)
    unfolding compare_at
    order-numbers a b h k = (
      compare_same s (sound-of-well_formed s w) a b h k,
      λ e. rw e (self-same trees trees-tells (tree_at s b)),
    )

    -- a comparison goes by the trees alone
    pub compare-trees :
        (a b : ℕ) (t u : Tree) →
        a < s.terms →
        b < s.terms →
        Means s a t →
        Means s b u →
        compare_at s a b ≡ trees t u
    unfolding compare_at
    compare-trees a b t u h k p q =
        let f = sound-of-well_formed s w in
        rw (
          means-one s (tree_at s a) t a (tree_at-means s f a h) p,
          means-one s (tree_at s b) u b (tree_at-means s f b k) q,
        )

  sorting-after : (l : List ℕ) (f : Faults) → Sorts s l (sorting s l f).0 (sorting s l f).1
  unfolding sorting
  sorting-after l fine =
      (sorted-sorted (at_most s) (at_most-linear s) l, sorted-same (at_most s) (at_most-linear s) l)
  sorting-after l (fault r) = refl

  pub sort-after : (l : List ℕ) → Sorts s l (sort_terms s l).0 (sort_terms s l).1
  unfolding sort_terms
  sort-after l = sorting-after l (sort_faults s l)
