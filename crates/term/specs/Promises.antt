-- What the term store promises: document 01, 'Terms'. Assumes nothing: a record, with one field for each theorem.
use Rattle.std.specs.Prelude.{ℕ, ◌≤◌, ◌<◌, ◌≡◌, true, List, ◌↔◌, length, get_or, ℤ, Result}
use Rattle.std.specs.declared.cmp.Ordering.{Ordering}
use Rattle.std.specs.declared.cmp.Ordering.TheVariants.{Less, Equal}
use Rattle.order.specs.Compare.{flip, up_to}
use Rattle.order.specs.Sort.{SameCounts, Sorted}
use Rattle.term_rules.specs.Lent.{Store, record_at}
use Rattle.term_rules.specs.WellFormed.{well_formed}
use Rattle.term_rules.specs.Nodes.{literal, variable, application, node_at, Tree, Means}
use Rattle.term_rules.specs.Facts.{Sound}
use Rattle.term_rules.specs.Trees.{tree_at}
use Rattle.term_order.specs.TreeOrder.{trees, compare_at, at_most}
use Rattle.refusal.specs.declared.Refusal.{Refusal}
use Rattle.term_rules.specs.declared.Term.{Term}
use Rattle.term_add.specs.declared.Added.{Added}
use Rattle.term.specs.Answers.{Answer, given, refused, zero_record, seen, seen_added, seen_got, seen_sort}
use Rattle.term.specs.Calls.{
  add_literal,
  add_variable,
  add_application,
  find_literal,
  find_variable,
  find_application,
  size_of,
  get_term,
  compare_terms,
  sort_terms,
}
use Rattle.term.specs.Orders.{never, must, Refuses}
use Rattle.term.specs.Outcomes.{AllIn, Adds, Finds, asks_literal, asks_variable, asks_application}

-- A call that sorts: with success, the list is the sorted permutation of what it was; with a refusal it is as it was.
abbrev pub Sorts : Store → List ℕ → Answer Unit → List ℕ → Type 0
Sorts s l (given u) m = Sorted (at_most s) m × SameCounts m l
Sorts s l (refused k) m = m ≡ l

pub record Promises : Type 0 where
  -- The published facts are what a well-formed store has, no more and no less.
  pub facts : (s : Store) → well_formed s ≡ true → Sound s
  pub enough : (s : Store) → Sound s → well_formed s ≡ true
  -- "Every child lower than its parent", and "up to eight child numbers": of what a number says, not of its record
  -- alone.
  pub children_lower :
      (s : Store) (i : ℕ) (n ks : List ℕ) →
      well_formed s ≡ true →
      i < s.terms →
      node_at s i ≡ application n ks →
      (j : ℕ) →
      j < length ks →
      get_or ks j 0 < i
  pub children_few :
      (s : Store) (i : ℕ) (n ks : List ℕ) →
      well_formed s ≡ true →
      i < s.terms →
      node_at s i ≡ application n ks →
      length ks ≤ 8
  -- Every number of a well-formed store means a term,
  pub meant : (s : Store) (i : ℕ) → well_formed s ≡ true → i < s.terms → Means s i (tree_at s i)
  -- one alone: different terms have different numbers,
  pub one_term : (s : Store) (i : ℕ) (t u : Tree) → Means s i t → Means s i u → t ≡ u
  -- and no other number means it: equal terms have equal numbers.
  pub one_number :
      (s : Store) (i j : ℕ) (t : Tree) →
      well_formed s ≡ true →
      i < s.terms →
      j < s.terms →
      Means s i t →
      Means s j t →
      i ≡ j
  -- "Literal: 17, 13", "Variable: 17, 4, 13" and "Application: 17, 4, 3, 14, 13": each refusal exactly when, in that
  -- order, and nothing changed by it. "Give the number of the term if it is already there, needing no room; else append
  -- it, with its name if new": the old number and nothing changed, or exactly one record more.
  pub literal_added : (s : Store) (z : ℤ) → Adds s (literal z) (asks_literal s) (add_literal s z)
  pub variable_added : (s : Store) (n : List ℕ) → Adds s (variable n) (asks_variable s n) (add_variable s n)
  pub application_added :
      (s : Store) (n ks : List ℕ) →
      Adds s (application n ks) (asks_application s n ks) (add_application s n ks)
  -- "Lookup has its kind's order with 15 for 13": what is found is the term, and Absent comes exactly when no number
  -- has it.
  pub literal_found : (s : Store) (z : ℤ) → Finds s (literal z) (asks_literal s) (find_literal s z)
  pub variable_found : (s : Store) (n : List ℕ) → Finds s (variable n) (asks_variable s n) (find_variable s n)
  pub application_found :
      (s : Store) (n ks : List ℕ) →
      Finds s (application n ks) (asks_application s n ks) (find_application s n ks)
  -- "Size: 17": else the count of terms.
  pub size_refused : (s : Store) → Refuses (size_of s) (must (well_formed s ≡ true) 17 never)
  pub size_given : (s : Store) (n : ℕ) → size_of s ≡ given n → n ≡ s.terms
  -- "Get, compare and sort: 17, 14": get gives the record, or zeros with its refusal,
  pub get_refused :
      (s : Store) (i : ℕ) → Refuses (get_term s i).0 (must (well_formed s ≡ true) 17 (must (i < s.terms) 14 never))
  pub get_given : (s : Store) (i : ℕ) → (get_term s i).0 ≡ given tt → (get_term s i).1 ≡ record_at s i
  pub get_zeros : (s : Store) (i k : ℕ) → (get_term s i).0 ≡ refused k → (get_term s i).1 ≡ zero_record
  -- compare how the two terms stand,
  pub compare_refused :
      (s : Store) (a b : ℕ) →
      Refuses (compare_terms s a b)
      (must (well_formed s ≡ true) 17 (must ((a < s.terms) × (b < s.terms)) 14 never))
  pub compare_given : (s : Store) (a b : ℕ) (o : Ordering) → compare_terms s a b ≡ given o → o ≡ compare_at s a b
  -- and sort the sorted permutation, or the list as it was; there is but one.
  pub sort_refused :
      (s : Store) (l : List ℕ) →
      Refuses (sort_terms s l).0 (must (well_formed s ≡ true) 17 (must (AllIn s l) 14 never))
  pub sorts : (s : Store) (l : List ℕ) → Sorts s l (sort_terms s l).0 (sort_terms s l).1
  pub sorted_once :
      (s : Store) (l m : List ℕ) → Sorted (at_most s) l → Sorted (at_most s) m → SameCounts l m → l ≡ m
  -- A sort goes by the order of compare.
  pub sort_order :
      (s : Store) (a b : ℕ) →
      well_formed s ≡ true →
      a < s.terms →
      b < s.terms →
      at_most s a b ≡ up_to (compare_at s a b)
  -- The order of terms is total: it turns round, is transitive, and calls the same only what is equal.
  pub order_flips : (t u : Tree) → trees u t ≡ flip (trees t u)
  pub order_trans : (t u v : Tree) → trees t u ≡ Less → trees u v ≡ Less → trees t v ≡ Less
  pub order_same : (t u : Tree) → trees t u ≡ Equal → t ≡ u
  -- "Equal means the same number", and the same number is equal.
  pub order_numbers :
      (s : Store) (a b : ℕ) →
      well_formed s ≡ true →
      a < s.terms →
      b < s.terms →
      (compare_at s a b ≡ Equal) ↔ (a ≡ b)
  -- It goes by the trees that the numbers mean, however the store was filled.
  pub order_trees :
      (s : Store) (a b : ℕ) (t u : Tree) →
      well_formed s ≡ true →
      a < s.terms →
      b < s.terms →
      Means s a t →
      Means s b u →
      compare_at s a b ≡ trees t u
  -- Each call's answer and the lists that it leaves are determined: what is seen the same is the same.
  pub add_determined :
      (r r' : Result Added Refusal) (rs rs' : List ℕ) (ls ls' : List ℤ) (ns ns' : List ℕ) (n m : ℕ) →
      seen_added r rs ls ns n m ≡ seen_added r' rs' ls' ns' n m →
      (r ≡ r') × (rs ≡ rs') × (ls ≡ ls') × (ns ≡ ns')
  -- So are those of an add that raises the counts in what it is lent, and the counts with the lists.
  pub adds_determined :
      (r r' : Result ℕ Refusal) (t t' : Store) → ◌≡◌ {A = Answer ℕ × Store} (seen r, t) (seen r', t') → (r ≡ r') × (t ≡ t')
  pub find_determined : (r r' : Result ℕ Refusal) → seen r ≡ seen r' → r ≡ r'
  pub size_determined : (r r' : Result ℕ Refusal) → seen r ≡ seen r' → r ≡ r'
  pub get_determined : (r r' : Result Term Refusal) → seen_got r ≡ seen_got r' → r ≡ r'
  pub compare_determined : (r r' : Result Ordering Refusal) → seen r ≡ seen r' → r ≡ r'
  pub sort_determined :
      (r r' : Result Unit Refusal) (l m : List ℕ) → seen_sort r l ≡ seen_sort r' m → (r ≡ r') × (l ≡ m)
