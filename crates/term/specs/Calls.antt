-- What each call answers and leaves, from the lent store: document 01, 'Terms', with the refusals in its order.
-- Assumes nothing: these are definitions.
use Rattle.std.specs.Prelude.{ℕ, Bool, true, false, List, length, leb, ltb, ℤ, Result, Ok, Err}
use Rattle.name.specs.Name.{valid}
use Rattle.std.specs.Prelude.{Option, Some, None}
use Rattle.std.specs.declared.cmp.Ordering.{Ordering}
use Rattle.refusal.specs.declared.Refusal.{Refusal}
use Rattle.refusal.specs.declared.Refusal.TheVariants.{BadStore, BadName, BadSize, BadTerm, NoRoom, Absent}
use Rattle.term_rules.specs.declared.Term.{Term}
use Rattle.term_rules.specs.Lent.{Store, record_at}
use Rattle.term_rules.specs.WellFormed.{all_below, well_formed}
use Rattle.term_rules.specs.Nodes.{Node, literal, variable, application}
use Rattle.term_rules.specs.Adding.{find_term, Adds, at, no_room, add}
use Rattle.order.specs.Sort.{sorted}
use Rattle.term_order.specs.TreeOrder.{compare_at, at_most}
use Rattle.term.specs.Answers.{Answer, given, refuse, zero_record}

-- what may be wrong with a call, in order; nothing, if all tests pass
pub data Faults : Type 0 where
  fine : Faults
  fault : Refusal → Faults

-- the first test that fails decides
unfoldable pub unless : Bool → Refusal → Faults → Faults
unless true r f = f
unless false r f = fault r

-- what the tests of a call answer
abbrev pub faults_of : {A : Type 0} → Result A Refusal → Faults
faults_of (Ok a) = fine
faults_of (Err r) = fault r

-- "Literal: 17, 13."
unfoldable pub literal_faults : Store → Faults
literal_faults s = unless (well_formed s) BadStore fine

-- "Variable: 17, 4, 13."
unfoldable pub variable_faults : Store → List ℕ → Faults
variable_faults s name = unless (well_formed s) BadStore (unless (valid name) BadName fine)

-- every number of the list is a term
unfoldable pub terms_faults : ℕ → List ℕ → Faults
terms_faults n ks = unless (all_below n ks) BadTerm fine

-- "Application: 17, 4, 3, 14, 13."
unfoldable pub application_faults : Store → List ℕ → List ℕ → Faults
application_faults s name ks =
    unless (well_formed s) BadStore
    (unless (valid name) BadName (unless (leb (length ks) 8) BadSize (unless (all_below s.terms ks) BadTerm fine)))

-- adding answers the number and leaves the new store, or there is no room
unfoldable pub added : Store → Adds → Answer ℕ × Store
added s (at i t) = (given i, t)
added s no_room = (refuse NoRoom, s)

unfoldable pub adding : Store → Node → Faults → Answer ℕ × Store
adding s node fine = added s (add s node)
adding s node (fault r) = (refuse r, s)

unfoldable pub add_literal : Store → ℤ → Answer ℕ × Store
add_literal s z = adding s (literal z) (literal_faults s)

unfoldable pub add_variable : Store → List ℕ → Answer ℕ × Store
add_variable s name = adding s (variable name) (variable_faults s name)

unfoldable pub add_application : Store → List ℕ → List ℕ → Answer ℕ × Store
add_application s name ks = adding s (application name ks) (application_faults s name ks)

-- "Lookup has its kind's order with 15 for 13."
unfoldable pub found : Option ℕ → Answer ℕ
found (Some i) = given i
found None = refuse Absent

unfoldable pub finding : Store → Node → Faults → Answer ℕ
finding s node fine = found (find_term s node)
finding s node (fault r) = refuse r

unfoldable pub find_literal : Store → ℤ → Answer ℕ
find_literal s z = finding s (literal z) (literal_faults s)

unfoldable pub find_variable : Store → List ℕ → Answer ℕ
find_variable s name = finding s (variable name) (variable_faults s name)

unfoldable pub find_application : Store → List ℕ → List ℕ → Answer ℕ
find_application s name ks = finding s (application name ks) (application_faults s name ks)

-- "Size: 17."
unfoldable pub sizing : Store → Faults → Answer ℕ
sizing s fine = given s.terms
sizing s (fault r) = refuse r

unfoldable pub size_of : Store → Answer ℕ
size_of s = sizing s (unless (well_formed s) BadStore fine)

-- "Get, compare and sort: 17, 14."
unfoldable pub get_faults : Store → ℕ → Faults
get_faults s i = unless (well_formed s) BadStore (unless (ltb i s.terms) BadTerm fine)

unfoldable pub getting : Store → ℕ → Faults → Answer Unit × Term
getting s i fine = (given tt, record_at s i)
getting s i (fault r) = (refuse r, zero_record)

unfoldable pub get_term : Store → ℕ → Answer Unit × Term
get_term s i = getting s i (get_faults s i)

unfoldable pub compare_faults : Store → ℕ → ℕ → Faults
compare_faults s a b =
    unless (well_formed s) BadStore (unless (ltb a s.terms) BadTerm (unless (ltb b s.terms) BadTerm fine))

unfoldable pub comparing : Store → ℕ → ℕ → Faults → Answer Ordering
comparing s a b fine = given (compare_at s a b)
comparing s a b (fault r) = refuse r

unfoldable pub compare_terms : Store → ℕ → ℕ → Answer Ordering
compare_terms s a b = comparing s a b (compare_faults s a b)

unfoldable pub sort_faults : Store → List ℕ → Faults
sort_faults s l = unless (well_formed s) BadStore (unless (all_below s.terms l) BadTerm fine)

-- "The sort of a list of numbers keeps repeats."
unfoldable pub sorting : Store → List ℕ → Faults → Answer Unit × List ℕ
sorting s l fine = (given tt, sorted (at_most s) l)
sorting s l (fault r) = (refuse r, l)

unfoldable pub sort_terms : Store → List ℕ → Answer Unit × List ℕ
sort_terms s l = sorting s l (sort_faults s l)
