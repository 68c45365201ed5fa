-- What the promises of the calls that only read rest on: an answer of the store, told by a status and a value. Assumes
-- nothing.
use mathlib.Core.Path.{◌≡◌, refl, sym, ap, ◌∙◌}
use mathlib.Core.Logic.{inl, inr}
use mathlib.Core.List.{List}
use Prim.Native.Nat.{ℕ}
use native.Mathlib.Omega.{arith}
use lib.IntN.{ℤ, pos, neg_ℤ}
use Rattle.refusal.specs.declared.Refusal.{Refusal}
use Rattle.refusal.specs.declared.Refusal.TheVariants.{Absent}
use Rattle.refusal.specs.Numbers.{refusal_no}
use Rattle.std.specs.Prelude.{Option, Some, None}
use Rattle.term_rules.specs.Lent.{Store}
use Rattle.term_rules.specs.Nodes.{Node}
use Rattle.term_rules.specs.Adding.{find_term}
use Rattle.term.specs.Answers.{Answer, given, refused}
use Rattle.term.specs.Orders.{Telling, Refuses}
use Rattle.term.specs.Calls.{
  Faults,
  fine,
  fault,
  literal_faults,
  variable_faults,
  application_faults,
  found,
  finding,
  find_literal,
  find_variable,
  find_application,
  sizing,
  size_of,
  get_faults,
  getting,
  get_term,
  compare_faults,
  comparing,
  compare_terms,
  sort_faults,
  sorting,
  sort_terms,
}
use Rattle.needlevale_c.specs.Reading.{Tells}
use Rattle.needlevale_c.proofs.CodeLaws.{is_below, is_code}

-- A refused answer's number is one of the table.
unfoldable pub Known : {A : Type 0} → Answer A → Type 0
Known (given x) = Unit
Known (refused k) = (r : Refusal) × (k ≡ refusal_no r)

is-given : {A : Type 0} → Answer A → ℕ
is-given (given x) = 1
is-given (refused k) = 0

number_in : {A : Type 0} → Answer A → ℕ
number_in (given x) = 0
number_in (refused k) = k

never : {A : Type 0} (x : A) (k : ℕ) → ◌≡◌ {A = Answer A} (given x) (refused k) → ⊥
unfolding is-given
never x k e =
    let z : ◌≡◌ {A = ℕ} 1 0 = ap is-given e in
    omega (arith, z)

-- The status of an answer is s, and its value v: of one that is given they are 0 and what is told of it, of a refused one
-- its number below zero and nothing.
unfoldable pub Stated : {A B : Type 0} → (A → B) → B → Answer A → ℤ → B → Type 0
Stated told nothing (given x) s v = (s ≡ pos 0) × (v ≡ told x)
Stated told nothing (refused k) s v = (s ≡ neg_ℤ (pos k)) × (v ≡ nothing)

pub tells :
    {A B : Type 0} (told : A → B) (nothing : B) (a : Answer A) (s : ℤ) (v : B) (asked : Telling) (Good : B → Type 0) →
    Known a →
    Stated told nothing a s v →
    Refuses a asked →
    ((x : A) → a ≡ given x → v ≡ told x → Good v) →
    Tells asked Good nothing s v
unfolding Known Stated number_in
tells told nothing (given x) s v asked Good known h refuses good = record {
  known = inl h.0;
  refusals = λ r. (
    (λ e. absurd (is_below r 0 (sym e ∙ h.0))),
    λ t. absurd (never x (refusal_no r) ((refuses (refusal_no r)).1 t)),
  );
  good = λ e. good x refl h.1;
  none = λ r e. absurd (is_below r 0 (sym e ∙ h.0));
}
tells told nothing (refused k) s v asked Good known h refuses good = record {
  known = inr (known.0, h.0 ∙ ap (λ (n : ℕ). neg_ℤ (pos n)) known.1);
  refusals = λ r. (
    (λ e. (refuses (refusal_no r)).0 (ap refused (is_code k (refusal_no r) (sym h.0 ∙ e)))),
    λ t. h.0 ∙ ap (λ (n : ℕ). neg_ℤ (pos n)) (ap number_in ((refuses (refusal_no r)).1 t)),
  );
  good = λ e. absurd (is_below known.0 0 (sym (ap (λ (n : ℕ). neg_ℤ (pos n)) known.1) ∙ sym h.0 ∙ e));
  none = λ r e. h.1;
}

-- ---- the answers of the calls are known
found-known : (f : Option ℕ) → Known (found f)
unfolding Known found
found-known (Some i) = tt
found-known None = (Absent, refl)

finding-known : (s : Store) (node : Node) (f : Faults) → Known (finding s node f)
unfolding Known finding
finding-known s node fine = found-known (find_term s node)
finding-known s node (fault r) = (r, refl)

pub literal-known : (s : Store) (z : ℤ) → Known (find_literal s z)
unfolding find_literal
literal-known s z = finding-known s _ (literal_faults s)

pub variable-known : (s : Store) (name : List ℕ) → Known (find_variable s name)
unfolding find_variable
variable-known s name = finding-known s _ (variable_faults s name)

pub application-known : (s : Store) (name ks : List ℕ) → Known (find_application s name ks)
unfolding find_application
application-known s name ks = finding-known s _ (application_faults s name ks)

sizing-known : (s : Store) (f : Faults) → Known (sizing s f)
unfolding Known sizing
sizing-known s fine = tt
sizing-known s (fault r) = (r, refl)

pub size-known : (s : Store) → Known (size_of s)
unfolding size_of
size-known s = sizing-known s _

comparing-known : (s : Store) (i j : ℕ) (f : Faults) → Known (comparing s i j f)
unfolding Known comparing
comparing-known s i j fine = tt
comparing-known s i j (fault r) = (r, refl)

pub compare-known : (s : Store) (i j : ℕ) → Known (compare_terms s i j)
unfolding compare_terms
compare-known s i j = comparing-known s i j (compare_faults s i j)

getting-known : (s : Store) (i : ℕ) (f : Faults) → Known (getting s i f).0
unfolding Known getting
getting-known s i fine = tt
getting-known s i (fault r) = (r, refl)

pub get-known : (s : Store) (i : ℕ) → Known (get_term s i).0
unfolding get_term
get-known s i = getting-known s i (get_faults s i)

sorting-known : (s : Store) (l : List ℕ) (f : Faults) → Known (sorting s l f).0
unfolding Known sorting
sorting-known s l fine = tt
sorting-known s l (fault r) = (r, refl)

pub sort-known : (s : Store) (l : List ℕ) → Known (sort_terms s l).0
unfolding sort_terms
sort-known s l = sorting-known s l (sort_faults s l)
