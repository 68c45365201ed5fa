-- The terms of rows stay where the store grows, and are as many as the rows. Assumes nothing.
use mathlib.Core.Path.{◌≡◌, refl, ap}
use mathlib.Core.List.{List, [], ◌∷◌, ◌++◌}
use Prim.Native.Nat.{ℕ, zero, suc, ◌<◌}
use native.Mathlib.Omega.{arith}
use lib.ListN.{length, get_or}
use Rattle.term_rules.specs.Lent.{Store}
use Rattle.term_rules.specs.Nodes.{Trees, applied, Means}
use Rattle.term_rules.specs.Growing.{Grows}
use Rattle.choice_rules.proofs.ListLaws.{Each}
use Rattle.build.specs.Plan.{TreesOf}
use Rattle.file_rules.specs.Table.{Table}
use Rattle.table_rules.specs.Rules.Choosing.{Prices}
use Rattle.table_rules.specs.Rules.Terms.{name_of}
use Rattle.answer_rules.specs.Plan.{plan_children, plan_for}
use Rattle.answer_rules.specs.Variants.{file_row}

-- Term u of the store is what the builder builds of row i of the scan order: its function's name over its children's
-- terms, each class by its plan.
pub record BuiltTerm (t : Table) (ps : Prices) (s : Store) (i u : ℕ) : Type 0 where
  pub below : u < s.terms
  pub trees : Trees
  pub of : TreesOf (plan_for t ps) (plan_children t (file_row ps i)) trees
  pub means : Means s u (applied (name_of t (file_row ps i)) trees)

pub data BuiltTerms (t : Table) (ps : Prices) (s : Store) : List ℕ → List ℕ → Type 0 where
  no_built : BuiltTerms t ps s [] []
  more_built :
      {i u : ℕ} {rows us : List ℕ} →
      BuiltTerm t ps s i u →
      BuiltTerms t ps s rows us →
      BuiltTerms t ps s (i ∷ rows) (u ∷ us)

module _ {t : Table} {ps : Prices} where
  term-grows : {s s' : Store} {i u : ℕ} → Grows s s' → BuiltTerm t ps s i u → BuiltTerm t ps s' i u
  term-grows {i = i} {u = u} g h = record {
    below = omega (arith, g.more, h.below);
    trees = h.trees;
    of = h.of;
    means = g.means u (applied (name_of t (file_row ps i)) h.trees) h.below h.means;
  }

  pub terms-grow :
      {s s' : Store} {rows us : List ℕ} → Grows s s' → BuiltTerms t ps s rows us → BuiltTerms t ps s' rows us
  terms-grow g no_built = no_built
  terms-grow g (more_built h hs) = more_built (term-grows g h) (terms-grow g hs)

  pub terms-append :
      {s : Store} {i u : ℕ} {rows us : List ℕ} →
      BuiltTerms t ps s rows us →
      BuiltTerm t ps s i u →
      BuiltTerms t ps s (rows ++ (i ∷ [])) (us ++ (u ∷ []))
  terms-append no_built h = more_built h no_built
  terms-append (more_built g gs) h = more_built g (terms-append gs h)

  pub terms_length : {s : Store} {rows us : List ℕ} → BuiltTerms t ps s rows us → length us ≡ length rows
  terms_length no_built = refl
  terms_length (more_built h hs) = ap suc (terms_length hs)

  pub terms-below :
      {s : Store} {rows us : List ℕ} → BuiltTerms t ps s rows us → Each (λ (u : ℕ). u < s.terms) us
  terms-below no_built = tt
  terms-below (more_built h hs) = (h.below, terms-below hs)

  pub terms-get :
      {s : Store} {rows us : List ℕ} →
      BuiltTerms t ps s rows us →
      (j : ℕ) →
      j < length rows →
      BuiltTerm t ps s (get_or rows j 0) (get_or us j 0)
  terms-get no_built j l = absurd (omega arith)
  terms-get (more_built h hs) zero l = h
  terms-get (more_built h hs) (suc j) l = terms-get hs j (omega arith)
