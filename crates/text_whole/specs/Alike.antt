-- Two numberings of the same terms: which numbers name the same term. Assumes nothing: these are definitions.
use Rattle.std.specs.Prelude.{◌≡◌, List, [], ◌∷◌, ℕ, ◌<◌, eqb}
use Rattle.term_rules.specs.Nodes.{Node, literal, variable, application}
use Rattle.text_rules.specs.Bindings.{Bound}

-- two lists, member for member
unfoldable pub Both : {A : Type 0} → (A → A → Type 0) → List A → List A → Type 0
Both P [] [] = Unit
Both P [] (y ∷ ys) = ⊥
Both P (x ∷ xs) [] = ⊥
Both P (x ∷ xs) (y ∷ ys) = P x y × Both P xs ys

-- children k and l of i and j: the same, and lower
pub record Lower (R : ℕ → ℕ → Type 0) (i j k l : ℕ) : Type 0 where
  pub same : R k l
  pub left : k < i
  pub right : l < j

-- a number names one term, and a term has one number
abbrev pub Once : (ℕ → ℕ → Type 0) → Type 0
Once R = (i j k l : ℕ) → R i j → R k l → eqb i k ≡ eqb j l

-- terms that are the same have the same children
pub record AlikeKids (kids kids' : ℕ → List ℕ) (R : ℕ → ℕ → Type 0) : Type 0 where
  pub kin : (i j : ℕ) → R i j → Both (Lower R i j) (kids i) (kids' j)
  pub once : Once R

-- the same literal, the same name, or the same name and the same children
unfoldable pub SameNode : (ℕ → ℕ → Type 0) → Node → Node → Type 0
SameNode P (literal y) (literal z) = y ≡ z
SameNode P (literal y) (variable n) = ⊥
SameNode P (literal y) (application n ks) = ⊥
SameNode P (variable m) (literal z) = ⊥
SameNode P (variable m) (variable n) = m ≡ n
SameNode P (variable m) (application n ks) = ⊥
SameNode P (application m js) (literal z) = ⊥
SameNode P (application m js) (variable n) = ⊥
SameNode P (application m js) (application n ks) = (m ≡ n) × Both P js ks

pub record Alike (node node' : ℕ → Node) (R : ℕ → ℕ → Type 0) : Type 0 where
  pub same : (i j : ℕ) → R i j → SameNode (Lower R i j) (node i) (node' j)
  pub once : Once R

-- bindings of the same term, met at the same indent
pub record SameBound (R : ℕ → ℕ → Type 0) (b c : Bound) : Type 0 where
  pub term : R b.term c.term
  pub indent : b.indent ≡ c.indent
