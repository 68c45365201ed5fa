-- The form of a term's text: document 01, 'Terms'. A text is a list of bytes. Assumes nothing: these are definitions.
use Rattle.std.specs.Prelude.{ℕ, zero, suc, List, [], ◌∷◌, ◌++◌}
use Rattle.decimal.specs.Decimal.{literal_text}
use Rattle.term_rules.specs.Nodes.{Node, literal, variable, application}

-- the child numbers of a term
abbrev pub children : Node → List ℕ
children (literal z) = []
children (variable n) = []
children (application n ks) = ks

-- the text of each child, after a gap
unfoldable pub each : List ℕ → (ℕ → List ℕ) → List ℕ → List ℕ
each gap text [] = []
each gap text (k ∷ ks) = gap ++ (text k ++ each gap text ks)

-- "`(name a b)`, `(name)` without children, bare literals and variables"
unfoldable pub form : List ℕ → (ℕ → List ℕ) → Node → List ℕ
form gap text (literal z) = literal_text z
form gap text (variable n) = n
form gap text (application n ks) = 40 ∷ (n ++ (each gap text ks ++ (41 ∷ [])))

-- how a child is shown: by a let name, or by its own text
pub data Called : Type 0 where
  by_name : List ℕ → Called
  by_text : Called

unfoldable pub shown : Called → List ℕ → List ℕ
shown (by_name n) text = n
shown by_text text = text

-- the text of a child where each term's own text is given
unfoldable pub child_text : (ℕ → Called) → (ℕ → List ℕ) → ℕ → List ℕ
child_text called text k = shown (called k) (text k)

-- the text of term t on one line. A child is lower than its parent, so f bounds the depth where f is above t
unfoldable pub line_in : (ℕ → Node) → (ℕ → Called) → ℕ → ℕ → List ℕ
line_in node called zero t = []
line_in node called (suc f) t = form (32 ∷ []) (child_text called (line_in node called f)) (node t)

-- "Inline form"
unfoldable pub line : (ℕ → Node) → (ℕ → Called) → ℕ → List ℕ
line node called t = line_in node called (suc t) t
