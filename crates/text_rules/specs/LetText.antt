-- Let text: document 01, 'Terms', 'Let text'. Assumes nothing: these are definitions.
use Rattle.std.specs.Prelude.{ℕ, zero, suc, ◌+◌, Bool, true, false, ◌&&◌, ◌||◌, List, [], ◌∷◌, ◌++◌, length, replicate, eqb, ltb}
use Rattle.decimal.specs.Decimal.{digits}
use Rattle.term_rules.specs.Lent.{Store}
use Rattle.term_rules.specs.Nodes.{Node, node_at}
use Rattle.text_rules.specs.Forms.{children, form, Called, by_name, by_text, child_text, line_in}
use Rattle.text_rules.specs.Bindings.{Bound, Place, nowhere, place, find, bindings}

-- what the let names are made of
pub record Naming : Type 0 where
  pub prefix : List ℕ
  pub hint : List ℕ
  pub start : ℕ
  pub bare_zero : Bool

-- "decimal count; with the zero flag, count 0 prints no digits"
unfoldable pub count_text : Bool → ℕ → List ℕ
count_text bare_zero n = elim (bare_zero && eqb n 0) [ true ↦ [] | false ↦ digits n ]

-- "Its name is prefix, hint, decimal count": the name of binding k, whose count is the start count plus k
unfoldable pub let_name : Naming → ℕ → List ℕ
let_name nm k = (nm.prefix ++ nm.hint) ++ count_text nm.bare_zero (nm.start + k)

unfoldable pub called_at : Naming → Place → Called
called_at nm nowhere = by_text
called_at nm (place k) = by_name (let_name nm k)

-- "Inline form uses let names": a bound term is shown by its name
unfoldable pub called : Naming → List Bound → ℕ → Called
called nm bs t = called_at nm (find t 0 bs)

-- whether a text has several lines
unfoldable pub several : List ℕ → Bool
several [] = false
several (b ∷ bs) = eqb b 10 || several bs

unfoldable pub any_several : (ℕ → List ℕ) → List ℕ → Bool
any_several text [] = false
any_several text (k ∷ ks) = several (text k) || any_several text ks

-- a new line that starts with n spaces
unfoldable pub new_line : ℕ → List ℕ
new_line n = 10 ∷ replicate n 32

-- "an application breaks if indent plus inline length exceeds 80 or a child's text has several lines"
unfoldable pub breaks : ℕ → ℕ → (ℕ → List ℕ) → List ℕ → Bool
breaks indent inline_length text ks = ltb 80 (indent + inline_length) || any_several text ks

-- The text of term t itself at indent i, every later line after m more spaces than its indent; f is above t. "Broken:
-- `(name`, each child on a new line at indent plus 2, `)` after the last."
unfoldable pub own_in : (ℕ → Node) → (ℕ → Called) → ℕ → ℕ → ℕ → ℕ → List ℕ
own_in node called zero m i t = []
own_in node called (suc f) m i t =
    elim
    (breaks i (length (line_in node called (suc f) t)) (child_text called (own_in node called f m (i + 2)))
    (children (node t))) [
      | true ↦ form (new_line (m + (i + 2))) (child_text called (own_in node called f m (i + 2))) (node t)
      | false ↦ line_in node called (suc f) t
    ]

unfoldable pub own : (ℕ → Node) → (ℕ → Called) → ℕ → ℕ → ℕ → List ℕ
own node called m i t = own_in node called (suc t) m i t

-- what stands between a let name and its body: a space, or, where the body has several lines, a new line of 2 spaces
unfoldable pub body_gap : Bool → List ℕ
body_gap true = new_line 2
body_gap false = 32 ∷ []

-- "A one-line binding is `(let n body)`. Otherwise `(let n` fills a line, then comes the body's first line after
-- exactly 2 spaces [..] and `)` after the last": the binding, ended by a newline
unfoldable pub let_line : List ℕ → List ℕ → List ℕ
let_line name body =
    40 ∷ 108 ∷ 101 ∷ 116 ∷ 32 ∷ (name ++ (body_gap (several body) ++ (body ++ (41 ∷ 10 ∷ []))))

-- The lines of the bindings, the first of which has place n. A body is laid out at the indent where its term was met:
-- "each later line after 2 spaces more than its indent where the term was met"
unfoldable pub let_lines : (ℕ → Node) → Naming → (ℕ → Called) → ℕ → List Bound → List ℕ
let_lines node nm called n [] = []
let_lines node nm called n (b ∷ bs) =
    let_line (let_name nm n) (own node called 2 b.indent b.term) ++ let_lines node nm called (n + 1) bs

-- "all bindings, each ended by a newline, one more newline, then the root"
unfoldable pub text_with : (ℕ → Node) → Naming → ℕ → List Bound → List ℕ
text_with node nm root bs =
    let_lines node nm (called nm bs) 0 bs ++ (10 ∷ own node (called nm bs) 0 0 root)

-- the bindings of term t
unfoldable pub bindings_of : (ℕ → Node) → ℕ → List Bound
bindings_of node t = bindings (λ (u : ℕ). children (node u)) t

unfoldable pub let_layout : (ℕ → Node) → Naming → ℕ → List ℕ
let_layout node nm t = text_with node nm t (bindings_of node t)

-- the let text of term t of the store
unfoldable pub let_text : Store → Naming → ℕ → List ℕ
let_text s nm t = let_layout (node_at s) nm t

-- "The next unused count"
unfoldable pub next_count : Store → Naming → ℕ → ℕ
next_count s nm t = nm.start + length (bindings_of (node_at s) t)
