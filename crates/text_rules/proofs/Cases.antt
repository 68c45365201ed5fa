-- Let texts at which a slip of document 01 would show, computed; its (P) cases are in cases/specs/Cases.antt. Assumes
-- nothing.
use Prim.Native.Nat.{ℕ}
use mathlib.Core.Path.{◌≡◌, refl}
use mathlib.Core.Bool.{true, false}
use mathlib.Core.List.{List, [], ◌∷◌}
use lib.ListN.{get_or}
use lib.IntN.{pos}
use Rattle.decimal.specs.Decimal.{digits, digits_in, literal_text}
use Rattle.term_rules.specs.Nodes.{Node, literal, variable, application}
use Rattle.text_rules.specs.Forms.{each, form, shown, child_text, line_in, line}
use Rattle.text_rules.specs.Counts.{
  in_turn,
  member,
  reach_in,
  reached,
  places,
  places_in,
  count,
  sum_of,
  size_in,
  size,
}
use Rattle.text_rules.specs.Bindings.{find, to_bind, bind, meet_in, bindings}
use Rattle.text_rules.specs.LetText.{
  Naming,
  count_text,
  let_name,
  called_at,
  called,
  several,
  any_several,
  new_line,
  breaks,
  own_in,
  own,
  body_gap,
  let_line,
  let_lines,
  text_with,
  bindings_of,
  let_layout,
}

-- term t of a list of terms
term : List Node → ℕ → Node
term nodes t = get_or nodes t (literal (pos 0))

-- hint `t`, start 0
t : Naming
t = record { prefix = []; hint = 116 ∷ []; start = 0; bare_zero = false }

-- prefix `p`, hint `t`, start 0, the zero flag
bare : Naming
bare = record { prefix = 112 ∷ []; hint = 116 ∷ []; start = 0; bare_zero = true }

-- "Laying out a let body as if met at indent 2": its term was met at indent 2, so its children stand at 2 + 2 + 2
broken-body-terms : List Node
broken-body-terms =
    variable (97 ∷ 97 ∷ 97 ∷ 97 ∷ 97 ∷ 97 ∷ 97 ∷ 97 ∷ 97 ∷ 97 ∷ 97 ∷ 97 ∷ 97 ∷ 97 ∷ 97 ∷ 97 ∷ 97 ∷ 97 ∷ 97 ∷ 97 ∷ 97 ∷
    97 ∷ 97 ∷ 97 ∷ 97 ∷ 97 ∷ 97 ∷ 97 ∷ 97 ∷ 97 ∷ 97 ∷ []) ∷
    variable (98 ∷ 98 ∷ 98 ∷ 98 ∷ 98 ∷ 98 ∷ 98 ∷ 98 ∷ 98 ∷ 98 ∷ 98 ∷ 98 ∷ 98 ∷ 98 ∷ 98 ∷ 98 ∷ 98 ∷ 98 ∷ 98 ∷ 98 ∷ 98 ∷
    98 ∷ 98 ∷ 98 ∷ 98 ∷ 98 ∷ 98 ∷ 98 ∷ 98 ∷ 98 ∷ 98 ∷ []) ∷
    variable (99 ∷ 99 ∷ 99 ∷ 99 ∷ 99 ∷ 99 ∷ 99 ∷ 99 ∷ 99 ∷ 99 ∷ 99 ∷ 99 ∷ 99 ∷ []) ∷
    application (70 ∷ []) (0 ∷ 1 ∷ 2 ∷ []) ∷ application (71 ∷ []) (3 ∷ 3 ∷ []) ∷ []

broken-body : let_layout (term broken-body-terms) t 4 ≡
    40 ∷ 108 ∷ 101 ∷ 116 ∷ 32 ∷ 116 ∷ 48 ∷ 10 ∷ 32 ∷ 32 ∷ 40 ∷ 70 ∷ 10 ∷ 32 ∷ 32 ∷ 32 ∷ 32 ∷ 32 ∷ 32 ∷
    97 ∷ 97 ∷ 97 ∷ 97 ∷ 97 ∷ 97 ∷ 97 ∷ 97 ∷ 97 ∷ 97 ∷ 97 ∷ 97 ∷ 97 ∷ 97 ∷ 97 ∷ 97 ∷ 97 ∷ 97 ∷ 97 ∷ 97 ∷
    97 ∷ 97 ∷ 97 ∷ 97 ∷ 97 ∷ 97 ∷ 97 ∷ 97 ∷ 97 ∷ 97 ∷ 97 ∷ 10 ∷ 32 ∷ 32 ∷ 32 ∷ 32 ∷ 32 ∷ 32 ∷ 98 ∷ 98 ∷
    98 ∷ 98 ∷ 98 ∷ 98 ∷ 98 ∷ 98 ∷ 98 ∷ 98 ∷ 98 ∷ 98 ∷ 98 ∷ 98 ∷ 98 ∷ 98 ∷ 98 ∷ 98 ∷ 98 ∷ 98 ∷ 98 ∷ 98 ∷
    98 ∷ 98 ∷ 98 ∷ 98 ∷ 98 ∷ 98 ∷ 98 ∷ 98 ∷ 98 ∷ 10 ∷ 32 ∷ 32 ∷ 32 ∷ 32 ∷ 32 ∷ 32 ∷ 99 ∷ 99 ∷ 99 ∷ 99 ∷
    99 ∷ 99 ∷ 99 ∷ 99 ∷ 99 ∷ 99 ∷ 99 ∷ 99 ∷ 99 ∷ 41 ∷ 41 ∷ 10 ∷ 10 ∷ 40 ∷ 71 ∷ 32 ∷ 116 ∷ 48 ∷ 32 ∷
    116 ∷ 48 ∷ 41 ∷ []
unfolding broken-body-terms term t let_layout bindings_of text_with let_lines let_line body_gap own own_in breaks new_line
    any_several several called called_at let_name count_text bindings meet_in bind to_bind find size size_in sum_of count
    places_in places reached reach_in member in_turn line line_in child_text shown form each digits digits_in literal_text
broken-body = refl

-- "Counting occurrences in the tree": a child of a shared term is not bound for being under it twice in the tree
child-of-shared-terms : List Node
child-of-shared-terms =
    variable (120 ∷ []) ∷ application (70 ∷ []) (0 ∷ 0 ∷ 0 ∷ []) ∷ application (72 ∷ []) (1 ∷ []) ∷
    application (71 ∷ []) (2 ∷ 2 ∷ []) ∷ []

child-of-shared : let_layout (term child-of-shared-terms) t 3 ≡
    40 ∷ 108 ∷ 101 ∷ 116 ∷ 32 ∷ 116 ∷ 48 ∷ 32 ∷ 40 ∷ 72 ∷ 32 ∷ 40 ∷ 70 ∷ 32 ∷ 120 ∷ 32 ∷ 120 ∷ 32 ∷
    120 ∷ 41 ∷ 41 ∷ 41 ∷ 10 ∷ 10 ∷ 40 ∷ 71 ∷ 32 ∷ 116 ∷ 48 ∷ 32 ∷ 116 ∷ 48 ∷ 41 ∷ []
unfolding child-of-shared-terms term t let_layout bindings_of text_with let_lines let_line body_gap own own_in breaks new_line
    any_several several called called_at let_name count_text bindings meet_in bind to_bind find size size_in sum_of count
    places_in places reached reach_in member in_turn line line_in child_text shown form each digits digits_in literal_text
child-of-shared = refl

-- with the zero flag, count 0 prints no digits, and count 1 does
bare-zero-terms : List Node
bare-zero-terms =
    variable (120 ∷ []) ∷ application (70 ∷ []) (0 ∷ 0 ∷ 0 ∷ []) ∷ application (72 ∷ []) (1 ∷ 1 ∷ []) ∷
    application (71 ∷ []) (2 ∷ 2 ∷ []) ∷ []

bare-zero : let_layout (term bare-zero-terms) bare 3 ≡
    40 ∷ 108 ∷ 101 ∷ 116 ∷ 32 ∷ 112 ∷ 116 ∷ 32 ∷ 40 ∷ 70 ∷ 32 ∷ 120 ∷ 32 ∷ 120 ∷ 32 ∷ 120 ∷ 41 ∷ 41 ∷
    10 ∷ 40 ∷ 108 ∷ 101 ∷ 116 ∷ 32 ∷ 112 ∷ 116 ∷ 49 ∷ 32 ∷ 40 ∷ 72 ∷ 32 ∷ 112 ∷ 116 ∷ 32 ∷ 112 ∷ 116 ∷
    41 ∷ 41 ∷ 10 ∷ 10 ∷ 40 ∷ 71 ∷ 32 ∷ 112 ∷ 116 ∷ 49 ∷ 32 ∷ 112 ∷ 116 ∷ 49 ∷ 41 ∷ []
unfolding bare-zero-terms term bare let_layout bindings_of text_with let_lines let_line body_gap own own_in breaks new_line
    any_several several called called_at let_name count_text bindings meet_in bind to_bind find size size_in sum_of count
    places_in places reached reach_in member in_turn line line_in child_text shown form each digits digits_in literal_text
bare-zero = refl
