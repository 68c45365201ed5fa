-- Tables and stores as document 01 writes them, functions by their names: for its cases. Assumes nothing: definitions.
use Rattle.std.specs.Prelude.{ℕ, suc, true, false, List, [], ◌∷◌, ◌++◌, map, ℤ}
use Prim.Native.String.{String}
use Rattle.name.specs.Name.{same}
use Rattle.file_rules.specs.Table.{Sort, Function, Row, Table}
use Rattle.term_rules.specs.Lent.{Store}
use Rattle.term_rules.specs.Nodes.{Node}
use Rattle.term_rules.specs.Adding.{Adds, at, no_room, add}
use Rattle.cases.specs.Words.{bytes}

-- An eq sort of so many classes, and a base sort.
abbrev pub eq : ℕ → Sort
eq n = record { kind = 1; classes = n }

abbrev pub base : Sort
base = record { kind = 0; classes = 0 }

-- A function into sort 0, by its name and its argument sorts, usable: without a cost, and with one.
abbrev pub plain : String → List ℕ → Function
plain name arguments =
    record {
      name = bytes name;
      has_cost = 0;
      cost = 0;
      unextractable = 0;
      hidden = 0;
      output = 0;
      arguments = arguments;
    }

abbrev pub costing : ℕ → String → List ℕ → Function
costing cost name arguments =
    record {
      name = bytes name;
      has_cost = 1;
      cost = cost;
      unextractable = 0;
      hidden = 0;
      output = 0;
      arguments = arguments;
    }

-- A row as document 01 writes it, `Add(0,0)->1`.
pub record Line : Type 0 where
  pub name : String
  pub arguments : List ℕ
  pub output : ℕ

abbrev pub line : String → List ℕ → ℕ → Line
line name arguments output = record { name = name; arguments = arguments; output = output }

-- The number of the function that has the name.
unfoldable pub number_of : List Function → List ℕ → ℕ
number_of [] name = 0
number_of (f ∷ fs) name = elim (same f.name name) [ true ↦ 0 | false ↦ suc (number_of fs name) ]

unfoldable pub row_of : List Function → Line → Row
row_of functions l =
    record {
      function = number_of functions (bytes l.name);
      subsumed = 0;
      cells = l.arguments ++ (l.output ∷ []);
    }

unfoldable pub table : List Sort → List ℤ → List Function → List Line → Table
table sorts literals functions lines =
    record {
      sorts = sorts;
      literals = literals;
      functions = functions;
      rows = map (row_of functions) lines;
    }

-- The store after terms were added in turn.
abbrev pub after : Store → Adds → Store
after s (at i t) = t
after s no_room = s

unfoldable pub adding : Store → List Node → Store
adding s [] = s
adding s (node ∷ nodes) = adding (after s (add s node)) nodes
