-- The lent arrays, and what a call of `read` answers and leaves in them. Assumes nothing: definitions.
use Rattle.std.specs.Prelude.{ℕ, List, map, ℤ, pos, length, Result, Ok, Err}
use Rattle.refusal.specs.declared.Refusal.{Refusal}
use Rattle.refusal.specs.Answer.{Answer, value, refuse}
use Rattle.name.specs.Entries.{table_length, entry}
use Rattle.bits.specs.Got.{Got, got, refused}
use Rattle.file_rules.specs.declared.Counts.{Counts as Told}
use Rattle.file_rules.specs.declared.Table.{Table as Given}
use Rattle.file_rules.specs.Table.{Sort, Function, Row, Table}
use Rattle.file_rules.specs.Sorts.{kinds_of}
use Rattle.file_rules.specs.Arrays.{pad_with, pad, blocks}

-- The contents of the fourteen arrays.
pub record Arrays : Type 0 where
  pub kinds : List ℕ
  pub classes : List ℕ
  pub literals : List ℤ
  pub names : List ℕ
  pub declared : List ℕ
  pub costs : List ℕ
  pub unextractable : List ℕ
  pub hidden : List ℕ
  pub outputs : List ℕ
  pub arities : List ℕ
  pub arguments : List ℕ
  pub functions : List ℕ
  pub subsumed : List ℕ
  pub cells : List ℕ

abbrev pub lent : List ℕ → List ℕ → List ℤ → List ℕ → List ℕ → List ℕ → List ℕ → List ℕ → List ℕ → List ℕ → List ℕ
    → List ℕ → List ℕ → List ℕ → Arrays
lent kinds classes literals names declared costs unextractable hidden outputs arities arguments functions subsumed cells
    =
    record {
      kinds = kinds;
      classes = classes;
      literals = literals;
      names = names;
      declared = declared;
      costs = costs;
      unextractable = unextractable;
      hidden = hidden;
      outputs = outputs;
      arities = arities;
      arguments = arguments;
      functions = functions;
      subsumed = subsumed;
      cells = cells;
    }

-- What the lent arrays hold.
abbrev pub arrays : Given → Arrays
arrays a =
    lent a.sorts.kinds a.sorts.classes a.literals
    a.functions.names a.functions.declared a.functions.costs a.functions.unextractable a.functions.hidden
    a.functions.outputs a.functions.arities a.functions.arguments
    a.rows.functions a.rows.subsumed a.rows.cells

-- A table in the arrays: each list from the front, zeros after it.
abbrev pub arrays_of : Table → Arrays
arrays_of t =
    record {
      kinds = pad 32 (kinds_of t.sorts);
      classes = pad 32 (map (λ (x : Sort). x.classes) t.sorts);
      literals = pad_with (pos 0) 512 t.literals;
      names = pad table_length (blocks (λ (f : Function). entry f.name) t.functions);
      declared = pad 128 (map (λ (f : Function). f.has_cost) t.functions);
      costs = pad 128 (map (λ (f : Function). f.cost) t.functions);
      unextractable = pad 128 (map (λ (f : Function). f.unextractable) t.functions);
      hidden = pad 128 (map (λ (f : Function). f.hidden) t.functions);
      outputs = pad 128 (map (λ (f : Function). f.output) t.functions);
      arities = pad 128 (map (λ (f : Function). length f.arguments) t.functions);
      arguments = pad 1024 (blocks (λ (f : Function). pad 8 f.arguments) t.functions);
      functions = pad 1024 (map (λ (r : Row). r.function) t.rows);
      subsumed = pad 1024 (map (λ (r : Row). r.subsumed) t.rows);
      cells = pad 9216 (blocks (λ (r : Row). pad 9 r.cells) t.rows);
    }

-- How many sorts, literals, functions and rows a table has.
pub record Counts : Type 0 where
  pub sorts : ℕ
  pub literals : ℕ
  pub functions : ℕ
  pub rows : ℕ

abbrev pub counts : ℕ → ℕ → ℕ → ℕ → Counts
counts s l f r = record { sorts = s; literals = l; functions = f; rows = r }

abbrev pub counts_of : Table → Counts
counts_of t = counts (length t.sorts) (length t.literals) (length t.functions) (length t.rows)

-- What a call answers, and the arrays as it returns.
pub record After : Type 0 where
  pub answer : Answer Counts
  pub arrays : Arrays

-- The code's answer, in document 01's numbers.
abbrev pub answer_of : Result Told Refusal → Answer Counts
answer_of (Ok c) = value (counts c.sorts c.literals c.functions c.rows)
answer_of (Err r) = refuse r

abbrev pub seen : Result Told Refusal → Arrays → After
seen r a = record { answer = answer_of r; arrays = a }

-- The answer for a file: its table's counts and the table in the arrays, or the number of the first fault and the arrays
-- as they were.
abbrev pub read_of : Got Table → Arrays → After
read_of (got t k) before = record { answer = value (counts_of t); arrays = arrays_of t }
read_of (refused r) before = record { answer = refuse r; arrays = before }
