-- What the structs of arrays hold, and what they hold at first. Assumes nothing: definitions.
use Rattle.std.specs.Prelude.{List, pos, replicate}
use Rattle.name.specs.Entries.{table_length}
use Rattle.file_rules.specs.declared.Sorts.{Sorts}
use Rattle.file_rules.specs.declared.Functions.{Functions}
use Rattle.file_rules.specs.declared.Rows.{Rows}
use Rattle.file_rules.specs.declared.Table.{Table as Arrays}
use Rattle.file_rules.specs.Table.{Sort, Function, Row, Table}
use Rattle.file_rules.specs.Arrays.{HoldsSorts, HoldsFunctions, HoldsRows, Holds}

abbrev pub holds_sorts : Sorts → List Sort → Type 0
holds_sorts s = HoldsSorts s.kinds s.classes

abbrev pub holds_functions : Functions → List Function → Type 0
holds_functions f =
    HoldsFunctions f.names f.declared f.costs f.unextractable f.hidden f.outputs f.arities f.arguments

abbrev pub holds_rows : Rows → List Row → Type 0
holds_rows r = HoldsRows r.functions r.subsumed r.cells

abbrev pub holds : Arrays → Table → Type 0
holds a =
    Holds a.sorts.kinds a.sorts.classes a.literals
    a.functions.names a.functions.declared a.functions.costs a.functions.unextractable a.functions.hidden
    a.functions.outputs a.functions.arities a.functions.arguments
    a.rows.functions a.rows.subsumed a.rows.cells

-- Zeros in every array.
abbrev pub empty : Arrays
empty = record {
  sorts = record { kinds = replicate 32 0; classes = replicate 32 0 };
  literals = replicate 512 (pos 0);
  functions = record {
    names = replicate table_length 0;
    declared = replicate 128 0;
    costs = replicate 128 0;
    unextractable = replicate 128 0;
    hidden = replicate 128 0;
    outputs = replicate 128 0;
    arities = replicate 128 0;
    arguments = replicate 1024 0;
  };
  rows = record {
    functions = replicate 1024 0;
    subsumed = replicate 1024 0;
    cells = replicate 9216 0;
  };
}
