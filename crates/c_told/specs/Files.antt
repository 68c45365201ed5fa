-- How a table file is told in one struct. Assumes nothing: definitions.
use Rattle.std.specs.Prelude.{pos, length, Result, Ok, Err}
use Rattle.refusal.specs.declared.Refusal.{Refusal}
use Rattle.bits.specs.Got.{Got, got, refused}
use Rattle.file_rules.specs.Table.{Table}
use Rattle.file_rules.specs.declared.Counts.{Counts}
use Rattle.c_told.specs.Below.{below_zero}
use Rattle.c_told.specs.declared.files.Shape.{Shape}

-- How much a table holds.
abbrev pub table_shape : Table → Shape
table_shape t =
    record {
      status = pos 0;
      sorts = length t.sorts;
      literals = length t.literals;
      functions = length t.functions;
      rows = length t.rows;
    }

-- The number of a fault below zero, and zeros.
abbrev pub fault_shape : Refusal → Shape
fault_shape r = record { status = below_zero r; sorts = 0; literals = 0; functions = 0; rows = 0 }

-- What a file is told as: how much its table holds, or its first fault.
abbrev pub shape_of : Got Table → Shape
shape_of (got t k) = table_shape t
shape_of (refused r) = fault_shape r

-- the same of the reader's answer
abbrev pub shape_told : Result Counts Refusal → Shape
shape_told (Ok c) =
    record { status = pos 0; sorts = c.sorts; literals = c.literals; functions = c.functions; rows = c.rows }
shape_told (Err r) = fault_shape r
