-- The code's answer as a reading. Assumes nothing: a definition.
use Rattle.std.specs.Prelude.{Result, Ok, Err}
use Rattle.refusal.specs.declared.Refusal.{Refusal}
use Rattle.bits.specs.Got.{Got, got, refused}
use Rattle.file_rules.specs.Table.{Sort}
use Rattle.file_fields.specs.declared.sorts.Sort.{Sort as SortRead}

abbrev pub got_sort : Result SortRead Refusal → Got Sort
got_sort (Ok x) = got (record { kind = x.kind; classes = x.classes }) x.next
got_sort (Err r) = refused r
