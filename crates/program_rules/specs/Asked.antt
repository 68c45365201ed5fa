-- The code's answer as a reading. Assumes nothing: definitions.
use Rattle.std.specs.Prelude.{Result, Ok, Err}
use Rattle.refusal.specs.declared.Refusal.{Refusal}
use Rattle.bits.specs.Got.{Got, got, refused}
use Rattle.program_rules.specs.Query.{Query, asked}
use Rattle.program_rules.specs.declared.queries.Query.{Query as Asked}

-- The four fields end at bit 24.
abbrev pub got_query : Result Asked Refusal → Got Query
got_query (Ok q) = got (asked q.mode q.sort q.value q.most) 24
got_query (Err r) = refused r
