-- `lent_entries::load_names`: the first k entries are copied. Assumes nothing.
use Rattle.lent_entries.proofs.EntriesLaws.{CopiedNames}
use Rattle.lent_entries.proofs.load_names.Given as goal

abbrev pub invariant-loop-k : goal.invariant-loop-k
invariant-loop-k l = CopiedNames l.ns l.k l.names
