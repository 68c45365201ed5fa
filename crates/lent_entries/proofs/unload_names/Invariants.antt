-- `lent_entries::unload_names`: the first k entries are put back. Assumes nothing.
use Rattle.std.proofs.Common.{◌≡◌}
use Rattle.lent_entries.proofs.EntriesLaws.{put_to}
use Rattle.lent_entries.proofs.unload_names.Given as goal

abbrev pub invariant-loop-k : goal.invariant-loop-k
invariant-loop-k l = l.ns ≡ put_to l.initial.ns l.names l.k
