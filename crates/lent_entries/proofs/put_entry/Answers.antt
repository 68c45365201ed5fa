-- `lent_entries::put_entry` meets its contract. Assumes nothing.
use Rattle.std.proofs.Common.{rules, arith}
use Rattle.std.proofs.lemmas.Slice.{put_mid-paste}
use Rattle.name.specs.Entries.{entry_width}
use Rattle.lent_entries.proofs.put_entry.Goals as goal

pub returns : goal.returns
returns c = put_mid-paste _ _ c.args.names.now _ c.args.e.now entry_width (search rules) (omega arith) (omega arith)
