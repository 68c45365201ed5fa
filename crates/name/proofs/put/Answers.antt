-- `name::put` meets its contract. The entry is made, and copied into its place. Assumes nothing.
use mathlib.Core.Path.{sym, ◌∙◌}
use native.Mathlib.Omega.{arith}
use Rattle.std.proofs.lemmas.Slice.{put_mid-paste}
use Rattle.name.specs.Entries.{entry, put_name}
use Rattle.name.proofs.EntryLaws.{entry_length, entry-made}
use Rattle.name.proofs.put.Goals as goal

pub returns : goal.returns
unfolding put_name
returns c =
    let name = c.args.name.now in
    let short = c.requires.name_len_bound in
    put_mid-paste _ _ _ _ (entry name) 32
    (c.copy_from_slice-2.ensures.after ∙ entry-made name _ short c.copy_from_slice.ensures.after) (omega arith)
    (sym (entry_length name short))
