-- `term_layout::put_record` meets its contract. The record's numbers are made, and copied into their place. Assumes
-- nothing.
use mathlib.Core.Path.{sym, ◌∙◌}
use native.Mathlib.Omega.{arith}
use lib.IntN.{pos}
use mir.Syntax.{w64}
use mir.ValLaws.{to_z-of_z}
use Rattle.std.proofs.lemmas.Slice.{put_mid-paste}
use Rattle.term_rules.specs.Lent.{width, numbers}
use Rattle.term_layout.specs.Padded.{padded}
use Rattle.term_layout.proofs.NumberLaws.{numbers-length, numbers-made}
use Rattle.term_layout.proofs.put_record.Goals as goal

pub returns : goal.returns
returns c =
    let g = c.args in
    let short = c.requires.children_len_bound in
    record {
      records_after = put_mid-paste _ _ _ _ (numbers (padded g.kind g.symbol g.count (pos 0) g.children.now)) width
          (c.copy_from_slice-2.ensures.after
          ∙ numbers-made g.kind g.symbol g.count (pos 0) g.children.now _ short c.copy_from_slice.ensures.after)
          (omega arith)
          (sym (numbers-length g.kind g.symbol g.count (pos 0) g.children.now short));
      literals_after = rw (to_z-of_z w64 g.literal c.ranges.literal);
    }
