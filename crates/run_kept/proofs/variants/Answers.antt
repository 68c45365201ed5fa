-- `variants` meets what it asks of others: the table is loaded, then its class is answered. Assumes nothing.
use mathlib.Core.Path.{ap, ◌∙◌}
use Rattle.std.specs.Prelude.{Ok}
use Rattle.table_rows.proofs.LoadLaws.{blank-of-empty}
use Rattle.table_roots.proofs.CallLaws.{space-of}
use Rattle.table_roots.proofs.VariantCallLaws.{some-table}
use native.Mathlib.Omega.{arith}
use Rattle.run_kept.proofs.variants.Goals as goal

pub load-requires : goal.load-requires
load-requires c =
    record {
      blank = blank-of-empty c.empty-table.ensures;
      space = space-of 1024 1025 8192 (omega arith) (omega arith) (omega arith);
    }

pub by_rows-requires : goal.by_rows-requires
by_rows-requires c =
    some-table c.args.file.now 0 0 c.load.result _ _ _ _ _ _ _ _ _ _ c.load.ensures _ _ _ _
    (c.in_ok-loaded.was ∙ ap Ok c.in-Class.is)

pub of_class-requires : goal.of_class-requires
of_class-requires c =
    some-table c.args.file.now 0 0 c.load.result _ _ _ _ _ _ _ _ _ _ c.load.ensures _ _ _ _
    (c.in_ok-loaded.was ∙ ap Ok c.in-Class.is)
