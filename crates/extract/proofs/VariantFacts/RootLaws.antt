-- A root's sort is one of the table's. Assumes nothing.
use mathlib.Core.Path.{◌≡◌}
use mathlib.Core.Bool.{true}
use Prim.Native.Nat.{ℕ, ◌<◌}
use borrow.Author.Tests.{ltb-true}
use lib.Dec.{ltb}
use lib.ListN.{length}
use Rattle.term_rules.proofs.TestLaws.{and_first}
use Rattle.file_rules.specs.Table.{Table}
use Rattle.table_rules.specs.Rules.Classes.{range_of, is_root}

pub sort-below : (t : Table) (s v : ℕ) → is_root t s v ≡ true → s < length t.sorts
unfolding is_root
sort-below t s v p = ltb-true s (length t.sorts) (and_first (ltb s (length t.sorts)) (ltb v (range_of t s)) p)
