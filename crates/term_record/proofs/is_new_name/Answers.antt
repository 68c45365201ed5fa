-- `term_record::is_new_name` meets its contract. The name is looked for among the entries before it. Assumes nothing.
use mathlib.Core.Path.{sym}
use Rattle.term_record.proofs.CheckLaws.{name_none}
use native.Mathlib.Omega.{arith}
use Rattle.term_record.proofs.is_new_name.Goals as goal

pub name_of-requires : goal.name_of-requires
name_of-requires c =
    let pre = c.requires in
    record { long = omega (arith, pre.long); short = pre.short _ (omega arith) }

pub find-requires : goal.find-requires
find-requires c =
    let pre = c.requires in
    record { long = omega (arith, pre.long); short = λ j h. pre.short j (omega arith) }

pub returns : goal.returns
returns c =
    name_none c.args.names.now c.args.k c.find.result c.is_none.result (sym (rw c.name_of.ensures at c.find.ensures))
    c.is_none.ensures
