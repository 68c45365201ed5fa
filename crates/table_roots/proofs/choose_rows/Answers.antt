-- `table_roots::choose_rows` meets its contract: the table is loaded, then a literal is told or a class chosen of. Assumes
-- nothing.
use mathlib.Core.Path.{ap, ◌∙◌}
use lib.Seq.{length-take-le}
use Rattle.std.specs.Prelude.{Ok}
use Rattle.std.proofs.lemmas.Result.{err_from_is_err_and}
use Rattle.table_rows.proofs.LoadLaws.{blank-of-empty}
use Rattle.table_roots.proofs.CallLaws.{space-of}
use Rattle.table_roots.proofs.VariantCallLaws.{laid-table, few-classes}
use Rattle.table_roots.proofs.ChosenLaws.{front, chosen-refused, chosen-literal, chosen-refused-class, chosen-class}
use native.Mathlib.Omega.{arith}
use Rattle.table_roots.proofs.choose_rows.Goals as goal

pub load-requires : goal.load-requires
load-requires c =
    record {
      blank = blank-of-empty c.empty-table.ensures;
      space = space-of 1024 1025 8192 (omega arith) (omega arith) (omega arith);
    }

pub returns-in_err-loaded : goal.returns-in_err-loaded
returns-in_err-loaded c st formed =
    let a = c.args in
    let d = c.load in
    let p = err_from_is_err_and c.from_residual.result c.from_residual.ensures.1 in
    rw (p.1, p.2)
    (chosen-refused a.file.now a.sort a.value d.result _ _ _ _ _ _ _ _ _ _ d.ensures a.most _ _ _ _ _ st _
    c.in_err-loaded.was _ _)

pub returns-in-Literal : goal.returns-in-Literal
returns-in-Literal c st formed =
    let a = c.args in
    let d = c.load in
    chosen-literal a.file.now a.sort a.value d.result _ _ _ _ _ _ _ _ _ _ d.ensures a.most _ _ _ _ _ st _
    (c.in_ok-loaded.was ∙ ap Ok c.in-Literal.is)

pub slice_bounds-choose_class-end-in-Class-9 : goal.slice_bounds-choose_class-end-in-Class-9
slice_bounds-choose_class-end-in-Class-9 c =
    let a = c.args in
    let d = c.load in
    few-classes a.file.now a.sort a.value d.result _ _ _ _ _ _ _ _ _ _ d.ensures _ _ _ _
    (c.in_ok-loaded.was ∙ ap Ok c.in-Class.is)

pub choose_class-requires-clause-table : goal.choose_class-requires-clause-table
choose_class-requires-clause-table c =
    let a = c.args in
    let d = c.load in
    let is = c.in_ok-loaded.was ∙ ap Ok c.in-Class.is in
    let few = few-classes a.file.now a.sort a.value d.result _ _ _ _ _ _ _ _ _ _ d.ensures _ _ _ _ is in
    rw (length-take-le c.in-Class.laid.classes a.ranks.now (omega (arith, few)))
    (laid-table a.file.now a.sort a.value d.result _ _ _ _ _ _ _ _ _ _ d.ensures _ _ _ _ is)

pub returns-in_err-choice-in-Class : goal.returns-in_err-choice-in-Class
returns-in_err-choice-in-Class c st formed =
    let a = c.args in
    let d = c.load in
    let x = c.choose_class in
    let w = c.in-Class.laid.classes in
    let is = c.in_ok-loaded.was ∙ ap Ok c.in-Class.is in
    let few = few-classes a.file.now a.sort a.value d.result _ _ _ _ _ _ _ _ _ _ d.ensures _ _ _ _ is in
    let n = length-take-le w a.ranks.now (omega (arith, few)) in
    let m = length-take-le w a.edges.now (omega (arith, few)) in
    let q = c.from_residual-in_err-choice-in-Class in
    let p = err_from_is_err_and q.result q.ensures.1 in
    rw (p.1, p.2)
    (chosen-refused-class a.file.now a.sort a.value d.result _ _ _ _ _ _ _ _ _ _ d.ensures a.most _ _ _ _ _ st
    _ _ _ _ is x.result _ _ (front w x.new.edges _ (omega (arith, x.auto.edges, m)))
    (front w x.new.ranks _ (omega (arith, x.auto.ranks, n))) _ formed
    (rw n at x.ensures) _ c.in_err-choice-in-Class.was)

pub returns-in_ok-choice-in-Class : goal.returns-in_ok-choice-in-Class
returns-in_ok-choice-in-Class c st formed =
    let a = c.args in
    let d = c.load in
    let x = c.choose_class in
    let w = c.in-Class.laid.classes in
    let is = c.in_ok-loaded.was ∙ ap Ok c.in-Class.is in
    let few = few-classes a.file.now a.sort a.value d.result _ _ _ _ _ _ _ _ _ _ d.ensures _ _ _ _ is in
    let n = length-take-le w a.ranks.now (omega (arith, few)) in
    let m = length-take-le w a.edges.now (omega (arith, few)) in
    chosen-class a.file.now a.sort a.value d.result _ _ _ _ _ _ _ _ _ _ d.ensures a.most _ _ _ _ _ st
    _ _ _ _ is x.result _ _ (front w x.new.edges _ (omega (arith, x.auto.edges, m)))
    (front w x.new.ranks _ (omega (arith, x.auto.ranks, n))) _ formed
    (rw n at x.ensures) _ c.in_ok-choice-in-Class.was
