-- `prepare::root_of` meets its contract. Assumes nothing.
use native.Mathlib.Omega.{arith}
use Rattle.table_rows.proofs.prepare.RootLaws.{sorts_few, kinds_long, classes-long, count-few, root-when-no-sort, root-when-no-literal, root-when-literal, root-when-no-class, class-small, root-when-class}
use Rattle.table_rows.proofs.prepare.root_of.Goals as goal

pub returns-then-counts-sort : goal.returns-then-counts-sort
returns-then-counts-sort c t h =
    let a = c.args in
    root-when-no-sort a.counts a.sorts.now t h a.sort a.value (omega arith)

pub bounds-sorts-s : goal.bounds-sorts-s
bounds-sorts-s c =
    let a = c.args in
    let p = c.requires in
    omega (arith, kinds_long a.counts a.sorts.now p.table p.is)

pub returns-then-counts-value : goal.returns-then-counts-value
returns-then-counts-value c t h =
    let a = c.args in
    root-when-no-literal a.counts a.sorts.now t h a.sort a.value
    (omega arith) (omega arith) (omega arith)

pub returns-then-sorts-s-eq0 : goal.returns-then-sorts-s-eq0
returns-then-sorts-s-eq0 c t h =
    let a = c.args in
    root-when-literal a.counts a.sorts.now t h a.sort a.value
    (omega arith) (omega arith) (omega arith)

pub bounds-sorts-s-2 : goal.bounds-sorts-s-2
bounds-sorts-s-2 c =
    let a = c.args in
    let p = c.requires in
    omega (arith, classes-long a.counts a.sorts.now p.table p.is)

pub returns-then-sorts-s : goal.returns-then-sorts-s
returns-then-sorts-s c t h =
    let a = c.args in
    root-when-no-class a.counts a.sorts.now t h a.sort a.value
    (omega arith) (λ z. omega arith) (omega arith)

pub number_sorts-requires : goal.number_sorts-requires
number_sorts-requires c =
    let a = c.args in
    let p = c.requires in
    let few = sorts_few a.counts a.sorts.now p.table p.is in
    record {
      sorts_in_bounds = (classes-long a.counts a.sorts.now p.table p.is, omega arith);
      sorts_bound = count-few a.counts a.sorts.now p.table p.is;
    }

pub overflow_add-result : goal.overflow_add-result
overflow_add-result c =
    let a = c.args in
    let p = c.requires in
    let n = c.number_sorts in
    let small = class-small a.counts a.sorts.now p.table p.is a.sort
    a.value (omega arith) (λ z. omega arith) (omega arith)
    n.new.bases n.ensures.bases in
    omega arith

pub returns : goal.returns
returns c t h =
    let a = c.args in
    let n = c.number_sorts in
    root-when-class a.counts a.sorts.now t h a.sort a.value
    (omega arith) (λ z. omega arith) (omega arith)
    n.new.bases n.ensures.bases
