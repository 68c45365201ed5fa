-- `table_roots::answer_rows` meets its contract: the literal's answer, or what the kept rows answer. Assumes nothing.
use mathlib.Core.Path.{ap, sym, ◌∙◌}
use lib.Seq.{length-take-le}
use Rattle.std.specs.Prelude.{Ok}
use Rattle.std.proofs.lemmas.Result.{err_from_is_err_and}
use Rattle.table_roots.proofs.ChosenLaws.{told-literal, told-class}
use native.Mathlib.Omega.{arith}
use Rattle.table_roots.proofs.answer_rows.Goals as goal

pub of_literal-requires : goal.of_literal-requires
of_literal-requires c = (told-literal _ _ _ _ _ _ _ _ _ _ c.requires.is _ (ap Ok c.in-Literal.is)).0

pub returns-in_err-counted-in-Literal-clause-variants : goal.returns-in_err-counted-in-Literal-clause-variants
returns-in_err-counted-in-Literal-clause-variants c told h =
    let q = c.from_residual in
    let p = err_from_is_err_and q.result q.ensures.1 in
    rw (p.1, p.2)
    ((rw c.in_err-counted-in-Literal.was at c.of_literal.ensures)
    ∙ (told-literal _ _ _ _ _ _ _ _ _ told h _ (ap Ok c.in-Literal.is)).1 c.args.costs.now c.args.found.now)

pub returns-in_ok-counted-in-Literal-clause-variants : goal.returns-in_ok-counted-in-Literal-clause-variants
returns-in_ok-counted-in-Literal-clause-variants c told h =
    (rw c.in_ok-counted-in-Literal.was at c.of_literal.ensures)
    ∙ (told-literal _ _ _ _ _ _ _ _ _ told h _ (ap Ok c.in-Literal.is)).1 c.args.costs.now c.args.found.now

pub shared_ref_as_front-answer : goal.shared_ref_as_front-answer
shared_ref_as_front-answer c = (told-class _ _ _ _ _ _ _ _ _ _ c.requires.is _ _ (ap Ok c.in-Class.is)).0

pub slice_bounds-answer-end-in-Class : goal.slice_bounds-answer-end-in-Class
slice_bounds-answer-end-in-Class c =
    let few = (told-class _ _ _ _ _ _ _ _ _ _ c.requires.is _ _ (ap Ok c.in-Class.is)).0 in
    sym (length-take-le c.in-Class.classes c.args.edges.now (omega (arith, few)))

pub shared_ref_as_front-answer-in-Class-2 : goal.shared_ref_as_front-answer-in-Class-2
shared_ref_as_front-answer-in-Class-2 c =
    let p = (told-class _ _ _ _ _ _ _ _ _ _ c.requires.is _ _ (ap Ok c.in-Class.is)).1 in
    omega (arith, p.room)

pub slice_bounds-answer-end-in-Class-4 : goal.slice_bounds-answer-end-in-Class-4
slice_bounds-answer-end-in-Class-4 c =
    let few = (told-class _ _ _ _ _ _ _ _ _ _ c.requires.is _ _ (ap Ok c.in-Class.is)).0 in
    sym (length-take-le c.in-Class.classes c.args.ranks.now (omega (arith, few)))

pub slice_bounds-answer-end-in-Class-6 : goal.slice_bounds-answer-end-in-Class-6
slice_bounds-answer-end-in-Class-6 c =
    let p = (told-class _ _ _ _ _ _ _ _ _ _ c.requires.is _ _ (ap Ok c.in-Class.is)).1 in
    sym (length-take-le c.in-Class.choice.count c.args.list.now p.room)

pub answer-requires : goal.answer-requires
answer-requires c =
    let p = (told-class _ _ _ _ _ _ _ _ _ _ c.requires.is _ _ (ap Ok c.in-Class.is)).1 in
    p.ready

pub returns-in-Class-clause-variants : goal.returns-in-Class-clause-variants
returns-in-Class-clause-variants c told h =
    (told-class _ _ _ _ _ _ _ _ _ told h _ _ (ap Ok c.in-Class.is)).1.answers c.args.costs.now c.args.found.now _
    c.answer.ensures.variants
