-- `needlevale_answer` meets its contract: a text's length, or the refusal's number below zero. Assumes nothing.
use Rattle.std.proofs.Common.{◌∙◌, ◌≤◌, length, arith, Ok, Err}
use mir.Syntax.{w64}
use mir.ValLaws.{to_z-of_z, to_z_pos}
use borrow.Author.Rules.{sfits_of}
use Rattle.needlevale_c.proofs.CodedLaws.{written-within, replies}
use Rattle.needlevale_c.proofs.needlevale_answer.Goals as goal

pub overflow_cast-result : goal.overflow_cast-result
overflow_cast-result c =
    let g = c.args in
    let l : c.in-Ok.n ≤ length c.answer.new.out =
    written-within g.input.now g.output.now c.answer.new.out c.in-Ok.n c.in-Ok.ensures in
    sfits_of (omega arith)

pub returns-in-Ok : goal.returns-in-Ok
returns-in-Ok c =
    let g = c.args in
    let l : c.in-Ok.n ≤ length c.answer.new.out =
    written-within g.input.now g.output.now c.answer.new.out c.in-Ok.n c.in-Ok.ensures in
    replies g.input.now g.output.now c.answer.new.out (Ok c.in-Ok.n) _ c.in-Ok.ensures (to_z_pos w64 c.in-Ok.n (omega arith))

pub returns-in-Err : goal.returns-in-Err
returns-in-Err c =
    let g = c.args in
    replies g.input.now g.output.now c.answer.new.out (Err c.in-Err.r) _ c.in-Err.ensures
    (to_z-of_z w64 c.below_zero.result (record { sfits = c.below_zero.type_inv }) ∙ c.below_zero.ensures)
