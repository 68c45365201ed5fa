-- `program::write` meets its contract: the text, or the refusal's line. Assumes nothing.
use Rattle.std.proofs.Common.{ℕ, List, ◌++◌, drop, refl, sym, subst, ◌∙◌, arith}
use Rattle.std.proofs.Math.Seq.{length-take-le, length_front}
use Rattle.program_rules.specs.Lines.{refused_line}
use Rattle.program_rules.specs.Step.{Step}
use Rattle.program_rules.proofs.headlines.LineLaws.{digits-few, refused-length}
use Rattle.program.proofs.RespondLaws.{wrote-text, wrote-line}
use Rattle.program.proofs.write.Goals as goal

pub slice_bounds-answer-end-2 : goal.slice_bounds-answer-end-2
slice_bounds-answer-end-2 c = sym (length-take-le 16384 c.args.out.now c.requires)

pub put_refused-requires : goal.put_refused-requires
put_refused-requires c =
    let a = c.answer in
    omega (
      arith,
      c.requires,
      refused-length c.from.result,
      digits-few c.from.result (omega (arith, c.from.type_inv)),
      length_front c.args.out.now a.new.out 16384 a.auto.out,
    )

pub shape_of-out-in-Ok : goal.shape_of-out-in-Ok
shape_of-out-in-Ok c = length_front c.args.out.now c.answer.new.out 16384 c.answer.auto.out

pub returns-in-Ok : goal.returns-in-Ok
returns-in-Ok c = wrote-text c.args.input.now c.args.out.now 16384 refl c.requires c.in-Ok.n c.answer.new.out c.in-Ok.ensures

pub shape_of-out-in-Err : goal.shape_of-out-in-Err
shape_of-out-in-Err c = c.put_refused.auto.out ∙ length_front c.args.out.now c.answer.new.out 16384 c.answer.auto.out

pub returns-in-Err : goal.returns-in-Err
returns-in-Err c =
    let z : ℕ = c.put_refused.result in
    let o : List ℕ = c.put_refused.new.out in
    wrote-line c.args.input.now c.args.out.now 16384 refl c.requires c.in-Err.r c.answer.new.out c.in-Err.ensures z o
    (subst (λ (k : ℕ). Step (refused_line k) 0 z (c.answer.new.out ++ drop 16384 c.args.out.now) o) (c.from.ensures ∙ c.number.ensures)
    c.put_refused.ensures)
