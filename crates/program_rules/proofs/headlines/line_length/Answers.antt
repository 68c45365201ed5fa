-- `headlines::line_length` meets its contract: each number has at most 20 digits. Assumes nothing.
use Rattle.std.proofs.Common.{◌≡◌, ◌≤◌, ℕ, length, take, get_or, refl, ap, arith}
use Rattle.std.proofs.Math.Seq.{take_all}
use Rattle.decimal.specs.Decimal.{digits}
use Rattle.program_rules.specs.Lines.{spaced}
use Rattle.program_rules.proofs.headlines.LineLaws.{digits-few, spaced-longer, line-long}
use Rattle.program_rules.proofs.headlines.line_length.Goals as goal

pub loop-x-init : goal.loop-x-init
unfolding spaced
loop-x-init c = record { measured = omega arith; small = omega arith }

pub overflow_add-n : goal.overflow_add-n
overflow_add-n c =
    let x : ℕ = get_or c.args.numbers.now c.loop-x.x-index 0 in
    let few : length (digits x) ≤ 20 = digits-few x (omega (arith, c.type_inv.numbers c.loop-x.x-index)) in
    omega arith

pub overflow_add-n-in-loop-x : goal.overflow_add-n-in-loop-x
overflow_add-n-in-loop-x c =
    let x : ℕ = get_or c.args.numbers.now c.loop-x.x-index 0 in
    let few : length (digits x) ≤ 20 = digits-few x (omega (arith, c.type_inv.numbers c.loop-x.x-index)) in
    omega arith

pub loop-x-preserved : goal.loop-x-preserved
loop-x-preserved c =
    let x : ℕ = get_or c.args.numbers.now c.loop-x.x-index 0 in
    let few : length (digits x) ≤ 20 = digits-few x (omega (arith, c.type_inv.numbers c.loop-x.x-index)) in
    record {
      measured = omega (arith, spaced-longer c.args.numbers.now c.loop-x.x-index c.loop-x-test.true);
      small = omega arith;
    }

pub overflow_add-result : goal.overflow_add-result
overflow_add-result c =
    let few : length (digits c.args.last) ≤ 20 = digits-few c.args.last (omega arith) in omega arith

pub overflow_add-result-2 : goal.overflow_add-result-2
overflow_add-result-2 c =
    let few : length (digits c.args.last) ≤ 20 = digits-few c.args.last (omega arith) in omega arith

pub returns : goal.returns
returns c =
    let all : length (spaced (take c.loop-x.x-index c.args.numbers.now)) ≡ length (spaced c.args.numbers.now) =
    ap (λ (xs : _). length (spaced xs)) (take_all c.loop-x.x-index c.args.numbers.now c.loop-x-test.false) in
    omega (arith, line-long c.args.word.now c.args.numbers.now c.args.last)
