-- `headlines::put_line` meets its contract: the word, then the numbers. Assumes nothing.
use Rattle.std.proofs.Common.{◌≡◌, ◌≤◌, ◌<◌, ◌+◌, ℕ, List, ◌++◌, length, take, get_or, length-append, sym, subst, arith}
use Rattle.std.proofs.Math.Seq.{take_all}
use mathlib.Core.List.{append-nil}
use Rattle.program_rules.specs.Lines.{number_text, spaced, line_text}
use Rattle.program_rules.specs.Step.{Step}
use Rattle.program_rules.proofs.headlines.StepLaws.{step_then}
use Rattle.program_rules.proofs.headlines.LineLaws.{number-length, spaced-longer, spaced-front, front-more, line-long}
use Rattle.program_rules.proofs.headlines.put_line.Goals as goal

pub put_word-e-requires : goal.put_word-e-requires
put_word-e-requires c = omega (arith, line-long c.args.word.now c.args.numbers.now c.args.last)

pub loop-x-init : goal.loop-x-init
unfolding spaced
loop-x-init c =
    subst (λ (w : List ℕ). Step w c.args.p c.put_word-e.result c.args.out.now c.put_word-e.new.out)
    (sym (append-nil c.args.word.now)) c.put_word-e.ensures

pub put_number-e-requires : goal.put_number-e-requires
put_number-e-requires c =
    let xs : List ℕ = c.args.numbers.now in
    let i : ℕ = c.loop-x.x-index in
    omega (
      arith,
      line-long c.args.word.now xs c.args.last,
      spaced-front xs (i + 1),
      spaced-longer xs i c.loop-x-test.true,
      number-length (get_or xs i 0) 32,
      length-append c.args.word.now (spaced (take i xs)),
    )

pub loop-x-preserved : goal.loop-x-preserved
loop-x-preserved c =
    let xs : List ℕ = c.args.numbers.now in
    let i : ℕ = c.loop-x.x-index in
    let w : List ℕ = c.args.word.now in
    subst (λ (t : List ℕ). Step t c.args.p c.put_number-e.result c.args.out.now c.put_number-e.new.out)
    (sym (front-more w xs i c.loop-x-test.true))
    (step_then c.args.out.now (w ++ spaced (take i xs)) c.loop-x.out (number_text (get_or xs i 0) 32)
    c.put_number-e.new.out c.args.p c.loop-x.e c.put_number-e.result c.loop-x.invariant c.put_number-e.ensures
    (omega (
      arith,
      line-long w xs c.args.last,
      spaced-front xs i,
      length-append w (spaced (take i xs)),
    )))

pub put_number-requires : goal.put_number-requires
put_number-requires c =
    let xs : List ℕ = c.args.numbers.now in
    let i : ℕ = c.loop-x.x-index in
    omega (
      arith,
      line-long c.args.word.now xs c.args.last,
      spaced-front xs i,
      number-length c.args.last 10,
      length-append c.args.word.now (spaced (take i xs)),
    )

pub returns : goal.returns
unfolding line_text
returns c =
    let xs : List ℕ = c.args.numbers.now in
    let w : List ℕ = c.args.word.now in
    let all : take c.loop-x.x-index xs ≡ xs = take_all c.loop-x.x-index xs c.loop-x-test.false in
    step_then c.args.out.now (w ++ spaced xs) c.loop-x.out (number_text c.args.last 10) c.put_number.new.out c.args.p
    c.loop-x.e c.put_number.result
    (subst (λ (ys : List ℕ). Step (w ++ spaced ys) c.args.p c.loop-x.e c.args.out.now c.loop-x.out) all
    c.loop-x.invariant)
    c.put_number.ensures
    (omega (arith, c.requires, line-long w xs c.args.last, length-append w (spaced xs)))
