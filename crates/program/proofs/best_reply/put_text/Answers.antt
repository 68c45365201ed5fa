-- `best_reply::put_text` meets its contract: by the one text or the other. Assumes nothing.
use Rattle.term_rules.specs.Lent.{Store}
use Rattle.text_whole.specs.Placed.{answer_of}
use Rattle.std.proofs.lemmas.Result.{err_from_is_err_and}
use Rattle.term_layout.specs.Sound.{store_of}
use Rattle.program.proofs.best_reply.PlacedLaws.{plain-case, let-case, no-prefix, hint-t}
use native.Mathlib.Omega.{arith}
use Rattle.program.proofs.best_reply.put_text.Goals.{Start}
use Rattle.program.proofs.best_reply.put_text.Goals as goal

abbrev lent : Start → Store
lent s =
    store_of s.args.store.now

pub returns-then-plain : goal.returns-then-plain
returns-then-plain c =
    plain-case (lent (goal.at.returns-then-plain c).Start) c.args.term c.args.out.now c.plain_of.new.out c.args.plain
    (answer_of c.plain_of.result) c.if-plain.true
    c.plain_of.ensures

pub let_of-requires : goal.let_of-requires
let_of-requires c =
    record {
      term_lt_terms = c.requires.term_lt_terms;
      prefix_value = (no-prefix, hint-t);
      start_bound = omega arith;
    }

pub returns : goal.returns
returns c =
    let-case (lent (goal.at.returns c).Start) c.args.term c.args.out.now c.let_of.new.out c.args.plain _
    c.if-plain.false c.in_ok-text.ensures

pub returns-in_err-text : goal.returns-in_err-text
returns-in_err-text c =
    let p = err_from_is_err_and c.from_residual.result c.from_residual.ensures.1 in
    rw (p.1, p.2)
    (let-case (lent (goal.at.returns-in_err-text c).Start) c.args.term c.args.out.now c.let_of.new.out c.args.plain _
    c.if-plain.false c.in_err-text.ensures)
