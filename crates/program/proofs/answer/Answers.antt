-- `program::answer` meets its contract: the query's fault, or what its call answers. Assumes nothing.
use Rattle.std.proofs.Common.{◌-◌, length, take, drop}
use Rattle.std.proofs.lemmas.Result.{err_from_is_err_and}
use Rattle.program.proofs.AnswerLaws.{query-refused, file-is, query-replied}
use Rattle.program.proofs.answer.Goals as goal

pub slice_bounds-by_mode-count : goal.slice_bounds-by_mode-count
slice_bounds-by_mode-count c = (file-is c.args.input.now c.args.out.now _ _ _ _ c.in_ok-query.ensures).0

pub slice_bounds-by_mode-start : goal.slice_bounds-by_mode-start
slice_bounds-by_mode-start c = (file-is c.args.input.now c.args.out.now _ _ _ _ c.in_ok-query.ensures).0

pub returns-in_err-query : goal.returns-in_err-query
returns-in_err-query c =
    let p = err_from_is_err_and c.from_residual.result c.from_residual.ensures.1 in
    rw (p.1, p.2) (query-refused c.args.input.now c.args.out.now _ c.in_err-query.ensures)

pub returns : goal.returns
returns c =
    query-replied c.args.input.now c.args.out.now _ _ _ _ c.in_ok-query.ensures c.by_mode.result c.by_mode.new.out
    (take (length c.args.input.now - 3) (drop 3 c.args.input.now))
    (file-is c.args.input.now c.args.out.now _ _ _ _ c.in_ok-query.ensures).1 c.by_mode.ensures
