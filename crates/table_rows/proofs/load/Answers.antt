-- `table_rows::load` meets its contract: the file is read, then the root opened. Assumes nothing.
use Rattle.std.proofs.lemmas.Result.{err_from_is_err_and}
use Rattle.file_rules.specs.File.{table_at}
use Rattle.table_rows.proofs.LoadLaws.{read_of, accepted-of, stands-with, loads-of-opened, loads-of-refused}
use Rattle.table_rows.proofs.load.Goals as goal

pub open-requires : goal.open-requires
open-requires c =
    let f = c.args.file.now in
    let w = c.read_into in
    let q = read_of (table_at f) w.ensures c.in_ok-counts.was in
    let ok = accepted-of f q.is in
    record {
      some = record {
        table = q.table;
        is = stands-with ok q.held q.sorts_are q.literals_are q.functions_are q.rows_are;
      };
      space = c.requires.space;
    }

pub returns-in_err-counts : goal.returns-in_err-counts
returns-in_err-counts c =
    let f = c.args.file.now in
    let p = err_from_is_err_and c.from_residual.result c.from_residual.ensures.1 in
    rw (p.1, p.2) (loads-of-refused (table_at f) _ _ _ _ _ _ _ _ _ _ _ _ c.read_into.ensures c.in_err-counts.was)

pub returns : goal.returns
returns c =
    let f = c.args.file.now in
    let q = read_of (table_at f) c.read_into.ensures c.in_ok-counts.was in
    let ok = accepted-of f q.is in
    let o = c.open in
    let v = o.ensures q.table (stands-with ok q.held q.sorts_are q.literals_are q.functions_are q.rows_are) in
    loads-of-opened ok q.held _ _ o.result _ _ _ _ _ v (table_at f) q.place q.is _ c.ok_or.ensures.value
