-- `price::solve_rows` meets its contract. Two calls, one after the other. Assumes nothing.
use mathlib.Core.Path.{sym, ◌∙◌}
use Rattle.price.proofs.solve_rows.Goals as goal

pub fill-requires : goal.fill-requires
fill-requires c =
    record {
      edges_len = c.requires.blank.edges_length ∙ sym c.repeat-run.auto.ranks;
      costs_len = c.repeat-run.auto.costs ∙ c.requires.blank.fresh.long ∙ sym c.repeat-run.auto.ranks;
      flat_ok = rw c.repeat-run.auto.ranks c.requires.flat_ok;
    }

pub returns : goal.returns
returns c =
    record {
      ran = c.repeat-run.ensures;
      edges_are = c.fill.ensures;
    }
