-- `row::own_row` meets its contract: the application is added. Assumes nothing.
use Rattle.variant_terms.proofs.row.own_row.Goals as goal

pub name_of-requires : goal.name_of-requires
name_of-requires c = record { long = c.requires.name.entry; short = c.requires.name.short }

pub intern_application-requires : goal.intern_application-requires
intern_application-requires c =
    let q = c.requires in
    record {
      sound = q.formed;
      named = rw c.name_of.ensures q.name.named;
      children_len_bound = q.few;
    }

pub returns-clause-gains : goal.returns-clause-gains
returns-clause-gains c = rw c.name_of.ensures at c.intern_application.ensures.gains
