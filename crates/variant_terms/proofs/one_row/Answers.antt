-- `variant_terms::one_row` meets its contract: the row is the one that its number names. Assumes nothing.
use Rattle.variant_terms.proofs.one_row.Goals as goal

pub function_of-f-requires : goal.function_of-f-requires
function_of-f-requires c = c.requires.listed.whole

pub children_of-kids-requires : goal.children_of-kids-requires
children_of-kids-requires c =
    let p = c.requires.listed in
    record {
      has_row = p.whole;
      i_bound = p.few;
    }

pub row_term-requires : goal.row_term-requires
row_term-requires c =
    let p = c.requires in
    record {
      rank = p.rank;
      builder = p.builder;
      row = rw (
        c.function_of-f.ensures,
        c.children_of-kids.ensures,
      ) p.listed.is;
    }

pub returns-clause-made : goal.returns-clause-made
returns-clause-made c =
    rw (
      c.function_of-f.ensures,
      c.children_of-kids.ensures,
    ) at c.row_term.ensures.made
