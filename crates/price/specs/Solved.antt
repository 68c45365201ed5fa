-- What is asked and what is left of the run over flat rows and its edges. Assumes nothing: definitions.
use Rattle.std.specs.Prelude.{◌≡◌, List, ℕ, ◌<◌, length, get_or}
use Rattle.choice_rules.specs.Run.{run}
use Rattle.choice_rules.specs.Edges.{edges_of}
use Rattle.price_passes.specs.declared.flat.Rows.{Rows}
use Rattle.price_passes.specs.Flat.{top, rows_of, Fresh, ran_to}

-- The lists that are filled, before: n costs and n ranks, all zero, and n edges.
pub record Blank (n : ℕ) (costs ranks edges : List ℕ) : Type 0 where
  pub fresh : Fresh costs ranks
  pub ranks_length : length ranks ≡ n
  pub edges_length : length edges ≡ n

-- And after: the run's costs, ranks and passes, and each class's edge.
pub record Solved (n passes last : ℕ) (outputs heads starts children costs ranks edges : List ℕ) : Type 0 where
  pub ran : ran_to costs ranks last passes ≡ run top (rows_of outputs heads starts children) n
  pub edges_are : edges ≡ edges_of top costs ranks (rows_of outputs heads starts children)

-- The same, of the rows that are read.
abbrev pub SolvedRows : ℕ → ℕ → ℕ → Rows → List ℕ → List ℕ → List ℕ → Type 0
SolvedRows n passes last r costs ranks edges =
    Solved n passes last r.outputs.now r.heads.now r.starts.now r.children.now costs ranks edges

-- A class whose term can be built: it has a cost, below the number at which costs saturate.
pub record Priced (costs ranks : List ℕ) (c : ℕ) : Type 0 where
  pub ranked : 0 < get_or ranks c 0
  pub below : get_or costs c 0 < top
