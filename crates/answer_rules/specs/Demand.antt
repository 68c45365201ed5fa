-- Demand 3 of document 00, of what best answers: in its own words, over the table and the returned store.
-- Assumes nothing: definitions.
use Rattle.std.specs.Prelude.{◌≡◌, [], ℕ, ◌<◌}
use Rattle.refusal.specs.declared.Refusal.TheVariants.{NoTerm, TooDear}
use Rattle.term_rules.specs.Lent.{Store}
use Rattle.term_rules.specs.Nodes.{Tree as Term, Means}
use Rattle.term_rules.specs.Growing.{Grows}
use Rattle.choice_rules.specs.Rows.{class}
use Rattle.choice_rules.specs.Deriving.{Tree, Once}
use Rattle.choice_rules.specs.Edges.{Chosen}
use Rattle.choice_rules.specs.Answer.{Answer as Verdict, no_term, too_dear, best}
use Rattle.choice_rules.specs.Demand.Deriving.{Cheapest}
use Rattle.file_rules.specs.Table.{Table}
use Rattle.table_rules.specs.Rules.Rows.{table_rows, usable}
use Rattle.table_rules.specs.Rules.Terms.{term_of}
use Rattle.table_rules.specs.Rules.Choosing.{limit, Prices}
use Rattle.answer_rules.specs.Answers.{Answer, value, refusal, After, refused}
use Rattle.answer_rules.specs.Best.{BestTerm}
use Rattle.answer_rules.specs.Room.{Fits, NoRoomFor}

-- The tree that a class is to have: the one that the prices' rows choose, down to its literals. It is a deriving one
-- below 2^64-1, "none is cheaper; and down its chosen rows no class is met twice on a path".
pub record Choice (t : Table) (p : Prices) (c : ℕ) : Type 0 where
  pub tree : Tree
  pub chosen : Chosen (table_rows t) p.row tree (class c)
  pub cost : ℕ
  pub cheapest : Cheapest (table_rows t) (usable t) c cost tree
  pub once : Once (table_rows t) [] tree
  pub below : cost < limit

-- Its term.
abbrev pub chosen_term : (t : Table) (p : Prices) (c : ℕ) → Choice t p c → Term
chosen_term t p c x = term_of t x.tree

-- "a deriving term comes back; its exact cost is the number reported; none is cheaper; and down its chosen rows no
-- class is met twice on a path": the number names the chosen term in the returned store, which is one that the lent
-- one may become. What was there before is still there.
pub record ComesBack (t : Table) (p : Prices) (c : ℕ) (s : Store) (b : BestTerm) (s' : Store) : Type 0 where
  pub choice : Choice t p c
  pub cost : b.cost ≡ choice.cost
  pub below : b.term < s'.terms
  pub means : Means s' b.term (chosen_term t p c choice)
  pub fits : Fits s s'
  pub grows : Grows s s'

-- "given room in the store": else it is NoRoom, no store of that room holds the chosen term, and nothing lent is
-- changed.
pub record HasNoRoom (t : Table) (p : Prices) (c : ℕ) (s : Store) (k : ℕ) (s' : Store) : Type 0 where
  pub number : k ≡ 13
  pub unchanged : s' ≡ s
  pub choice : Choice t p c
  pub none : NoRoomFor s (chosen_term t p c choice)

abbrev pub BestOutcome : Table → Prices → ℕ → Store → Store → Answer BestTerm → Type 0
BestOutcome t p c s s' (value b) = ComesBack t p c s b s'
BestOutcome t p c s s' (refusal k) = HasNoRoom t p c s k s'

-- What best answers for a class whose verdict is known.
abbrev pub Kept : Table → Prices → ℕ → Store → After BestTerm → Verdict → Type 0
Kept t p c s a no_term = a ≡ refused NoTerm s
Kept t p c s a too_dear = a ≡ refused TooDear s
Kept t p c s a (best w) = BestOutcome t p c s a.store a.answer
