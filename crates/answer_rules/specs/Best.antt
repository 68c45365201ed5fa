-- The best term of a root: document 01, 'Costs and choice' and 'Refusal numbers'. Assumes nothing: definitions.
use Rattle.std.specs.Prelude.{true, false, List, ℕ, eqb, Some, None}
use Rattle.refusal.specs.declared.Refusal.TheVariants.{BadRoot, NoTerm, TooDear, NoRoom, BadStore}
use Rattle.bits.specs.Got.{got, refused as fault}
use Rattle.term_rules.specs.Lent.{Store}
use Rattle.term_rules.specs.WellFormed.{well_formed}
use Rattle.term_rules.specs.Nodes.{literal}
use Rattle.term_rules.specs.Adding.{Adds, at, no_room, add}
use Rattle.choice_rules.specs.Answer.{Answer, no_term, too_dear, best}
use Rattle.build.specs.Whole.{Left, whole}
use Rattle.file_rules.specs.Table.{Table}
use Rattle.file_rules.specs.File.{table_at}
use Rattle.table_rules.specs.Rules.Classes.{sort_of, flat_class, is_root}
use Rattle.table_rules.specs.Rules.Terms.{literal_of}
use Rattle.table_rules.specs.Rules.Choosing.{Prices, answer_for, run_of, prices_for}
use Rattle.answer_rules.specs.Answers.{After, found, refused}
use Rattle.answer_rules.specs.Plan.{plan_for, order_for}

-- "costs, chosen terms ..; the answer carries the number of passes"
pub record BestTerm : Type 0 where
  pub cost : ℕ
  pub term : ℕ
  pub passes : ℕ

abbrev pub best_term : ℕ → ℕ → ℕ → BestTerm
best_term w i p = record { cost = w; term = i; passes = p }

-- A literal is added; "A base root costs 1", and one pass changes nothing.
unfoldable pub best_literal : Store → Adds → After BestTerm
best_literal s (at i s') = found (best_term 1 i 1) s'
best_literal s no_room = refused NoRoom s

-- What was built, with its cost and the passes.
unfoldable pub best_built : ℕ → ℕ → Store → Left → After BestTerm
best_built w p s l =
    elim l.answer [
      | Some i ↦ found (best_term w i p) l.store
      | None ↦ refused NoRoom s
    ]

-- "11, 12, 13": by what the prices say of the class; n is the number of passes.
unfoldable pub best_class : Table → Prices → ℕ → ℕ → Store → Answer → After BestTerm
best_class t p n c s no_term = refused NoTerm s
best_class t p n c s too_dear = refused TooDear s
best_class t p n c s (best w) = best_built w n s (whole (plan_for t p) (order_for p c) s c)

-- Of an accepted table, a root and a well-formed store: a base root is a literal, an eq root a class at the run's
-- prices.
unfoldable pub best_of : Table → ℕ → ℕ → Store → After BestTerm
best_of t root v s =
    elim (eqb (sort_of t root).kind 0) [
      | true ↦ best_literal s (add s (literal (literal_of t v)))
      | false ↦
          best_class t (prices_for t root) (run_of t root).passes (flat_class t root v) s
          (answer_for (prices_for t root) (flat_class t root v))
    ]

-- "Best and variants: file, 10, 17, 11, 12, 13."
unfoldable pub best_at : List ℕ → ℕ → ℕ → Store → After BestTerm
best_at file root v s =
    elim (table_at file) [
      | fault r ↦ refused r s
      | got t p ↦ elim (is_root t root v) [
        | false ↦ refused BadRoot s
        | true ↦ elim (well_formed s) [ false ↦ refused BadStore s | true ↦ best_of t root v s ]
      ]
    ]
