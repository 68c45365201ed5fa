-- Demand 3 holds of what best is defined to answer, at any true prices. Assumes nothing.
use mathlib.Core.Path.{◌≡◌, refl, sym, subst}
use mathlib.Core.Bool.{true}
use Prim.Native.Nat.{ℕ, ◌<◌}
use borrow.Author.Tests.{ne_eqb}
use lib.ListN.{length}
use Rattle.term_rules.specs.Lent.{Store}
use Rattle.term_rules.specs.WellFormed.{well_formed}
use Rattle.term_rules.specs.Nodes.{Tree as Term}
use Rattle.choice_rules.specs.Rows.{class}
use Rattle.choice_rules.specs.Answer.{Answer, no_term, too_dear, best}
use Rattle.choice_rules.specs.Demand.Deriving.{Answered}
use Rattle.build.specs.Plan.{class as plan_class, ChildTree}
use Rattle.std.specs.Prelude.{Option, Some, None}
use Rattle.build.specs.Whole.{Left, whole, Tells}
use Rattle.build.proofs.whole.WholeLaws.{whole_tells}
use Rattle.file_rules.specs.Table.{Table}
use Rattle.table_rules.specs.Rules.Classes.{sort_of, flat_class}
use Rattle.table_rules.specs.Rules.Rows.{table_rows, usable}
use Rattle.table_rules.specs.Rules.Terms.{term_of}
use Rattle.table_rules.specs.Rules.Choosing.{limit, Prices, answer_for, run_of, prices_for}
use Rattle.table_rules.specs.Rules.Prices.{Priced, TruePrices}
use Rattle.table_rules.specs.Rules.Facts.{Known}
use Rattle.table_rules.proofs.Rules.CoverLaws.{ReachedClass, root-class}
use Rattle.table_rules.proofs.Rules.AnswerLaws.{priced-of-answer, ChosenTree, chosen-tree, run-true}
use Rattle.answer_rules.specs.Best.{best_built, best_class, best_of}
use Rattle.answer_rules.specs.Plan.{plan_for, plan_child, order_for}
use Rattle.answer_rules.specs.Demand.{Choice, BestOutcome, Kept}
use Rattle.answer_rules.proofs.TermLaws.{chosen-term}
use Rattle.answer_rules.proofs.Room.WholeLaws.{RoomBuilt, whole_room}
use Rattle.answer_rules.proofs.PlanLaws.{build_rank, build_rank-below, plan-ranked}

module _ (t : Table) (k : Known t) (In : ℕ → Type 0) (p : Prices) (tp : TruePrices t In p) (s : Store)
    (f : well_formed s ≡ true) where
  module _ (c w : ℕ) (r : In c) (e : answer_for p c ≡ best w) where
    tree : ChosenTree t p c w
    tree = chosen-tree t In p tp c w r e

    choice : Choice t p c
    choice = record {
      tree = tree.tree;
      chosen = tree.chosen;
      cost = w;
      cheapest = tree.cheapest;
      once = tree.once;
      below = tree.below;
    }

    term : Term
    term = term_of t tree.tree

    -- the chosen tree is the tree of the class
    of-plan : ChildTree (plan_for t p) (plan_class c) term
    unfolding plan_child term
    of-plan = chosen-term t p tree.tree (class c) tree.chosen

    priced : Priced p c
    priced = priced-of-answer p c w e

    rank_is : build_rank p c ≡ order_for p c
    rank_is = build_rank-below p c priced.below

    ranked : 0 < build_rank p c
    ranked = subst (λ (n : ℕ). 0 < n) (sym rank_is) priced.ranked

    -- what is told of the built term, and of the room for it
    abbrev Told : Left → Type 0
    Told l =
        Tells (plan_for t p) s c l.answer l.store × RoomBuilt s term l.answer l.store

    told : Told (whole (plan_for t p) (order_for p c) s c)
    told =
        subst (λ (n : ℕ). Told (whole (plan_for t p) n s c)) rank_is (
          whole_tells (plan_for t p) (build_rank p) (plan-ranked t k In p tp) s c f ranked,
          whole_room (plan_for t p) (build_rank p) (plan-ranked t k In p tp) s c f ranked term of-plan,
        )

    built :
        (n : ℕ) (l : Left) → Told l → BestOutcome t p c s (best_built w n s l).store (best_built w n s l).answer
    unfolding best_built term choice
    built n l = go l.answer l.store
      where
        go :
            (a : Option ℕ) (s' : Store) →
            Told (record { answer = a; store = s' }) →
            BestOutcome t p c s
            (best_built w n s (record { answer = a; store = s' })).store
            (best_built w n s (record { answer = a; store = s' })).answer
        go (Some b) s' d = record {
          choice = choice;
          cost = refl;
          below = d.1.1;
          means = d.1.2;
          fits = d.1.0;
          grows = d.0.grows;
        }
        go None s' d = record { number = refl; unchanged = refl; choice = choice; none = d.1 }

    best-comes-back : (n : ℕ) → Kept t p c s (best_class t p n c s (best w)) (best w)
    unfolding best_class
    best-comes-back n = built n (whole (plan_for t p) (order_for p c) s c) told

  -- of a class that is priced, by its verdict
  pub best-kept : (n c : ℕ) → In c → Kept t p c s (best_class t p n c s (answer_for p c)) (answer_for p c)
  unfolding best_class
  best-kept n c r = go (answer_for p c) refl
    where
      go : (a : Answer) → answer_for p c ≡ a → Kept t p c s (best_class t p n c s a) a
      go no_term e = refl
      go too_dear e = refl
      go (best w) e = best-comes-back c w r e n

-- "For any accepted table file, well-formed store and, as root, class of a constructor sort": the verdict is demand
-- 3's, and best answers by it.
module _ (t : Table) (k : Known t) (root : ℕ) (h : root < length t.sorts) (s : Store)
    (f : well_formed s ≡ true) where
  pub record DemandThree (v : ℕ) : Type 0 where
    pub verdict : Answer
    pub is_right : Answered limit (table_rows t) (usable t) (flat_class t root v) verdict
    pub kept : Kept t (prices_for t root) (flat_class t root v) s (best_of t root v s) verdict

  pub demand_three : (v : ℕ) → ((sort_of t root).kind ≡ 0 → ⊥) → v < (sort_of t root).classes → DemandThree v
  unfolding best_of
  demand_three v n l =
      let c : ℕ = flat_class t root v in
      let r : ReachedClass t root c = root-class t k root h v l in
      record {
        verdict = answer_for (prices_for t root) c;
        is_right = (run-true t k root h).right c r;
        kept =
            rw (ne_eqb (sort_of t root).kind 0 n, best_of)
            (best-kept t k (ReachedClass t root) (prices_for t root) (run-true t k root h) s f (run_of t root).passes c r);
      }
