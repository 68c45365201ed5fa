-- The term that is built for a kept row is its variant: it derives the class at just the cost told. Assumes nothing.
use mathlib.Core.Path.{◌≡◌, refl, ap, sym, subst, ◌∙◌}
use mathlib.Core.Bool.{true}
use mathlib.Core.List.{List, [], ◌∷◌}
use Prim.Native.Nat.{ℕ, ◌+◌, ◌<◌, min}
use native.Mathlib.Omega.{arith}
use lib.ListN.{length}
use Rattle.term_rules.specs.Lent.{Store}
use Rattle.term_rules.specs.Nodes.{Trees as Terms, applied, Means}
use Rattle.choice_rules.specs.Rows.{Child, literal, class, row_at, sum_of}
use Rattle.choice_rules.specs.Deriving.{Tree, leaf, Forest, none, more, Derives, DeriveAll, tree_cost, forest_cost}
use Rattle.choice_rules.specs.Edges.{Chosen, ChosenAll}
use Rattle.choice_rules.specs.Run.{child_cost, priced}
use Rattle.choice_rules.proofs.ListLaws.{Each, each-of-sum}
use Rattle.choice_rules.specs.Demand.Deriving.{AllUsable, AllUsableIn}
use Rattle.build.specs.Plan.{TreesOf}
use Rattle.build.proofs.StandingLaws.{trees_of-unique}
use Rattle.file_rules.specs.Table.{Table}
use Rattle.table_rules.specs.Rules.Rows.{table_rows, usable}
use Rattle.table_rules.specs.Rules.Terms.{name_of, term_of, terms_of}
use Rattle.table_rules.specs.Rules.Choosing.{limit, Prices}
use Rattle.table_rules.specs.Rules.Prices.{TruePrices}
use Rattle.table_rules.specs.Rules.Facts.{Known}
use Rattle.table_rules.proofs.Rules.AnswerLaws.{ChosenTree, chosen-tree}
use Rattle.answer_rules.specs.Plan.{plan_children, plan_for, cost_of}
use Rattle.answer_rules.specs.Variants.{file_row, cost_for, is_variant, rows_for}
use Rattle.answer_rules.proofs.TermLaws.{chosen-terms}
use Rattle.extract.specs.First.{BestChild, BestChildren, Variant}
use Rattle.extract.proofs.VariantFacts.RowLaws.{below-min}
use Rattle.extract.proofs.VariantFacts.TermLaws.{BuiltTerm}
use Rattle.extract.proofs.VariantFacts.GrownLaws.{
  answer-best,
  Near,
  row_below,
  row-usable,
  row_output,
  row-priced,
  row-near-all,
  row-cost-is,
  row-cost,
}

module _ (t : Table) (known : Known t) (In : ℕ → Type 0) (ps : Prices) (tp : TruePrices t In ps) where
  -- the tree that the edges' rows choose for a child
  pub record ChosenChild (k : Child) : Type 0 where
    pub tree : Tree
    pub chosen : Chosen (table_rows t) ps.row tree k
    pub derives : Derives (table_rows t) tree k
    pub all_usable : AllUsable (usable t) tree
    pub cost : tree_cost (table_rows t) tree ≡ child_cost ps.costs k
    pub is-best : BestChild t tree k

  pub record ChosenChildren (ks : List Child) : Type 0 where
    pub forest : Forest
    pub chosen : ChosenAll (table_rows t) ps.row forest ks
    pub derives : DeriveAll (table_rows t) forest ks
    pub all_usable : AllUsableIn (usable t) forest
    pub cost : forest_cost (table_rows t) forest ≡ sum_of (child_cost ps.costs) ks
    pub are-best : BestChildren t forest ks

  child-chosen :
      (k : Child) →
      Near t known In ps tp k →
      priced ps.orders k ≡ true →
      child_cost ps.costs k < limit →
      ChosenChild k
  unfolding Chosen Derives AllUsable tree_cost priced child_cost
  child-chosen (literal i) n p l =
      record { tree = leaf i; chosen = refl; derives = refl; all_usable = tt; cost = refl; is-best = refl }
  child-chosen (class d) n p l =
      let q : ChosenTree t ps d (cost_of ps d) =
      chosen-tree t In ps tp d (cost_of ps d) (n d refl) (answer-best t ps d p l) in
      record {
        tree = q.tree;
        chosen = q.chosen;
        derives = q.cheapest.is_deriving.derives;
        all_usable = q.cheapest.is_deriving.all_usable;
        cost = q.cheapest.exact;
        is-best = (cost_of ps d, q.cheapest, q.once);
      }

  children-chosen :
      (ks : List Child) →
      Each (Near t known In ps tp) ks →
      Each (λ (k : Child). priced ps.orders k ≡ true) ks →
      Each (λ (k : Child). child_cost ps.costs k < limit) ks →
      ChosenChildren ks
  unfolding ChosenAll DeriveAll AllUsableIn forest_cost sum_of
  children-chosen [] n p l =
      record { forest = none; chosen = tt; derives = tt; all_usable = tt; cost = refl; are-best = tt }
  children-chosen (k ∷ ks) n p l =
      let a = child-chosen k n.0 p.0 l.0 in
      let b = children-chosen ks n.1 p.1 l.1 in
      record {
        forest = more a.tree b.forest;
        chosen = (a.chosen, b.chosen);
        derives = (a.derives, b.derives);
        all_usable = (a.all_usable, b.all_usable);
        cost = rw (a.cost, b.cost) refl;
        are-best = (a.is-best, b.are-best);
      }

  -- row i of the scan order, of class c, with a cost below 2^64-1
  module _ (c : ℕ) (r : In c) (i : ℕ) (place : i < length (rows_for t ps))
      (v : is_variant t ps c i ≡ true) (cheap : cost_for t ps i < limit) where
    abbrev own : ℕ
    own = file_row ps i

    abbrev kids : List Child
    kids = (row_at (table_rows t) (file_row ps i)).children

    abbrev sum : ℕ
    sum = sum_of (child_cost ps.costs) kids

    saturates-not : min limit ((row_at (table_rows t) own).head + sum) < limit
    saturates-not = subst (λ (x : ℕ). x < limit) (row-cost-is t known In ps tp c r i place v) cheap

    pub kids-chosen : ChosenChildren kids
    kids-chosen =
        children-chosen kids (row-near-all t known In ps tp c r i place v) (row-priced t known In ps tp c r i place v)
        (each-of-sum (child_cost ps.costs) limit kids
        (below-min limit (row_at (table_rows t) own).head sum saturates-not))

    kids-terms : TreesOf (plan_for t ps) (plan_children t own) (terms_of t kids-chosen.forest)
    unfolding plan_children
    kids-terms = chosen-terms t ps kids-chosen.forest kids kids-chosen.chosen

    pub variant_is : (s : Store) (u : ℕ) → BuiltTerm t ps s i u → Variant t ps c own (cost_for t ps i) s u
    unfolding Derives AllUsable tree_cost term_of
    variant_is s u q =
        let q' = kids-chosen in
        record {
          children = q'.forest;
          chosen = q'.chosen;
          is_deriving = record {
            derives = (
              row_below t known In ps tp c r i place v,
              row_output t known In ps tp c r i place v,
              q'.derives,
            );
            all_usable = (row-usable t known In ps tp c r i place v, q'.all_usable);
          };
          exact =
              ap (λ (x : ℕ). (row_at (table_rows t) own).head + x) q'.cost
              ∙ unsaturated ((row_at (table_rows t) own).head + sum) saturates-not
              ∙ sym (row-cost-is t known In ps tp c r i place v);
          least = (row-cost t known In ps tp c r i place v).least;
          best_children = q'.are-best;
          below = q.below;
          means =
              subst (λ (x : Terms). Means s u (applied (name_of t own) x))
              (trees_of-unique q.of kids-terms)
              q.means;
        }
      where
        unsaturated : (x : ℕ) → min limit x < limit → x ≡ min limit x
        unsaturated x l = omega arith
