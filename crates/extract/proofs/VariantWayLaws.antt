-- What variants answer of a class root and of a base root of an accepted file. Assumes nothing.
use mathlib.Core.Path.{◌≡◌}
use mathlib.Core.Bool.{true}
use mathlib.Core.List.{List}
use Prim.Native.Nat.{ℕ}
use borrow.Author.Tests.{eq-eqb, ne_eqb}
use Rattle.term_rules.specs.WellFormed.{well_formed}
use Rattle.file_rules.specs.Table.{Table}
use Rattle.table_rules.specs.Rules.Classes.{sort_of, flat_class}
use Rattle.table_rules.specs.Rules.Terms.{literal_of}
use Rattle.table_rules.specs.Rules.Facts.{Known}
use Rattle.table_rules.proofs.Rules.CoverLaws.{ReachedClass, root-class}
use Rattle.answer_rules.specs.Variants.{kept_rows, Lending, variants_at}
use Rattle.table_rules.specs.Rules.Choosing.{prices_for, run_of}
use Rattle.table_rules.specs.Rules.Prices.{TruePrices}
use Rattle.table_rules.proofs.Rules.AnswerLaws.{run-true}
use Rattle.extract.proofs.VariantFacts.OutcomeLaws.{Outcome, LiteralOutcome}
use Rattle.extract.proofs.VariantFacts.WayLaws.{at-class, at_literal}
use Rattle.extract.specs.Promises.{ClassRoot, BaseRoot}
use Rattle.extract.proofs.WayLaws.{known_of, class-root-in, base-root-in}

module _ (file : List ℕ) (root v n : ℕ) (t : Table) (l : Lending) where
  module _ (r : ClassRoot file root v t) where
    pub class-known : Known t
    class-known = known_of file root v l.store t r.held

    pub class-reached : ReachedClass t root (flat_class t root v)
    class-reached = root-class t class-known root r.sort v r.inside

    pub class-true : TruePrices t (ReachedClass t root) (prices_for t root)
    class-true = run-true t class-known root r.sort

    pub class-outcome :
        well_formed l.store ≡ true →
        Outcome t (prices_for t root) (run_of t root).passes l (kept_rows t (prices_for t root) (flat_class t root v) n) (variants_at file root v n l)
    class-outcome f =
        at-class file root v n l t r.held.end r.held.is
        (class-root-in file root v l.store t r.held r) f (ne_eqb (sort_of t root).kind 0 r.eq)

  pub base_kept :
      BaseRoot file root v t →
      well_formed l.store ≡ true →
      LiteralOutcome l (literal_of t v) (variants_at file root v n l)
  base_kept r f =
      at_literal file root v n l t r.held.end r.held.is
      (base-root-in file root v l.store t r.held r) f (eq-eqb (sort_of t root).kind 0 r.base)
