-- The promises of the crate `choice_rules` are kept, for rows whose outputs are among the n classes. Assumes nothing.
use mathlib.Core.Path.{◌≡◌, subst}
use mathlib.Core.List.{List}
use Prim.Native.Nat.{ℕ}
use Rattle.choice_rules.specs.Rows.{Row, Within, class}
use Rattle.choice_rules.specs.Edges.{is_edge}
use Rattle.choice_rules.specs.Answer.{Answer, no_term, too_dear, Right}
use Rattle.choice_rules.specs.Promises.{ended, told, Promises}
use Rattle.choice_rules.proofs.RunLaws.{run-first-still, run_unique, run-any-fuel, run-passes-le, run-good, run-fixed}
use Rattle.choice_rules.proofs.EdgeLaws.{edge-of-fixed, first-row-before}
use Rattle.choice_rules.proofs.ChosenLaws.{chosen_unique}
use Rattle.choice_rules.proofs.AnswerLaws.{right-of-fixed, right_unique, chosen-when-best}

module _ (M : ℕ) (rows : List Row) (n : ℕ) (w : Within n rows) where
  right : (c : ℕ) → Right M rows c (told M rows n c)
  right = let g = run-good M n rows w in right-of-fixed M rows (ended M rows n) (run-fixed M n rows w) g.grounded
      g.sourced

  -- an answer is given if and only if it is right
  told-by : (c : ℕ) (a : Answer) → Right M rows c a → told M rows n c ≡ a
  told-by c a p = right_unique M rows c (told M rows n c) a (right c) p

  tells : (c : ℕ) (a : Answer) → told M rows n c ≡ a → Right M rows c a
  tells c a e = subst (λ (x : Answer). Right M rows c x) e (right c)

  pub promises : Promises M rows n w
  promises = record {
    first_still = run-first-still M n rows w;
    run_unique = run_unique M n rows w;
    any_fuel = run-any-fuel M n rows w;
    few_passes = run-passes-le M n rows w;
    no_term = λ c. (tells c no_term, told-by c no_term);
    too_dear = λ c. (tells c too_dear, told-by c too_dear);
    cheapest = λ c.
        let g = run-good M n rows w in
        chosen-when-best M rows (ended M rows n) (run-fixed M n rows w) g.grounded g.sourced c;
    chosen_unique = λ edge c t u. chosen_unique rows edge t u (class c);
    right = right;
    right_unique = right_unique M rows;
    edge = edge-of-fixed M rows (ended M rows n) (run-fixed M n rows w) (run-good M n rows w).sourced;
    edge_first = λ c. first-row-before (is_edge M (ended M rows n).costs (ended M rows n).ranks c) rows;
  }
