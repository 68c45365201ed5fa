-- Each answer of the code is the definition's. Assumes nothing.
use mathlib.Core.Path.{◌≡◌, refl, ap, sym, ◌∙◌}
use mathlib.Core.List.{List}
use Prim.Native.Nat.{ℕ, ◌<◌, ◌≤◌}
use native.Mathlib.Omega.{arith}
use lib.IntN.{ℤ}
use lib.ListN.{length, get_or}
use Rattle.refusal.specs.declared.Refusal.TheVariants.{NoTerm, TooDear, NoRoom}
use Rattle.term_rules.specs.Lent.{Store}
use Rattle.choice_rules.specs.Run.{Run}
use Rattle.choice_rules.specs.Answer.{answer_of}
use Rattle.choice_rules.proofs.AnswerLaws.{answer-when-unranked, answer-when-saturated, answer-when-below}
use Rattle.price_passes.specs.Flat.{state_of, ran_to}
use Rattle.price.specs.Solved.{Solved}
use Rattle.table_layout.specs.Packed.{Packed}
use Rattle.build.specs.Plan.{plan_of}
use Rattle.build.specs.Building.{Out, done, full}
use Rattle.std.specs.Prelude.{Option, Some, None}
use Rattle.build.specs.Whole.{Left, left, whole}
use Rattle.file_rules.specs.Table.{Table}
use Rattle.table_rules.specs.Rules.Classes.{class_count}
use Rattle.table_rules.specs.Rules.Choosing.{limit, run_of, answer_for, prices_for}
use Rattle.answer_rules.specs.Answers.{found, refused}
use Rattle.answer_rules.specs.Best.{best_term, best_built, best_class}
use Rattle.answer_rules.specs.Plan.{plan_for, order_for}
use Rattle.best_class.specs.Flat.{FlatTable}
use Rattle.best_class.proofs.SolvedLaws.{run_is, whole_is}

-- where there is no room the store is as it was
full-unchanged : (s : Store) (o : Out ℕ) (s' : Store) → record { answer = None; store = s' } ≡ left s o → s' ≡ s
unfolding left
full-unchanged s (done t s₁) s' e =
    let q : ◌≡◌ {A = Option ℕ} None (Some t) = ap (λ (l : Left). l.answer) e in
    let z : ◌≡◌ {A = ℕ} 0 1 = cc in
    absurd (omega arith)
full-unchanged s (full me r l n) s' e = ap (λ (x : Left). x.store) e

module _
    (t : Table) (root : ℕ) (outputs heads starts children order functions labels : List ℕ) (values : List ℤ)
    (v : FlatTable t root outputs heads starts children order functions labels values)
    (costs ranks edges : List ℕ) (passes last : ℕ) (long : length ranks ≡ class_count t)
    (w : Solved (class_count t) passes last outputs heads starts children costs ranks edges)
    (rows : List ℕ) (pk : Packed order functions outputs starts children rows (length outputs)) (c : ℕ) (s : Store)
  where
    ran : run_of t root ≡ ran_to costs ranks last passes
    ran =
        run_is t root outputs heads starts children order functions labels values v costs ranks edges passes last long w

    answer-is : answer_for (prices_for t root) c ≡ answer_of limit costs ranks c
    unfolding answer_for
    answer-is = ap (λ (r : Run). answer_of limit r.state.costs r.state.ranks c) ran

    pub decide-unranked : get_or ranks c 0 ≡ 0 → refused NoTerm s ≡ best_class t (prices_for t root) (run_of t root).passes c s (answer_for (prices_for t root) c)
    unfolding best_class
    decide-unranked z = rw (answer-is ∙ answer-when-unranked limit (state_of costs ranks last) c z) refl

    pub decide-dear : 0 < get_or ranks c 0 → limit ≤ get_or costs c 0 → refused TooDear s ≡ best_class t (prices_for t root) (run_of t root).passes c s
        (answer_for (prices_for t root) c)
    unfolding best_class
    decide-dear z d = rw (answer-is ∙ answer-when-saturated limit (state_of costs ranks last) c z d) refl

    module _ (z : 0 < get_or ranks c 0) (d : get_or costs c 0 < limit) where
      class-is :
          best_class t (prices_for t root) (run_of t root).passes c s (answer_for (prices_for t root) c)
          ≡ best_built (get_or costs c 0) passes s (whole (plan_of rows edges labels values) (get_or ranks c 0) s c)
      unfolding best_class
      class-is =
          rw (answer-is ∙ answer-when-below limit (state_of costs ranks last) c z d)
          (rw
          (whole_is t root outputs heads starts children order functions labels values v costs ranks edges passes last
          long w rows pk s c (record { ranked = z; below = d }))
          (ap
          (λ (p : ℕ). best_built (get_or costs c 0) p s (whole (plan_for t (prices_for t root)) (order_for (prices_for t root) c) s c))
          (ap (λ (r : Run). r.passes) ran)))

      pub decide-found :
          (i : ℕ) (s' : Store) →
          record { answer = Some i; store = s' } ≡ whole (plan_of rows edges labels values) (get_or ranks c 0) s c →
          found (best_term (get_or costs c 0) i passes) s' ≡ best_class t (prices_for t root) (run_of t root).passes c s (answer_for (prices_for t root) c)
      unfolding best_built
      decide-found i s' e = ap (best_built (get_or costs c 0) passes s) e ∙ sym class-is

      pub decide-full :
          (s' : Store) →
          record { answer = None; store = s' } ≡ whole (plan_of rows edges labels values) (get_or ranks c 0) s c →
          refused NoRoom s' ≡ best_class t (prices_for t root) (run_of t root).passes c s (answer_for (prices_for t root) c)
      unfolding best_built whole
      decide-full s' e =
          ap (λ (x : Store). refused NoRoom x) (full-unchanged s _ s' e)
          ∙ ap (best_built (get_or costs c 0) passes s) e
          ∙ sym class-is
