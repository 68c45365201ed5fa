-- What the kept rows answer by a solved flat table is the definition's answer. Assumes nothing.
use mathlib.Core.Path.{◌≡◌, refl, ap, sym, ◌∙◌, subst}
use mathlib.Core.Bool.{true, false}
use mathlib.Core.List.{List, [], ◌∷◌, map}
use Prim.Native.Nat.{ℕ, zero, suc, ◌<◌, ◌≤◌}
use native.Mathlib.Omega.{arith}
use borrow.Author.Tests.{leb-false}
use lib.Dec.{leb, eqb}
use lib.IntN.{ℤ}
use lib.ListN.{length, get_or, replicate}
use Rattle.order.proofs.OrderLaws.{cases}
use Rattle.choice_rules.specs.Rows.{all_of}
use Rattle.choice_rules.specs.Run.{priced}
use Rattle.choice_rules.proofs.ListLaws.{or-fails, and_cases}
use Rattle.table_rules.proofs.PickedLaws.{Passes}
use Rattle.price_passes.specs.Flat.{top, part_of, child_of as flat_child}
use Rattle.table_layout.specs.Packed.{Packed}
use Rattle.price.specs.Solved.{Solved}
use Rattle.term_rules.specs.Lent.{Store}
use Rattle.term_rules.specs.WellFormed.{well_formed}
use Rattle.build.specs.Plan.{plan_of, children_of}
use Rattle.build.specs.Building.{state, Out, done, full}
use Rattle.file_rules.specs.Table.{Table}
use Rattle.table_rules.specs.Rules.Classes.{class_count}
use Rattle.table_rules.specs.Rules.Choosing.{run_of, prices_for}
use Rattle.variant_order.specs.Arrays.{AllBelow}
use Rattle.answer_rules.specs.Variants.{
  cost_for,
  kept_rows,
  any_dear,
  Lending,
  VariantsAfter,
  variants_kept,
  variants_built,
  depth_for,
  variants_of_rows,
  room_for_results,
}
use Rattle.answer_rules.proofs.PlanLaws.{build_rank}
use Rattle.variant_terms.specs.Rows.{Deep}
use Rattle.best_class.proofs.SolvedLaws.{planned, inside}
use Rattle.variant_rows.specs.Candidates.{Prices, is_candidate}
use Rattle.variant_rows.specs.Kept.{kept_in}
use Rattle.variant_terms.specs.Turned.{name_in, rows_in, AllListed, Steady, wholly}
use Rattle.variant_answers.specs.Kept.{dear_in, prices_of, built_in, answer_in, AnswerReady, Answers}
use Rattle.variants_root.specs.Flat.{VariantTable}
use Rattle.variants_root.proofs.kept_rows.RowLaws.{passes-are, cost-is, kept-is, kept_from}
use Rattle.variants_root.proofs.kept_rows.BuildLaws.{deep, listed}
use Rattle.variants_root.proofs.kept_rows.TermLaws.{variants-are}

-- where none is too dear, each costs less
not-dear :
    (prices rows : List ℕ) → dear_in prices rows ≡ false → (j : ℕ) → j < length rows → get_or prices (get_or rows j 0) 0 <
    top
unfolding dear_in
not-dear prices [] e j h = absurd (omega arith)
not-dear prices (i ∷ rows) e zero h = leb-false top (get_or prices i 0) (or-fails (leb top (get_or prices i 0)) (dear_in
    prices rows) e).0
not-dear prices (i ∷ rows) e (suc j) h =
    not-dear prices rows (or-fails (leb top (get_or prices i 0)) (dear_in prices rows) e).1 j (omega arith)

module _ (t : Table) (root n : ℕ) (prices : List ℕ) (is : (i : ℕ) → i < n → get_or prices i 0 ≡ cost_for t (prices_for t root) i) where
  dear-is : (rows : List ℕ) → AllBelow n rows → dear_in prices rows ≡ any_dear t (prices_for t root) rows
  unfolding dear_in any_dear
  dear-is [] b = refl
  dear-is (i ∷ rows) b =
      let e = is i (b 0 (omega arith)) in
      let r = dear-is rows (λ j h. b (suc j) (omega arith)) in
      rw (e, r) refl

  costs_are : (rows : List ℕ) → AllBelow n rows → prices_of prices rows ≡ map (cost_for t (prices_for t root)) rows
  costs_are [] b = refl
  costs_are (i ∷ rows) b =
      let e = is i (b 0 (omega arith)) in
      let r = costs_are rows (λ j h. b (suc j) (omega arith)) in
      rw (e, r) refl

built-is :
    (t : Table) (root p : ℕ) (prices rows : List ℕ) (l : Lending) →
    (run_of t root).passes ≡ p →
    prices_of prices rows ≡ map (cost_for t (prices_for t root)) rows →
    (o : Out (List ℕ)) →
    built_in p prices rows l (wholly l.store o) ≡ variants_built t (prices_for t root) (run_of t root).passes l rows o
unfolding built_in wholly variants_built
built-is t root p prices rows l e f (done ts s) =
    ap (λ (ws : List ℕ). variants_kept l ws ts p s.lent) f
    ∙ ap (λ (q : ℕ). variants_kept l (map (cost_for t (prices_for t root)) rows) ts q s.lent) (sym e)
built-is t root p prices rows l e f (full me rs ls ns) = refl

module _
    (t : Table) (root : ℕ) (outputs heads starts children order functions labels : List ℕ) (values : List ℤ)
    (cells : List ℕ)
    (v : VariantTable t root outputs heads starts children order functions labels values cells)
    (costs ranks edges : List ℕ) (passes last : ℕ) (long : length ranks ≡ class_count t)
    (w : Solved (class_count t) passes last outputs heads starts children costs ranks edges)
    (packed : List ℕ) (pk : Packed order functions outputs starts children packed (length outputs))
    (prices : List ℕ) (p : Prices costs heads starts children (length outputs) prices) (c most : ℕ) (rows : List ℕ)
    (are : rows ≡ kept_in prices ranks outputs starts children packed labels cells c most) where
  from :
      (j : ℕ) →
      j < length rows →
      Passes (is_candidate ranks outputs starts children c) (get_or rows j 0) 0 (length outputs)
  from =
      subst
      (λ (x : List ℕ).
      (j : ℕ) → j < length x → Passes (is_candidate ranks outputs starts children c) (get_or x j 0) 0 (length outputs))
      (sym are)
      (kept_from t root outputs heads starts children order functions labels values cells v costs ranks edges passes last long w prices p packed pk c most)

  kept-below : AllBelow (length outputs) rows
  kept-below j h = omega (arith, (from j h).high)

  price : (i : ℕ) → i < length outputs → get_or prices i 0 ≡ cost_for t (prices_for t root) i
  price =
      cost-is t root outputs heads starts children order functions labels values cells v costs ranks edges passes last long w prices p

  -- the kept rows can be built if none is too dear
  all_listed : dear_in prices rows ≡ false → AllListed (build_rank (prices_for t root)) packed ranks labels values rows
  all_listed e j h =
      let i : ℕ = get_or rows j 0 in
      let b : i < length outputs = kept-below j h in
      listed t root outputs heads starts children order functions labels values cells v costs ranks edges
      passes last long w i b (and_cases (eqb (get_or outputs i 0) c) (all_of (priced ranks) (map
      flat_child (part_of starts children i))) (from j h).passes).1 (subst (λ (x : ℕ). x < top) (p i b) (not-dear
      prices rows e j h)) packed pk

  steady : (s : Store) → well_formed s ≡ true → Steady (build_rank (prices_for t root)) packed edges labels values s
  steady s f = record {
    planned =
        planned t root outputs heads starts children order functions labels values v.is costs ranks edges passes last
        long w packed pk;
    inside =
        inside t root outputs heads starts children order functions labels values v.is costs ranks edges passes last
        long w;
    formed = f;
  }

  pub answer-ready :
      (s : Store) →
      well_formed s ≡ true →
      1024 ≤ length prices →
      length rows ≤ 1024 →
      AnswerReady packed edges ranks labels values prices rows s
  answer-ready s f a b = record {
    rank = build_rank (prices_for t root);
    steady = steady s f;
    below = λ j h. omega (arith, kept-below j h, a, v.is.flat.few_rows);
    few = b;
    listed = all_listed;
  }

  module _ (l : Lending) where
    abbrev depth : ℕ
    depth = depth_for (prices_for t root)

    abbrev built : Out (List ℕ)
    built =
        rows_in (plan_of packed edges labels values) depth (name_in labels packed) (children_of packed values)
        (state (replicate 512 0) l.store) [] rows

    depth-enough : Deep ranks (depth_for (prices_for t root))
    depth-enough =
        deep t root outputs heads starts children order functions labels values cells v costs ranks edges passes last long w

    when-dear :
        dear_in prices rows ≡ true →
        answer_in passes prices rows l (wholly l.store built) ≡ variants_of_rows t (prices_for t root) (run_of t root).passes l rows
    unfolding answer_in variants_of_rows
    when-dear e =
        let d : any_dear t (prices_for t root) rows ≡ true = sym (dear-is t root (length outputs) prices price rows kept-below) ∙ e in
        rw (e, answer_in) (rw (d, variants_of_rows) refl)

    when-full :
        dear_in prices rows ≡ false →
        room_for_results l (length rows) ≡ false →
        answer_in passes prices rows l (wholly l.store built) ≡ variants_of_rows t (prices_for t root) (run_of t root).passes l rows
    unfolding answer_in variants_of_rows
    when-full e r =
        let d : any_dear t (prices_for t root) rows ≡ false = sym (dear-is t root (length outputs) prices price rows kept-below) ∙ e in
        rw (e, r, answer_in) (rw (d, r, variants_of_rows) refl)

    when-room :
        dear_in prices rows ≡ false →
        room_for_results l (length rows) ≡ true →
        answer_in passes prices rows l (wholly l.store built) ≡ variants_of_rows t (prices_for t root) (run_of t root).passes l rows
    unfolding answer_in variants_of_rows
    when-room e r =
        let d : any_dear t (prices_for t root) rows ≡ false = sym (dear-is t root (length outputs) prices price rows kept-below) ∙ e in
        rw (e, r, answer_in) (rw (d, r, variants_of_rows)
        (built-is t root passes prices rows l
        (passes-are t root outputs heads starts children order functions labels values cells v costs ranks edges passes last long w) (costs_are t root (length outputs) prices price rows kept-below)
        built
        ∙ ap (variants_built t (prices_for t root) (run_of t root).passes l rows)
        (sym
        (variants-are t root outputs heads starts children order functions labels values cells v costs ranks edges passes last long w packed pk depth depth-enough rows kept-below (all_listed e) (state (replicate 512 0) l.store) []))))

    of-rows : answer_in passes prices rows l (wholly l.store built) ≡ variants_of_rows t (prices_for t root) (run_of t root).passes l rows
    of-rows =
        cases (dear_in prices rows) when-dear
        (λ e. cases (room_for_results l (length rows)) (when-room e) (when-full e))

    answer-is :
        answer_in passes prices rows l (wholly l.store built) ≡ variants_of_rows t (prices_for t root) (run_of t root).passes l (kept_rows t (prices_for t root) c most)
    answer-is =
        of-rows
        ∙ ap (variants_of_rows t (prices_for t root) (run_of t root).passes l)
        (are
        ∙ kept-is t root outputs heads starts children order functions labels values cells v costs ranks edges passes last long w prices p packed pk c most)

    -- an answer that is right at every depth is the definition's
    pub answer-told :
        (a : VariantsAfter) →
        Answers (plan_of packed edges labels values) ranks (name_in labels packed) (children_of packed values)
        passes prices rows l a → a ≡ variants_of_rows t (prices_for t root) (run_of t root).passes l (kept_rows t (prices_for t root) c most)
    answer-told a x = x depth depth-enough ∙ answer-is
