-- What best answers, by the file, the root, the store and what was built. Assumes nothing.
use Prim.{tt}
use mathlib.Core.Path.{◌≡◌, refl, ap, sym, ◌∙◌, subst}
use mathlib.Core.Bool.{true, false}
use mathlib.Core.List.{List, [], ◌∷◌}
use mathlib.Core.Logic.{◌⊎◌, inl, inr}
use Prim.Native.Nat.{ℕ, ◌+◌, ◌<◌, ◌≤◌}
use native.Mathlib.Omega.{arith}
use borrow.Author.Tests.{eqb-false, eq-eqb, ne_eqb}
use lib.Dec.{eqb}
use lib.IntN.{ℤ}
use lib.ListN.{length}
use Rattle.refusal.specs.declared.Refusal.{Refusal}
use Rattle.refusal.specs.declared.Refusal.TheVariants.{BadRoot, BadStore}
use Rattle.order.proofs.OrderLaws.{cases}
use Rattle.bits.specs.Got.{Got, got, refused as fault}
use Rattle.term_rules.specs.Lent.{Store}
use Rattle.term_rules.specs.WellFormed.{well_formed}
use Rattle.term_rules.specs.Nodes.{literal}
use Rattle.term_rules.specs.Adding.{Adds, at, no_room, add}
use Rattle.term_rules.specs.Growing.{Grows, Gives}
use Rattle.term_rules.proofs.Adding.AddingLaws.{add-gives}
use Rattle.choice_rules.specs.Run.{costed}
use Rattle.choice_rules.specs.Answer.{Answer as Verdict, no_term, too_dear, best}
use Rattle.choice_rules.proofs.Promises.{promises}
use Rattle.choice_rules.specs.Demand.Deriving.{Answered}
use Rattle.std.specs.Prelude.{Option, Some, None}
use Rattle.build.specs.Whole.{Left, whole}
use Rattle.file_rules.specs.Table.{Table}
use Rattle.file_rules.specs.File.{table_at}
use Rattle.table_rules.specs.Rules.Classes.{sort_of, class_count, flat_class, range_of, is_root}
use Rattle.table_rules.specs.Rules.Rows.{table_rows, usable}
use Rattle.table_rules.specs.Rules.Order.{scanned}
use Rattle.table_rules.specs.Rules.Terms.{literal_of}
use Rattle.table_rules.specs.Rules.Choosing.{limit, run_over, run_of, answer_for, Prices, prices_for}
use Rattle.table_rules.specs.Rules.Facts.{Known}
use Rattle.table_rules.proofs.Rules.CoverLaws.{range_of-eq, one_below, scanned-within}
use Rattle.table_rows.proofs.Held.KnownLaws.{known-of-accepted}
use Rattle.table_rows.proofs.LoadLaws.{accepted-of}
use Rattle.answer_rules.specs.Answers.{Answer, value, refusal, After, refused}
use Rattle.answer_rules.specs.Best.{BestTerm, best_literal, best_built, best_class, best_of, best_at}
use Rattle.answer_rules.specs.Plan.{plan_for, order_for}
use Rattle.answer_rules.specs.Demand.{Kept}
use Rattle.answer_rules.proofs.BestLaws.{DemandThree, demand_three}
use Rattle.extract.proofs.LiteralLaws.{literal-fits, literal-full}
use Rattle.extract.proofs.VariantFacts.OutcomeLaws.{not-refused, same_number, same-value}
use Rattle.extract.specs.Promises.{Holding, ClassRoot, BaseRoot, PassCount, BaseOutcome}
use Rattle.table_roots.proofs.RootLaws.{sort-below, value-in-sort, root_in, best-fault, best-bad, best-rooted}
use Rattle.best_root.proofs.SingleLaws.{unformed-refuses, formed-is}
use Rattle.extract.proofs.VerdictLaws.{found-then, number-told}

-- The ways that best takes: the first that the file, the root and the store allow.
pub data Way (file : List ℕ) (root v : ℕ) (s : Store) : Type 0 where
  by_fault : (x : Refusal) → best_at file root v s ≡ refused x s → Way file root v s
  by_literal :
      (t : Table) →
      well_formed s ≡ true →
      best_at file root v s ≡ best_literal s (add s (literal (literal_of t v))) →
      Way file root v s
  by_class :
      (t : Table) →
      ClassRoot file root v t →
      well_formed s ≡ true →
      best_at file root v s ≡ best_class t (prices_for t root) (run_of t root).passes (flat_class t root v) s (answer_for (prices_for t root) (flat_class t root v)) →
      Way file root v s

module _ (file : List ℕ) (root v : ℕ) (s : Store) where
  module _ (t : Table) (h : Holding file t) where
    pub bad-root-is : is_root t root v ≡ false → best_at file root v s ≡ refused BadRoot s
    bad-root-is p = best-bad file root v s t h.end h.is p

    module _ (p : is_root t root v ≡ true) where
      pub bad-store-is : well_formed s ≡ false → best_at file root v s ≡ refused BadStore s
      bad-store-is f =
          best-rooted file root v s t h.end h.is p ∙ sym (unformed-refuses s (best_of t root v s) f)

      pub best-is : well_formed s ≡ true → best_at file root v s ≡ best_of t root v s
      best-is f = best-rooted file root v s t h.end h.is p ∙ sym (formed-is s (best_of t root v s) f)

      literal-is :
          well_formed s ≡ true →
          eqb (sort_of t root).kind 0 ≡ true →
          best_at file root v s ≡ best_literal s (add s (literal (literal_of t v)))
      unfolding best_of
      literal-is f q =
          let d : best_of t root v s ≡ best_literal s (add s (literal (literal_of t v))) = rw (q, best_of) in
          best-is f ∙ d

      class-is :
          well_formed s ≡ true →
          eqb (sort_of t root).kind 0 ≡ false →
          best_at file root v s ≡ best_class t (prices_for t root) (run_of t root).passes (flat_class t root v) s (answer_for (prices_for t root) (flat_class t root v))
      unfolding best_of
      class-is f q =
          let c : ℕ = flat_class t root v in
          let d : best_of t root v s ≡ best_class t (prices_for t root) (run_of t root).passes c s (answer_for (prices_for t root) c) = rw (q, best_of) in
          best-is f ∙ d

    -- a class, and a base root, are roots
    pub class-root-in : ClassRoot file root v t → is_root t root v ≡ true
    class-root-in r =
        root_in t root v r.sort (subst (λ (n : ℕ). v < n) (sym (range_of-eq t root r.eq)) r.inside)

    pub base-root-in : BaseRoot file root v t → is_root t root v ≡ true
    unfolding range_of
    base-root-in r =
        let e : range_of t root ≡ length t.literals = rw (eq-eqb (sort_of t root).kind 0 r.base, range_of) in
        root_in t root v r.sort (subst (λ (n : ℕ). v < n) (sym e) r.inside)

    pub known_of : Known t
    known_of = known-of-accepted t (accepted-of file h.is)

    pub class-way :
        ClassRoot file root v t →
        well_formed s ≡ true →
        best_at file root v s ≡ best_class t (prices_for t root) (run_of t root).passes (flat_class t root v) s (answer_for (prices_for t root) (flat_class t root v))
    class-way r f = class-is (class-root-in r) f (ne_eqb (sort_of t root).kind 0 r.eq)

    pub base-way :
        BaseRoot file root v t →
        well_formed s ≡ true →
        best_at file root v s ≡ best_literal s (add s (literal (literal_of t v)))
    base-way r f = literal-is (base-root-in r) f (eq-eqb (sort_of t root).kind 0 r.base)

    -- the way of an accepted file
    way-held : Way file root v s
    way-held =
        cases (is_root t root v)
        (λ p.
        cases (well_formed s)
        (λ f.
        cases (eqb (sort_of t root).kind 0)
        (λ q. by_literal t f (literal-is p f q))
        (λ q.
        by_class t
        (record {
          held = h;
          sort = sort-below t root v p;
          eq = eqb-false (sort_of t root).kind 0 q;
          inside = value-in-sort t root v p q;
        })
        f (class-is p f q)))
        (λ f. by_fault BadStore (bad-store-is p f)))
        (λ p. by_fault BadRoot (bad-root-is p))

  pub way : Way file root v s
  way = go (table_at file) refl
    where
      go : (g : Got Table) → table_at file ≡ g → Way file root v s
      go (fault x) e = by_fault x (best-fault file root v s x e)
      go (got t k) e = way-held t (record { end = k; is = e })

  -- Demand 3's verdict of a class root, by which best answers.
  module _ (t : Table) (r : ClassRoot file root v t) (f : well_formed s ≡ true) where
    three : DemandThree t (known_of t r.held) root r.sort s f v
    three = demand_three t (known_of t r.held) root r.sort s f v r.eq r.inside

    pub verdict : Verdict
    verdict = three.verdict

    pub verdict-right : Answered limit (table_rows t) (usable t) (flat_class t root v) verdict
    unfolding verdict
    verdict-right = three.is_right

    pub verdict-kept : Kept t (prices_for t root) (flat_class t root v) s (best_at file root v s) verdict
    unfolding verdict
    verdict-kept =
        subst (λ (a : After BestTerm). Kept t (prices_for t root) (flat_class t root v) s a three.verdict)
        (sym (best-is t r.held (class-root-in t r.held r) f)) three.kept

-- The literal of a base root that was added, or had no room.
module _ (s : Store) (f : well_formed s ≡ true) (z : ℤ) where
  pub base-outcome :
      (x : Adds) → add s (literal z) ≡ x → BaseOutcome z s (best_literal s x).store (best_literal s x).answer
  unfolding best_literal
  base-outcome (at i s') e =
      (refl, refl, subst (Gives s (literal z)) e (add-gives s (literal z) f tt), literal-fits s f z i s' e)
  base-outcome no_room e = (refl, refl, literal-full s f z e)

  -- a refusal leaves the store
  literal-unchanged : (x : Adds) (k : ℕ) → (best_literal s x).answer ≡ refusal k → (best_literal s x).store ≡ s
  unfolding best_literal
  literal-unchanged (at i s') k e = not-refused e
  literal-unchanged no_room k e = refl

-- What was built, by its answer.
module _ (w p : ℕ) (s : Store) where
  built-passes : (l : Left) (b : BestTerm) → (best_built w p s l).answer ≡ value b → b.passes ≡ p
  unfolding best_built
  built-passes l b e = go l.answer refl
    where
      go : (x : Option ℕ) → l.answer ≡ x → b.passes ≡ p
      go (Some a) d = sym (ap (λ (y : BestTerm). y.passes) (same-value (rw d at e)))
      go None d = not-refused (sym (rw d at e))

  built-unchanged : (l : Left) (k : ℕ) → (best_built w p s l).answer ≡ refusal k → (best_built w p s l).store ≡ s
  unfolding best_built
  built-unchanged l k e = go l.answer refl
    where
      go : (x : Option ℕ) → l.answer ≡ x → (best_built w p s l).store ≡ s
      go (Some a) d = not-refused (rw d at e)
      go None d = rw d

module _ (t : Table) (p : Prices) (n c : ℕ) (s : Store) where
  pub class-passes : (v : Verdict) (b : BestTerm) → (best_class t p n c s v).answer ≡ value b → b.passes ≡ n
  unfolding best_class
  class-passes no_term b e = not-refused (sym e)
  class-passes too_dear b e = not-refused (sym e)
  class-passes (best w) b e = built-passes w n s (whole (plan_for t p) (order_for p c) s c) b e

  class-unchanged : (v : Verdict) (k : ℕ) → (best_class t p n c s v).answer ≡ refusal k → (best_class t p n c s v).store ≡ s
  unfolding best_class
  class-unchanged no_term k e = refl
  class-unchanged too_dear k e = refl
  class-unchanged (best w) k e = built-unchanged w n s (whole (plan_for t p) (order_for p c) s c) k e

-- The passes of the run over the rows that the root sort reaches.
pub pass-count :
    (t : Table) (known : Known t) (root p : ℕ) →
    root < length t.sorts →
    p ≡ (run_of t root).passes →
    PassCount t root p
unfolding run_over
pass-count t known root p h e =
    let q = promises limit (scanned t (root ∷ [])) (class_count t)
    (scanned-within t known (root ∷ []) (one_below (length t.sorts) root h)) in
    record {
      run = run_of t root;
      first_still = q.first_still;
      counted = e;
      few = subst (λ (n : ℕ). n ≤ costed (run_of t root).state.ranks + 1) (sym e) q.few_passes;
    }

module _ (file : List ℕ) (root v : ℕ) (s : Store) where
  refused-stays : (a : After BestTerm) → best_at file root v s ≡ a → a.store ≡ s → (best_at file root v s).store ≡ s
  refused-stays a e d = ap (λ (x : After BestTerm). x.store) e ∙ d

  told-by :
      (a : After BestTerm) {x : Answer BestTerm} →
      best_at file root v s ≡ a →
      (best_at file root v s).answer ≡ x →
      a.answer ≡ x
  told-by a e d = sym (ap (λ (x : After BestTerm). x.answer) e) ∙ d

  pub refusal-unchanged : (k : ℕ) → (best_at file root v s).answer ≡ refusal k → (best_at file root v s).store ≡ s
  refusal-unchanged k e = go (way file root v s)
    where
      go : Way file root v s → (best_at file root v s).store ≡ s
      go (by_fault x d) = refused-stays (refused x s) d refl
      go (by_literal t f d) =
          let x : Adds = add s (literal (literal_of t v)) in
          refused-stays (best_literal s x) d (literal-unchanged s f (literal_of t v) x k (told-by (best_literal s x) d e))
      go (by_class t r f d) =
          let c : ℕ = flat_class t root v in
          let a : After BestTerm = best_class t (prices_for t root) (run_of t root).passes c s (answer_for (prices_for t root) c) in
          refused-stays a d (class-unchanged t (prices_for t root) (run_of t root).passes c s (answer_for (prices_for t root) c) k (told-by a d e))

  abbrev Returned : BestTerm → After BestTerm → Type 0
  Returned b a = Grows s a.store × (b.term < a.store.terms)

  base-returned :
      (z : ℤ) (a : After BestTerm) (x : Answer BestTerm) (b : BestTerm) →
      BaseOutcome z s a.store x →
      x ≡ value b →
      Returned b a
  base-returned z a (value d) b o e =
      let q : d ≡ b = same-value e in
      (o.2.grows, subst (λ (y : BestTerm). y.term < a.store.terms) q o.2.below)
  base-returned z a (refusal j) b o e = not-refused (sym e)

  pub value-returned : (b : BestTerm) → (best_at file root v s).answer ≡ value b → Returned b (best_at file root v s)
  value-returned b e = go (way file root v s)
    where
      go : Way file root v s → Returned b (best_at file root v s)
      go (by_fault x d) = not-refused (sym (told-by (refused x s) d e))
      go (by_literal t f d) =
          let x : Adds = add s (literal (literal_of t v)) in
          subst (Returned b) (sym d)
          (base-returned (literal_of t v) (best_literal s x) (best_literal s x).answer b
          (base-outcome s f (literal_of t v) x refl) (told-by (best_literal s x) d e))
      go (by_class t r f d) =
          let o = found-then t (prices_for t root) (flat_class t root v) s (best_at file root v s) (verdict file root v s t r f)
          (verdict-kept file root v s t r f) b e in
          (o.grows, o.below)

-- A root and a well-formed store are refused by 11, 12 or 13 alone.
module _ (file : List ℕ) (root v : ℕ) (s : Store) (t : Table) (h : Holding file t) (p : is_root t root v ≡ true) where
  abbrev Late : ℕ → Type 0
  Late k = (11 ≤ k) × (k ≤ 13)

  base-number : (z : ℤ) (s' : Store) (x : Answer BestTerm) (k : ℕ) → BaseOutcome z s s' x → x ≡ refusal k → Late k
  base-number z s' (value d) k o e = not-refused e
  base-number z s' (refusal j) k o e =
      let q : k ≡ 13 = sym (same_number e) ∙ o.0 in
      (omega (arith, q), omega (arith, q))

  class-number : (k : ℕ) → (k ≡ 11) ⊎ ((k ≡ 12) ⊎ (k ≡ 13)) → Late k
  class-number k (inl e) = (omega (arith, e), omega (arith, e))
  class-number k (inr (inl e)) = (omega (arith, e), omega (arith, e))
  class-number k (inr (inr e)) = (omega (arith, e), omega (arith, e))

  formed-number : well_formed s ≡ true → (k : ℕ) → (best_at file root v s).answer ≡ refusal k → Late k
  formed-number f k e =
      cases (eqb (sort_of t root).kind 0)
      (λ q.
      let x : Adds = add s (literal (literal_of t v)) in
      base-number (literal_of t v) (best_literal s x).store (best_literal s x).answer k
      (base-outcome s f (literal_of t v) x refl)
      (told-by file root v s (best_literal s x) (literal-is file root v s t h p f q) e))
      (λ q.
      let r : ClassRoot file root v t = record {
        held = h;
        sort = sort-below t root v p;
        eq = eqb-false (sort_of t root).kind 0 q;
        inside = value-in-sort t root v p q;
      } in
      class-number k
      (number-told t (prices_for t root) (flat_class t root v) s (best_at file root v s) (verdict file root v s t r f)
      (verdict-kept file root v s t r f) k e))

  pub bad-store-then : (best_at file root v s).answer ≡ refusal 17 → well_formed s ≡ false
  bad-store-then e =
      cases (well_formed s)
      (λ f.
      let l = formed-number f 17 e in
      absurd (omega (arith, l.1)))
      (λ f. f)

  root_told : (best_at file root v s).answer ≡ refusal 10 → ⊥
  root_told e =
      cases (well_formed s)
      (λ f.
      let l = formed-number f 10 e in
      omega (arith, l.0))
      (λ f.
      let q : 17 ≡ 10 =
      same_number (told-by file root v s (refused BadStore s) (bad-store-is file root v s t h p f) e) in
      omega (arith, q))

pub bad-root-then :
    (file : List ℕ) (root v : ℕ) (s : Store) (t : Table) →
    Holding file t →
    (best_at file root v s).answer ≡ refusal 10 →
    is_root t root v ≡ false
bad-root-then file root v s t h e =
    cases (is_root t root v) (λ p. absurd (root_told file root v s t h p e)) (λ p. p)
