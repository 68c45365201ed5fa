-- The terms of all kept rows: the store has grown and has each of them. Assumes nothing.
use mathlib.Core.Path.{◌≡◌, subst}
use mathlib.Core.Bool.{true, false}
use mathlib.Core.List.{List, [], ◌∷◌, ◌++◌, append-nil, append_assoc}
use Prim.Native.Nat.{ℕ, suc, ◌<◌, ◌≤◌}
use native.Mathlib.Omega.{arith}
use borrow.Author.Tests.{leb-false}
use lib.Dec.{eqb, leb}
use lib.ListN.{length, get_or}
use Rattle.name.specs.Name.{valid}
use Rattle.term_rules.proofs.TestLaws.{and_second}
use Rattle.term_rules.specs.Growing.{Grows}
use Rattle.term_rules.proofs.Adding.AddingLaws.{grows-trans}
use Rattle.choice_rules.specs.Rows.{row_at}
use Rattle.choice_rules.specs.Run.{row_priced}
use Rattle.choice_rules.proofs.ListLaws.{or-fails, Each, each_both}
use Rattle.table_rules.proofs.PickedLaws.{Passes}
use Rattle.choice_rules.proofs.Demand.OrderLaws.{map-length, in_order-length}
use Rattle.build.specs.Building.{State, Out, done, full}
use Rattle.build.specs.Standing.{Tracks}
use Rattle.file_rules.specs.Table.{Table}
use Rattle.table_rules.specs.Rules.Rows.{table_row_of, table_rows}
use Rattle.table_rules.specs.Rules.Terms.{name_of}
use Rattle.table_rules.specs.Rules.Choosing.{limit, Prices}
use Rattle.table_rules.specs.Rules.Prices.{TruePrices}
use Rattle.table_rules.specs.Rules.Facts.{Known}
use Rattle.table_rules.proofs.Rules.CoverLaws.{children-length, table_rows-length}
use Rattle.answer_rules.specs.Plan.{plan_child, plan_children, plan_for}
use Rattle.answer_rules.specs.Variants.{
  file_row,
  cost_for,
  is_variant,
  variant_rows,
  key_for,
  kept_rows,
  any_dear,
  variant_in,
  variants_in,
  rows_for,
  depth_for,
}
use Rattle.answer_rules.proofs.PlanLaws.{build_rank, plan-ranked}
use Rattle.variants_root.proofs.kept_rows.SortLaws.{kept-passes}
use Rattle.extract.proofs.VariantFacts.RowLaws.{row-lower}
use Rattle.extract.proofs.VariantFacts.TermLaws.{BuiltTerm, BuiltTerms, terms-grow, terms-append}
use Rattle.extract.proofs.VariantFacts.TurnLaws.{RowRight, row_made}

pub each-of-get : (P : ℕ → Type 0) (xs : List ℕ) → ((j : ℕ) → j < length xs → P (get_or xs j 0)) → Each P xs
each-of-get P [] f = tt
each-of-get P (x ∷ xs) f = (f 0 (omega arith), each-of-get P xs (λ j l. f (suc j) (omega (arith, l))))

-- No kept row is dear.
pub not-dear :
    (t : Table) (ps : Prices) (rows : List ℕ) →
    any_dear t ps rows ≡ false →
    Each (λ (i : ℕ). cost_for t ps i < limit) rows
unfolding any_dear
not-dear t ps [] e = tt
not-dear t ps (i ∷ rows) e =
    let q = or-fails (leb limit (cost_for t ps i)) (any_dear t ps rows) e in
    (leb-false limit (cost_for t ps i) q.0, not-dear t ps rows q.1)

module _ (t : Table) (k : Known t) (In : ℕ → Type 0) (ps : Prices) (tp : TruePrices t In ps) where
  abbrev depth : ℕ
  depth = depth_for ps

  -- what is known of a kept row
  pub record Sound (i : ℕ) : Type 0 where
    pub place : i < length (rows_for t ps)
    pub priced : row_priced ps.orders (row_at (rows_for t ps) i) ≡ true
    pub cheap : cost_for t ps i < limit

  row-known : (i : ℕ) → i < length (rows_for t ps) → file_row ps i < length t.rows
  row-known i l =
      let m = tp.covers.known i (subst (λ (n : ℕ). i < n) (in_order-length (table_rows t) ps.order) l) in
      omega (arith, m, table_rows-length t)

  pub name-valid : (i : ℕ) → i < length (rows_for t ps) → valid (name_of t (file_row ps i)) ≡ true
  name-valid i l = k.name (table_row_of t (file_row ps i)).function (k.function (file_row ps i) (row-known i l))

  pub few : (i : ℕ) → i < length (rows_for t ps) → length (plan_children t (file_row ps i)) ≤ 8
  unfolding plan_children
  few i l =
      let r = row-known i l in
      rw (map-length (plan_child t) (row_at (table_rows t) (file_row ps i)).children)
      (omega (
        arith,
        children-length t k (file_row ps i) r,
        k.arity (table_row_of t (file_row ps i)).function (k.function (file_row ps i) r),
      ))

  row-right :
      (s : State) (i : ℕ) →
      Tracks (plan_for t ps) s →
      Sound i →
      RowRight (plan_for t ps) (build_rank ps) (plan-ranked t k In ps tp) depth (name_of t (file_row ps i))
      (plan_children t (file_row ps i)) s (variant_in t ps depth s i)
  unfolding variant_in
  row-right s i tr q =
      row_made (plan_for t ps) (build_rank ps) (plan-ranked t k In ps tp) depth (name_of t (file_row ps i))
      (plan_children t (file_row ps i)) s (name-valid i q.place) (few i q.place)
      (row-lower t k In ps tp i q.place q.priced q.cheap) tr

  -- what all of them leave
  pub record AllMade (s : State) (rows us : List ℕ) (s' : State) : Type 0 where
    pub grows : Grows s.lent s'.lent
    pub are : BuiltTerms t ps s'.lent rows us

  abbrev pub RowsRight : State → List ℕ → Out (List ℕ) → Type 0
  RowsRight s rows (done us s') = AllMade s rows us s'
  RowsRight s rows (full me rs ls ns) = Unit {0}

  -- the rows, after others
  abbrev RightOn : List ℕ → Type 0
  RightOn rows =
      (ys : List ℕ) (s₀ s : State) (ts : List ℕ) →
      Tracks (plan_for t ps) s →
      AllMade s₀ ys ts s →
      RowsRight s₀ (ys ++ rows) (variants_in t ps depth s ts rows)

  row-then :
      (i : ℕ) (rows ys : List ℕ) (s₀ s : State) (ts : List ℕ) →
      RightOn rows →
      AllMade s₀ ys ts s →
      (o : Out ℕ) →
      RowRight (plan_for t ps) (build_rank ps) (plan-ranked t k In ps tp) depth (name_of t (file_row ps i))
      (plan_children t (file_row ps i)) s o →
      RowsRight s₀ (ys ++ (i ∷ rows))
      (elim o as (λ _. Out (List ℕ)) [
        | done u s' ↦ variants_in t ps depth s' (ts ++ (u ∷ [])) rows
        | full me rs ls ns ↦ full me rs ls ns
      ])
  row-then i rows ys s₀ s ts on a (done u s') m =
      let own : BuiltTerm t ps s'.lent i u =
      record { below = m.below; trees = m.trees; of = m.of; means = m.means } in
      subst (λ (x : List ℕ). RowsRight s₀ x (variants_in t ps depth s' (ts ++ (u ∷ [])) rows))
      (append_assoc ys (i ∷ []) rows)
      (on (ys ++ (i ∷ [])) s₀ s' (ts ++ (u ∷ [])) m.tracks
      (record {
        grows = grows-trans a.grows m.grows;
        are = terms-append (terms-grow m.grows a.are) own;
      }))
  row-then i rows ys s₀ s ts on a (full me rs ls ns) m = tt

  pub rows_right : (rows : List ℕ) → Each Sound rows → RightOn rows
  unfolding variants_in
  rows_right [] q ys s₀ s ts tr a = rw append-nil a
  rows_right (i ∷ rows) q ys s₀ s ts tr a =
      row-then i rows ys s₀ s ts (rows_right rows q.1) a (variant_in t ps depth s i) (row-right s i tr q.0)

  variant-priced :
      (c i : ℕ) →
      is_variant t ps c i ≡ true →
      row_priced ps.orders (row_at (rows_for t ps) i) ≡ true
  unfolding is_variant
  variant-priced c i e =
      and_second (eqb (row_at (rows_for t ps) i).output c)
      (row_priced ps.orders (row_at (rows_for t ps) i)) e

  passed :
      (c n : ℕ) →
      Each (λ (i : ℕ). Passes (is_variant t ps c) i 0 (length (rows_for t ps))) (kept_rows t ps c n)
  unfolding kept_rows variant_rows
  passed c n =
      each-of-get (λ (i : ℕ). Passes (is_variant t ps c) i 0 (length (rows_for t ps))) (kept_rows t ps c n)
      (λ j l. kept-passes (key_for t ps) (is_variant t ps c) (length (rows_for t ps)) n j l)

  pub kept-sound :
      (c n : ℕ) → any_dear t ps (kept_rows t ps c n) ≡ false → Each Sound (kept_rows t ps c n)
  kept-sound c n e =
      each_both (λ (i : ℕ). Passes (is_variant t ps c) i 0 (length (rows_for t ps)))
      (λ (i : ℕ). cost_for t ps i < limit) Sound
      (λ i p l.
      record {
        place = omega (arith, p.high);
        priced = variant-priced c i p.passes;
        cheap = l;
      })
      (kept_rows t ps c n)
      (passed c n)
      (not-dear t ps (kept_rows t ps c n) e)
