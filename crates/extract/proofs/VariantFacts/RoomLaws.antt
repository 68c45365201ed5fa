-- The terms of rows, built in turn: they come back in a store of the same room, or no store of that room that keeps
-- the first one's terms and names holds them all. Assumes nothing.
use Prim.Native.Nat.{ℕ}
use mathlib.Core.Path.{◌≡◌, subst}
use mathlib.Core.Bool.{true, false}
use mathlib.Core.List.{List, [], ◌∷◌, ◌++◌, map}
use lib.ListN.{replicate}
use lib.IntN.{ℤ}
use Rattle.term_rules.specs.Lent.{Store}
use Rattle.term_rules.specs.WellFormed.{well_formed}
use Rattle.term_rules.specs.Nodes.{Tree, applied, Trees, Means}
use Rattle.term_rules.proofs.FactsLaws.{sound-of-well_formed}
use Rattle.choice_rules.specs.Rows.{row_at}
use Rattle.choice_rules.specs.Deriving.{Forest}
use Rattle.choice_rules.specs.Edges.{ChosenAll}
use Rattle.choice_rules.proofs.ListLaws.{Each}
use Rattle.build.specs.Plan.{TreesOf}
use Rattle.build.specs.Building.{State, state, Out, done, full}
use Rattle.build.specs.Standing.{Tracks}
use Rattle.build.proofs.StandingLaws.{trees_of-unique}
use Rattle.build.proofs.BuildingLaws.{tracks-of-zeros}
use Rattle.file_rules.specs.Table.{Table}
use Rattle.table_rules.specs.Rules.Rows.{table_rows}
use Rattle.table_rules.specs.Rules.Terms.{name_of, term_of, terms_of}
use Rattle.table_rules.specs.Rules.Choosing.{Prices}
use Rattle.table_rules.specs.Rules.Prices.{TruePrices}
use Rattle.table_rules.specs.Rules.Facts.{Known}
use Rattle.answer_rules.specs.Plan.{plan_children, plan_for}
use Rattle.answer_rules.specs.Variants.{file_row, kept_rows, any_dear, variant_in, variants_in, depth_for}
use Rattle.answer_rules.proofs.TermLaws.{chosen-terms}
use Rattle.answer_rules.proofs.PlanLaws.{build_rank, plan-ranked}
use Rattle.extract.specs.Terms.{RowTerm, RowTerms, no_terms, more_terms, NoRoomForRows}
use Rattle.extract.specs.Told.{built_rows}
use Rattle.extract.proofs.VariantFacts.RowLaws.{row-lower}
use Rattle.extract.proofs.VariantFacts.TermLaws.{BuiltTerm, BuiltTerms, no_built, more_built}
use Rattle.extract.proofs.VariantFacts.TurnLaws.{RowRight, row_made}
use Rattle.extract.proofs.VariantFacts.ReturnLaws.{name-valid, few, Sound, kept-sound}
use Rattle.extract.proofs.VariantFacts.CallLaws.{built-made}
use Rattle.answer_rules.specs.Room.{Holds, Fits}
use Rattle.answer_rules.proofs.Room.HoldLaws.{AllTrees, children-held}
use Rattle.answer_rules.proofs.Room.StepLaws.{Within, within-of-fits, fits-self}
use Rattle.answer_rules.proofs.Room.BuildLaws.{Good, Step, row-good}
use Rattle.answer_rules.proofs.Room.WholeLaws.{all-trees, within_step, fits-step}

-- what the rows leave: G of the store, or Bad where there was no room
abbrev GoodRows : (Store → Type 0) → Type 0 → Out (List ℕ) → Type 0
GoodRows G Bad (done us s) = G s.lent
GoodRows G Bad (full me rs ls ns) = Bad

module _ (t : Table) (k : Known t) (In : ℕ → Type 0) (ps : Prices) (tp : TruePrices t In ps) where
  abbrev depth : ℕ
  depth = depth_for ps

  -- a row has a tree that is needed
  record NeededRow (Need : Tree → Type 0) (i : ℕ) : Type 0 where
    trees : Trees
    of : TreesOf (plan_for t ps) (plan_children t (file_row ps i)) trees
    need : Need (applied (name_of t (file_row ps i)) trees)

  module _
      (G : Store → Type 0) (Need : Tree → Type 0) (Bad : Type 0)
      (down : (n : List ℕ) (ts : Trees) → Need (applied n ts) → AllTrees Need ts) (step : Step G Need Bad) where
    abbrev RowRightOf : State → ℕ → Out ℕ → Type 0
    RowRightOf s i o =
        RowRight (plan_for t ps) (build_rank ps) (plan-ranked t k In ps tp) depth (name_of t (file_row ps i))
        (plan_children t (file_row ps i)) s o

    row-right : (s : State) (i : ℕ) → Tracks (plan_for t ps) s → Sound t k In ps tp i →
        RowRightOf s i (variant_in t ps depth s i)
    unfolding variant_in
    row-right s i tr q =
        row_made (plan_for t ps) (build_rank ps) (plan-ranked t k In ps tp) depth (name_of t (file_row ps i))
        (plan_children t (file_row ps i)) s (name-valid t k In ps tp i q.place) (few t k In ps tp i q.place)
        (row-lower t k In ps tp i q.place q.priced q.cheap) tr

    row_keeps :
        (s : State) (i : ℕ) → Tracks (plan_for t ps) s → Sound t k In ps tp i → NeededRow Need i → G s.lent →
        Good G Bad (variant_in t ps depth s i)
    unfolding variant_in
    row_keeps s i tr q n g =
        row-good (plan_for t ps) (build_rank ps) (plan-ranked t k In ps tp) G Need Bad down step depth
        (name_of t (file_row ps i)) (plan_children t (file_row ps i)) n.trees s (name-valid t k In ps tp i q.place)
        (few t k In ps tp i q.place) (row-lower t k In ps tp i q.place q.priced q.cheap) n.of n.need tr g

    row-then :
        (rows : List ℕ) (i : ℕ) (s : State) (us : List ℕ) →
        ((s' : State) (vs : List ℕ) → Tracks (plan_for t ps) s' → G s'.lent →
        GoodRows G Bad (variants_in t ps depth s' vs rows)) →
        (o : Out ℕ) →
        RowRightOf s i o →
        Good G Bad o →
        GoodRows G Bad
        (elim o as (λ _. Out (List ℕ)) [
          | done u s' ↦ variants_in t ps depth s' (us ++ (u ∷ [])) rows
          | full me rs ls ns ↦ full me rs ls ns
        ])
    row-then rows i s us on (done u s') m g = on s' (us ++ (u ∷ [])) m.tracks g
    row-then rows i s us on (full me rs ls ns) m g = g

    rows-keep :
        (rows : List ℕ) → Each (Sound t k In ps tp) rows → Each (NeededRow Need) rows →
        (s : State) (us : List ℕ) → Tracks (plan_for t ps) s → G s.lent →
        GoodRows G Bad (variants_in t ps depth s us rows)
    unfolding variants_in
    rows-keep [] q n s us tr g = g
    rows-keep (i ∷ rows) q n s us tr g =
        row-then rows i s us (rows-keep rows q.1 n.1) (variant_in t ps depth s i) (row-right s i tr q.0)
        (row_keeps s i tr q.0 n.0 g)

  -- the terms of rows, over the chosen trees and as the builder sees them
  built-of-row : {s : Store} (i : ℕ) {u : ℕ} → RowTerm t ps s (file_row ps i) u → BuiltTerm t ps s i u
  unfolding plan_children term_of
  built-of-row i r = record {
    below = r.below;
    trees = terms_of t r.children;
    of = chosen-terms t ps r.children (row_at (table_rows t) (file_row ps i)).children r.chosen;
    means = r.means;
  }

  pub built-of-rows :
      {s : Store} (rows : List ℕ) {us : List ℕ} →
      RowTerms t ps s (map (file_row ps) rows) us →
      BuiltTerms t ps s rows us
  built-of-rows [] no_terms = no_built
  built-of-rows (i ∷ rows) (more_terms r rs) = more_built (built-of-row i r) (built-of-rows rows rs)

  -- the edges' rows choose trees for the children of row i
  abbrev pub ChosenRow : ℕ → Type 0
  ChosenRow i =
      (f : Forest) × ChosenAll (table_rows t) ps.row f (row_at (table_rows t) (file_row ps i)).children

  row-of-built : {s : Store} {i u : ℕ} → ChosenRow i → BuiltTerm t ps s i u → RowTerm t ps s (file_row ps i) u
  unfolding plan_children term_of
  row-of-built {s = s} {i = i} {u = u} q b = record {
    children = q.0;
    chosen = q.1;
    below = b.below;
    means =
        subst (λ (x : Trees). Means s u (applied (name_of t (file_row ps i)) x))
        (trees_of-unique b.of
        (chosen-terms t ps q.0 (row_at (table_rows t) (file_row ps i)).children q.1))
        b.means;
  }

  pub rows-of-built :
      {s : Store} {rows us : List ℕ} →
      Each ChosenRow rows →
      BuiltTerms t ps s rows us →
      RowTerms t ps s (map (file_row ps) rows) us
  rows-of-built q no_built = no_terms
  rows-of-built q (more_built b bs) = more_terms (row-of-built q.0 b) (rows-of-built q.1 bs)

  -- the terms of rows that a store holds
  rows-needed :
      (Need : Tree → Type 0) {s : Store} {rows us : List ℕ} →
      ((u : Tree) → Holds s u → Need u) → BuiltTerms t ps s rows us → Each (NeededRow Need) rows
  rows-needed Need f no_built = tt
  rows-needed Need f (more_built {i = i} {u = u} r rs) = (
    record {
      trees = r.trees;
      of = r.of;
      need =
          f (applied (name_of t (file_row ps i)) r.trees)
          (record { place = u; below = r.below; means = r.means });
    },
    rows-needed Need f rs,
  )

  module _ (c n : ℕ) (s : Store) (f : well_formed s ≡ true) (cheap : any_dear t ps (kept_rows t ps c n) ≡ false) where
    abbrev rows : List ℕ
    rows = kept_rows t ps c n

    start : Tracks (plan_for t ps) (state (replicate 512 0) s)
    start = tracks-of-zeros (plan_for t ps) 512 s f

    -- rows whose terms a store holds are not refused
    never-full :
        (s' : Store) (us : List ℕ) → Fits s s' → BuiltTerms t ps s' rows us →
        GoodRows (λ (b : Store). Within b s') ⊥ (built_rows t ps rows s)
    never-full s' us g r =
        rows-keep (λ (b : Store). Within b s') (Holds s') ⊥
        (children-held s' (sound-of-well_formed s' g.formed)) (within_step s' g.formed) rows
        (kept-sound t k In ps tp c n cheap) (rows-needed (Holds s') (λ u q. q) r) (state (replicate 512 0) s) [] start
        (within-of-fits s s' f g)

    pub rows-full :
        (me rs : List ℕ) (ls : List ℤ) (ns : List ℕ) → built_rows t ps rows s ≡ full me rs ls ns →
        NoRoomForRows t ps s (map (file_row ps) rows)
    rows-full me rs ls ns e s' us g r =
        subst (λ (o : Out (List ℕ)). GoodRows (λ (b : Store). Within b s') ⊥ o) e (never-full s' us g (built-of-rows rows r))

    pub rows-there :
        (us : List ℕ) (st : State) → built_rows t ps rows s ≡ done us st → BuiltTerms t ps st.lent rows us
    rows-there us st e = (built-made t k In ps tp c n s f cheap us st e).are

    pub rows_fit : (us : List ℕ) (st : State) → built_rows t ps rows s ≡ done us st → Fits s st.lent
    rows_fit us st e =
        subst (λ (o : Out (List ℕ)). GoodRows (Fits s) Unit o) e
        (rows-keep (Fits s) (λ (u : Tree). Unit) Unit (λ m ts q. all-trees ts) (fits-step s) rows
        (kept-sound t k In ps tp c n cheap) (rows-needed (λ (u : Tree). Unit) (λ u q. tt) (rows-there us st e))
        (state (replicate 512 0) s) [] start (fits-self s f))
