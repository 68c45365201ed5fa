-- Edges: the first row that is one, and at a fixpoint every class below saturation has it. Assumes nothing.
use mathlib.Core.Path.{◌≡◌, refl, ap, sym, ◌∙◌}
use mathlib.Core.Bool.{Bool, true, false, ◌&&◌, true≢false}
use mathlib.Core.List.{List, [], ◌∷◌}
use mathlib.Core.Logic.{⊎_elim}
use Prim.Native.Nat.{ℕ, suc, zero, ◌<◌}
use native.Mathlib.Omega.{arith}
use lib.ListN.{length, get_or}
use lib.Dec.{eqb}
use borrow.Author.Tests.{ltb-true, eqb-true, lt-ltb, eq-eqb}
use Rattle.choice_rules.specs.Rows.{Child, literal, class, Row, row_at, all_of}
use Rattle.choice_rules.specs.Run.{State, row_priced, child_cost, row_cost}
use Rattle.choice_rules.specs.Edges.{child_rank, below, is_edge, first_row, edge_of, edges_of, Under, Edge}
use Rattle.choice_rules.proofs.ListLaws.{and_cases, Each, each_map, each_both, each-get, all-each, each_all}
use Rattle.choice_rules.proofs.ListLaws.{tabulate-length, tabulate-get, each-of-sum, Has, has-cases, has-none}
use Rattle.choice_rules.proofs.RelaxLaws.{Priced, AllPriced, row-priced-true, true-row-priced}
use Rattle.choice_rules.proofs.PassLaws.{Fixed}
use Rattle.choice_rules.proofs.RankLaws.{AllLower, Sourced, exact}

module _ (p : Row → Bool) where
  pub first-row-head : (r : Row) (rs : List Row) → p r ≡ true → first_row p (r ∷ rs) ≡ 0
  unfolding first_row
  first-row-head r rs e = rw (e, first_row)

  pub first-row-tail : (r : Row) (rs : List Row) → p r ≡ false → first_row p (r ∷ rs) ≡ suc (first_row p rs)
  unfolding first_row
  first-row-tail r rs e = rw (e, first_row)

  -- the first row with p has p
  pub record Found (rows : List Row) (i : ℕ) : Type 0 where
    pub known : i < length rows
    pub holds : p (row_at rows i) ≡ true

  pub first-row-holds : (rows : List Row) (r : Row) → Has rows r → p r ≡ true → Found rows (first_row p rows)
  first-row-holds [] r m e = absurd (has-none r m)
  first-row-holds (q ∷ rs) r m e = go (p q) refl (λ l. first-row-holds rs r l e)
    where
      go : (b : Bool) → p q ≡ b → (Has rs r → Found rs (first_row p rs)) → Found (q ∷ rs) (first_row p (q ∷ rs))
      go true h later = rw (first-row-head q rs h) (record { known = omega arith; holds = h })
      go false h later =
          let f = later (⊎_elim (λ x. absurd (true≢false (sym e ∙ ap p x ∙ h))) (λ l. l) (has-cases r q rs m)) in
          rw (first-row-tail q rs h) (record { known = omega (arith, f.known); holds = f.holds })

  -- no row before it has
  pub first-row-before : (rows : List Row) (j : ℕ) → j < first_row p rows → p (row_at rows j) ≡ false
  unfolding first_row
  first-row-before [] j l = absurd (omega arith)
  first-row-before (q ∷ rs) j l = go (p q) refl j l (first-row-before rs)
    where
      go : (b : Bool) → p q ≡ b → (j : ℕ) → j < first_row p (q ∷ rs)
          → ((i : ℕ) → i < first_row p rs → p (row_at rs i) ≡ false)
          → p (row_at (q ∷ rs) j) ≡ false
      go true h j l later = absurd (omega (arith, first-row-head q rs h))
      go false h zero l later = h
      go false h (suc j) l later = later j (omega (arith, first-row-tail q rs h))

module _ (M : ℕ) (s : State) (c : ℕ) (r : Row) where
  pub record EdgeRow : Type 0 where
    pub output : r.output ≡ c
    pub all-priced : AllPriced s.ranks r.children
    pub cost : row_cost M s.costs r ≡ get_or s.costs c 0
    pub lower : AllLower (get_or s.ranks c 0) s.ranks r.children

  abbrev exactly : Bool
  exactly = eqb (row_cost M s.costs r) (get_or s.costs c 0)

  abbrev all-below : Bool
  all-below = all_of (below (get_or s.ranks c 0) s.ranks) r.children

  pub edge-true : is_edge M s.costs s.ranks c r ≡ true → EdgeRow
  unfolding is_edge
  edge-true e =
      let b = get_or s.ranks c 0 in
      let p = and_cases (eqb r.output c) (row_priced s.ranks r && (exactly && all-below)) e in
      let q = and_cases (row_priced s.ranks r) (exactly && all-below) p.1 in
      let t = and_cases exactly all-below q.1 in
      record {
        output = eqb-true r.output c p.0;
        all-priced = row-priced-true s.ranks r q.0;
        cost = eqb-true (row_cost M s.costs r) (get_or s.costs c 0) t.0;
        lower = each_map (λ k. below b s.ranks k ≡ true) (λ k. child_rank s.ranks k < b)
            (λ k h. ltb-true (child_rank s.ranks k) b h) r.children
            (all-each (below b s.ranks) r.children t.1);
      }

  pub true-edge : EdgeRow → is_edge M s.costs s.ranks c r ≡ true
  unfolding is_edge
  true-edge e =
      let b = get_or s.ranks c 0 in
      rw (
        eq-eqb r.output c e.output,
        true-row-priced s.ranks r e.all-priced,
        eq-eqb (row_cost M s.costs r) (get_or s.costs c 0) e.cost,
      )
      (each_all (below b s.ranks) r.children
      (each_map (λ k. child_rank s.ranks k < b) (λ k. below b s.ranks k ≡ true)
      (λ k h. lt-ltb (child_rank s.ranks k) b h) r.children e.lower))

  -- below saturation every child of an edge is under its class
  pub all_under : get_or s.costs c 0 < M → EdgeRow → Each (Under M s.costs s.ranks (get_or s.ranks c 0)) r.children
  unfolding row_cost child_cost child_rank
  all_under h e =
      let b = get_or s.ranks c 0 in
      each_both (λ k. child_cost s.costs k < M) (λ k. Priced s.ranks k × (child_rank s.ranks k < b))
      (Under M s.costs s.ranks b) one r.children
      (each-of-sum (child_cost s.costs) M r.children (omega (arith, e.cost)))
      (each_both (Priced s.ranks) (λ k. child_rank s.ranks k < b)
      (λ k. Priced s.ranks k × (child_rank s.ranks k < b))
      (λ k x y. (x, y)) r.children e.all-priced e.lower)
    where
      one : (k : Child) → child_cost s.costs k < M
          → Priced s.ranks k × (child_rank s.ranks k < get_or s.ranks c 0)
          → Under M s.costs s.ranks (get_or s.ranks c 0) k
      one (literal i) x y = tt
      one (class d) x y = (y.0, y.1, x)

module _ (M : ℕ) (rows : List Row) (s : State) (fixed : Fixed M rows s) (g : Sourced M rows s) (c : ℕ)
    (k : 0 < get_or s.ranks c 0) (h : get_or s.costs c 0 < M) where
  edge-found : Found (is_edge M s.costs s.ranks c) rows (edge_of M s.costs s.ranks rows c)
  edge-found =
      let e = exact M rows s fixed g c k h in
      first-row-holds (is_edge M s.costs s.ranks c) rows e.row e.has
      (true-edge M s c e.row
      (record { output = e.output; all-priced = e.all-priced; cost = e.cost; lower = e.lower }))

  pub edge_row : EdgeRow M s c (row_at rows (edge_of M s.costs s.ranks rows c))
  edge_row = edge-true M s c (row_at rows (edge_of M s.costs s.ranks rows c)) edge-found.holds

  pub edge-of-fixed : Edge M s.costs s.ranks rows c (edge_of M s.costs s.ranks rows c)
  edge-of-fixed = record {
    known = edge-found.known;
    output = edge_row.output;
    cost = edge_row.cost;
    under = λ j l. each-get (Under M s.costs s.ranks (get_or s.ranks c 0)) (row_at rows (edge_of M s.costs s.ranks rows c)).children (literal 0)
        (all_under M s c (row_at rows (edge_of M s.costs s.ranks rows c)) h edge_row) j l;
  }

-- the list of all edges
module _ (M : ℕ) (s : State) (rows : List Row) where
  pub edges_length : length (edges_of M s.costs s.ranks rows) ≡ length s.ranks
  edges_length = tabulate-length (edge_of M s.costs s.ranks rows) (length s.ranks)

  pub edges-get : (c : ℕ) → c < length s.ranks → get_or (edges_of M s.costs s.ranks rows) c 0 ≡ edge_of M s.costs s.ranks rows c
  edges-get c h = tabulate-get (edge_of M s.costs s.ranks rows) (length s.ranks) c 0 h
