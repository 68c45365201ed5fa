-- The walk that finds edges: the first row that is one stays. Assumes nothing.
use mathlib.Core.Path.{◌≡◌, refl, ap, sym, ◌∙◌}
use mathlib.Core.Bool.{Bool, true, false}
use mathlib.Core.List.{List}
use mathlib.Core.Logic.{◌⊎◌, inl, inr, ◌≢◌}
use Prim.Native.Nat.{ℕ, suc, ◌+◌, ◌<◌, ◌≤◌}
use native.Mathlib.Omega.{arith}
use native.Mathlib.Decide.{ℕ_discrete}
use borrow.Author.Tests.{eqb-true, eqb-false, ne_eqb, eq-eqb}
use lib.ListN.{length, get_or, drop, set, replicate, length-set, length-replicate, get_or-replicate}
use lib.Seq.{drop-length, get_or-set_same, get_or-set_other, ext_get_or}
use lib.Dec.{eqb}
use Rattle.choice_rules.specs.Rows.{Row, row_at, tabulate}
use Rattle.choice_rules.specs.Edges.{first_row, is_edge}
use Rattle.choice_rules.proofs.ListLaws.{tabulate-length, tabulate-get}
use Rattle.choice_rules.proofs.EdgeLaws.{first-row-head, first-row-tail}
use Rattle.price_passes.specs.declared.flat.Rows.{Rows}
use Rattle.price_passes.specs.Flat.{top, row_of, part_of, flat_of, FlatIn}
use Rattle.price.specs.Marks.{marked}
use Rattle.price_passes.proofs.FlatLaws.{rows-length, rows_get}
use Rattle.price_passes.proofs.PassLaws.{rows_drop}

-- a row is an edge of no class but its own
pub edge-of-other : (costs ranks : List ℕ) (c : ℕ) (r : Row) → c ≢ r.output → is_edge top costs ranks c r ≡ false
unfolding is_edge
edge-of-other costs ranks c r d = rw (ne_eqb r.output c (λ e. d (sym e)))

-- one row of the walk, by the ways of the code
module _ (p : ℕ → Row → Bool) (none i : ℕ) (r : Row) (edges : List ℕ) where
  pub marked-when-had : get_or edges r.output 0 ≢ none → edges ≡ marked p none i r edges
  unfolding marked
  marked-when-had d = rw (ne_eqb (get_or edges r.output 0) none d)

  module _ (e : get_or edges r.output 0 ≡ none) (b : Bool) (t : b ≡ p r.output r) where
    pub marked-when-edge : b ≡ true → set edges r.output i ≡ marked p none i r edges
    unfolding marked
    marked-when-edge h = rw (eq-eqb (get_or edges r.output 0) none e, ← t, h)

    pub marked-when-none : b ≡ false → edges ≡ marked p none i r edges
    unfolding marked
    marked-when-none h = rw (eq-eqb (get_or edges r.output 0) none e, ← t, h)

module _ (p : Row → Bool) (rows : List Row) where
  first-when-here : (i : ℕ) → i < length rows → p (row_at rows i) ≡ true → first_row p (drop i rows) ≡ 0
  first-when-here i h e = ap (first_row p) (rows_drop rows i h) ∙ first-row-head p (row_at rows i) (drop (i + 1) rows) e

  first-when-later : (i : ℕ) → i < length rows → p (row_at rows i) ≡ false
      → first_row p (drop i rows) ≡ suc (first_row p (drop (i + 1) rows))
  first-when-later i h e = ap (first_row p) (rows_drop rows i h) ∙ first-row-tail p (row_at rows i) (drop (i + 1) rows) e

  first-at-end : (i : ℕ) → i ≡ length rows → first_row p (drop i rows) ≡ 0
  unfolding first_row
  first-at-end i e = ap (first_row p) (ap (λ (j : ℕ). drop j rows) e ∙ drop-length rows)

module _ (p : ℕ → Row → Bool) (rows : List Row) where
  -- x is the first row with p of class c
  pub record Found (c x : ℕ) : Type 0 where
    pub first : x ≡ first_row (p c) rows
    pub known : x < length rows

  -- no row before the i-th has it, and x says so
  pub record Sought (i c x : ℕ) : Type 0 where
    pub nothing : x ≡ length rows
    pub rest : i + first_row (p c) (drop i rows) ≡ first_row (p c) rows

  abbrev pub Looked : ℕ → ℕ → ℕ → Type 0
  Looked i c x = Found c x ⊎ Sought i c x

  looked-later : (i c x : ℕ) → i < length rows → p c (row_at rows i) ≡ false → Looked i c x → Looked (i + 1) c x
  looked-later i c x h e (inl f) = inl f
  looked-later i c x h e (inr s) =
      let q = first-when-later (p c) rows i h e in
      inr (record { nothing = s.nothing; rest = omega (arith, s.rest) })

  looked-here : (i c x : ℕ) → i < length rows → p c (row_at rows i) ≡ true → x ≡ length rows → Looked i c x
      → Looked (i + 1) c i
  looked-here i c x h e n (inl f) = absurd (omega (arith, f.known))
  looked-here i c x h e n (inr s) =
      let q = first-when-here (p c) rows i h e in
      inl (record { first = omega (arith, s.rest); known = h })

  looked-kept : (i c x : ℕ) → x ≢ length rows → Looked i c x → Looked (i + 1) c x
  looked-kept i c x n (inl f) = inl f
  looked-kept i c x n (inr s) = absurd (n s.nothing)

  looked-at-end : (i c x : ℕ) → i ≡ length rows → Looked i c x → x ≡ first_row (p c) rows
  looked-at-end i c x e (inl f) = f.first
  looked-at-end i c x e (inr s) = let q = first-at-end (p c) rows i e in omega (arith, s.rest, s.nothing)

  -- every class has been looked for among the rows before the i-th
  pub record Walked (n : ℕ) (edges : List ℕ) (i : ℕ) : Type 0 where
    pub at : i ≤ length rows
    pub long : length edges ≡ n
    pub each : (c : ℕ) → c < n → Looked i c (get_or edges c 0)

  pub walk_begins : (n : ℕ) → Walked n (replicate n (length rows)) 0
  walk_begins n = record {
    at = omega arith;
    long = length-replicate n (length rows);
    each = λ c h. inr (record { nothing = get_or-replicate n c (length rows) 0 h; rest = omega arith });
  }

  pub walk_ends : (n : ℕ) (edges : List ℕ) (i : ℕ) → length rows ≤ i → Walked n edges i
      → edges ≡ tabulate (λ c. first_row (p c) rows) n
  walk_ends n edges i h v =
      ext_get_or 0 edges (tabulate (λ c. first_row (p c) rows) n)
      (v.long ∙ sym (tabulate-length (λ c. first_row (p c) rows) n))
      (λ c k.
      let l : c < n = omega (arith, v.long) in
      looked-at-end i c (get_or edges c 0) (omega (arith, v.at)) (v.each c l)
      ∙ sym (tabulate-get (λ c. first_row (p c) rows) n c 0 l))

  module _ (other : (c : ℕ) (r : Row) → c ≢ r.output → p c r ≡ false) (n : ℕ) (edges : List ℕ) (i : ℕ)
      (h : i < length rows)
      (v : Walked n edges i) (inside : (row_at rows i).output < n) where
    abbrev row : Row
    row = row_at rows i

    -- where the walk leaves the edges as they are
    walk_same : ((c : ℕ) → c < n → Looked (i + 1) c (get_or edges c 0)) → Walked n edges (i + 1)
    walk_same f = record { at = omega arith; long = v.long; each = f }

    walk-had : get_or edges row.output 0 ≢ length rows → Walked n edges (i + 1)
    walk-had d = walk_same (λ c l. go c l (ℕ_discrete c row.output))
      where
        go : (c : ℕ) → c < n → Dec (c ≡ row.output) → Looked (i + 1) c (get_or edges c 0)
        go c l (yes e) = looked-kept i c (get_or edges c 0) (λ q. d (ap (λ (y : ℕ). get_or edges y 0) (sym e) ∙ q))
            (v.each c l)
        go c l (no e) = looked-later i c (get_or edges c 0) h (other c row e) (v.each c l)

    walk-passes : p row.output row ≡ false → Walked n edges (i + 1)
    walk-passes b = walk_same (λ c l. go c l (ℕ_discrete c row.output))
      where
        go : (c : ℕ) → c < n → Dec (c ≡ row.output) → Looked (i + 1) c (get_or edges c 0)
        go c l (yes e) = looked-later i c (get_or edges c 0) h (ap (λ (y : ℕ). p y row) e ∙ b) (v.each c l)
        go c l (no e) = looked-later i c (get_or edges c 0) h (other c row e) (v.each c l)

    walk-takes : get_or edges row.output 0 ≡ length rows → p row.output row ≡ true
        → Walked n (set edges row.output i) (i + 1)
    walk-takes z b = record {
      at = omega arith;
      long = length-set edges row.output i ∙ v.long;
      each = λ c l. go c l (ℕ_discrete c row.output);
    }
      where
        go : (c : ℕ) → c < n → Dec (c ≡ row.output) → Looked (i + 1) c (get_or (set edges row.output i) c 0)
        go c l (yes e) =
            rw (e, get_or-set_same edges row.output i 0 (omega (arith, v.long)))
            (looked-here i row.output (get_or edges row.output 0) h b z (v.each row.output inside))
        go c l (no e) = rw (get_or-set_other edges row.output c i 0 e)
            (looked-later i c (get_or edges c 0) h (other c row e) (v.each c l))

    pub walk-goes-on : Walked n (marked p (length rows) i row edges) (i + 1)
    unfolding marked
    walk-goes-on = go (eqb (get_or edges row.output 0) (length rows)) refl (p row.output row) refl
      where
        go : (a : Bool) → eqb (get_or edges row.output 0) (length rows) ≡ a → (b : Bool) → p row.output row ≡ b
            → Walked n (marked p (length rows) i row edges) (i + 1)
        go false e b f = rw e (walk-had (eqb-false (get_or edges row.output 0) (length rows) e))
        go true e false f = rw (e, f) (walk-passes f)
        go true e true f = rw (e, f) (walk-takes (eqb-true (get_or edges row.output 0) (length rows) e) f)

-- the walk over flat rows
module _ (costs ranks : List ℕ) (r : Rows) where
  abbrev flat : List Row
  flat = flat_of r

  abbrev is : ℕ → Row → Bool
  is = is_edge top costs ranks

  pub flat-walk-begins : (edges : List ℕ) (n none : ℕ) → none ≡ length r.outputs.now → n ≡ length ranks
      → edges ≡ replicate n none
      → Walked is flat (length ranks) edges 0
  flat-walk-begins edges n none a b e =
      let c : none ≡ length flat = a ∙ sym (rows-length r.outputs.now r.heads.now r.starts.now r.children.now) in
      rw (e, b, c) (walk_begins is flat (length ranks))

  module _ (edges : List ℕ) (i : ℕ) (v : Walked is flat (length ranks) edges i) where
    pub flat-walk-goes-on : (none : ℕ) → none ≡ length r.outputs.now → i < length r.outputs.now
        → FlatIn (length ranks) r
        → (after : List ℕ)
        → after ≡ marked is none i (row_of (get_or r.outputs.now i 0) (get_or r.heads.now i 0) (part_of r.starts.now r.children.now i)) edges
        → Walked is flat (length ranks) after (i + 1)
    flat-walk-goes-on none a h ok after e =
        let l = rows-length r.outputs.now r.heads.now r.starts.now r.children.now in
        let g = rows_get r.outputs.now r.heads.now r.starts.now r.children.now i h in
        let c : none ≡ length flat = a ∙ sym l in
        let o = ap (λ (q : Row). q.output) g in
        let w = walk-goes-on is flat (edge-of-other costs ranks) (length ranks) edges i (omega arith) v
        (omega (arith, ok.outputs_in i h)) in
        rw (e, c, ← g) w

    pub flat-walk-ends : length r.outputs.now ≤ i → edges ≡ tabulate (λ c. first_row (is c) flat) (length ranks)
    flat-walk-ends h = walk_ends is flat (length ranks) edges i
        (omega (arith, rows-length r.outputs.now r.heads.now r.starts.now r.children.now)) v
