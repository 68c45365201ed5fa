-- Edges read off the flat lists, as a builder follows them. Assumes nothing.
use mathlib.Core.Path.{◌≡◌, refl, ap, sym, subst, ◌∙◌}
use mathlib.Core.List.{List, [], ◌∷◌, map}
use Prim.Native.Nat.{ℕ, zero, suc, ◌<◌}
use native.Mathlib.Omega.{arith}
use lib.ListN.{length, get_or, length-map}
use Rattle.choice_rules.specs.Rows.{Child, literal, Row, row_at, child_at}
use Rattle.choice_rules.specs.Run.{State}
use Rattle.choice_rules.specs.Edges.{Under, Edge}
use Rattle.price_passes.specs.Flat.{top, child_of, part_of, rows_of, FlatOk}
use Rattle.choice_rules.specs.Promises.{ended, edge_in}
use Rattle.price_passes.proofs.FlatLaws.{rows-length, rows_get}
use Rattle.price_passes.proofs.EndLaws.{flat-promises}

map_get : (xs : List ℕ) (j : ℕ) → j < length xs → get_or (map child_of xs) j (literal 0) ≡ child_of (get_or xs j 0)
map_get [] j h = absurd (omega arith)
map_get (x ∷ xs) zero h = refl
map_get (x ∷ xs) (suc j) h = map_get xs j (omega arith)

-- an edge, read off the flat lists: every child of row i is under class c
pub record FlatEdge (s : State) (outputs starts children : List ℕ) (c i : ℕ) : Type 0 where
  pub known : i < length outputs
  pub output : get_or outputs i 0 ≡ c
  pub under : (j : ℕ) → j < length (part_of starts children i)
      → Under top s.costs s.ranks (get_or s.ranks c 0) (child_of (get_or (part_of starts children i) j 0))

module _ (s : State) (outputs heads starts children : List ℕ) (c i : ℕ) where
  pub flat-edge : Edge top s.costs s.ranks (rows_of outputs heads starts children) c i → FlatEdge s outputs starts children c i
  flat-edge e =
      let h : i < length outputs = omega (arith, e.known, rows-length outputs heads starts children) in
      let g = rows_get outputs heads starts children i h in
      record {
        known = h;
        output = sym (ap (λ (r : Row). r.output) g) ∙ e.output;
        under = λ j l.
            let m = map_get (part_of starts children i) j l in
            let k = ap (λ (r : Row). child_at r j) g ∙ m in
            let n : j < length (row_at (rows_of outputs heads starts children) i).children =
            rw g (rw (length-map (part_of starts children i) child_of) l) in
            subst (λ (x : Child). Under top s.costs s.ranks (get_or s.ranks c 0) x) k (e.under j n);
      }

-- every class with a cost below 2^64-1 has its edge
module _ (n : ℕ) (outputs heads starts children : List ℕ) (ok : FlatOk n outputs heads starts children) where
  abbrev flat : List Row
  flat = rows_of outputs heads starts children

  pub flat-edge-of-class : (c : ℕ) → 0 < get_or (ended top flat n).ranks c 0 → get_or (ended top flat n).costs c 0 < top
      → FlatEdge (ended top flat n) outputs starts children c (edge_in top flat n c)
  flat-edge-of-class c k h =
      flat-edge (ended top flat n) outputs heads starts children c (edge_in top flat n c)
      ((flat-promises n outputs heads starts children ok).edge c k h)
