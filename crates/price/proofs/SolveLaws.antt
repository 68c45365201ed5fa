-- The edges of a run over flat rows. Assumes nothing.
use mathlib.Core.Path.{◌≡◌, ap, sym, ◌∙◌, subst}
use mathlib.Core.List.{List}
use Prim.Native.Nat.{ℕ, ◌<◌}
use lib.ListN.{length, get_or}
use Rattle.choice_rules.specs.Run.{State}
use Rattle.choice_rules.specs.Edges.{edge_of}
use Rattle.choice_rules.specs.Promises.{ended}
use Rattle.choice_rules.proofs.ListLaws.{tabulate-length, tabulate-get}
use Rattle.price_passes.specs.Flat.{top, rows_of, state_of, FlatOk}
use Rattle.price_passes.proofs.EndLaws.{ended_is}
use Rattle.price.proofs.edges.EndLaws.{FlatEdge, flat-edge-of-class}
use Rattle.price.specs.Solved.{Solved, Priced}

module _
    (n passes last : ℕ) (outputs heads starts children costs ranks edges : List ℕ)
    (ok : FlatOk n outputs heads starts children)
    (v : Solved n passes last outputs heads starts children costs ranks edges) where
  -- each class has a place for its edge
  pub edges-many : length edges ≡ length ranks
  edges-many =
      ap (λ (x : List ℕ). length x) v.edges_are
      ∙ tabulate-length (edge_of top costs ranks (rows_of outputs heads starts children)) (length ranks)

  -- the edge of a class that has a cost below 2^64-1
  pub edge-found :
      (c : ℕ) →
      c < length ranks →
      Priced costs ranks c →
      FlatEdge (state_of costs ranks last) outputs starts children c (get_or edges c 0)
  edge-found c h p =
      let e : state_of costs ranks last ≡ ended top (rows_of outputs heads starts children) n =
      ended_is n outputs heads starts children costs ranks last passes v.ran in
      let q =
      subst
      (λ (s : State).
      0 < get_or s.ranks c 0 →
      get_or s.costs c 0 < top →
      FlatEdge s outputs starts children c (edge_of top s.costs s.ranks (rows_of outputs heads starts children) c))
      (sym e) (flat-edge-of-class n outputs heads starts children ok c) in
      let g : get_or edges c 0 ≡ edge_of top costs ranks (rows_of outputs heads starts children) c =
      ap (λ (x : List ℕ). get_or x c 0) v.edges_are
      ∙ tabulate-get (edge_of top costs ranks (rows_of outputs heads starts children)) (length ranks) c 0 h in
      subst (λ (i : ℕ). FlatEdge (state_of costs ranks last) outputs starts children c i) (sym g)
      (q p.ranked p.below)
