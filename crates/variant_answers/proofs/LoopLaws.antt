-- Laws on the loops over kept rows: whether one is too dear, and their costs. Assumes nothing.
use mathlib.Core.Path.{◌≡◌, sym, ap, ◌∙◌}
use mathlib.Core.Bool.{true, false}
use mathlib.Core.List.{List}
use Prim.Native.Nat.{ℕ, ◌+◌, ◌<◌, ◌≤◌}
use native.Mathlib.Nat.{zero-add}
use native.Mathlib.Numerals.{add-one}
use native.Mathlib.Omega.{arith}
use borrow.Author.Tests.{le-leb, lt-leb}
use lib.ListN.{length, get_or, set, drop, drop_of_length-le}
use lib.Seq.{paste, paste-suc}
use Rattle.price_passes.specs.Flat.{top}
use Rattle.choice_rules.proofs.Demand.OrderLaws.{map_get, map-length}
use Rattle.variant_terms.proofs.TurnLaws.{rows_next}
use Rattle.variant_answers.specs.Kept.{dear_in, prices_of}

module _ (prices rows : List ℕ) (j : ℕ) where
  module _ (h : j < length rows) where
    pub dear-here : top ≤ get_or prices (get_or rows j 0) 0 → true ≡ dear_in prices (drop j rows)
    unfolding dear_in
    dear-here l = rw (rows_next rows j h, le-leb top (get_or prices (get_or rows j 0) 0) l)

    pub dear-on : get_or prices (get_or rows j 0) 0 < top → dear_in prices (drop (j + 1) rows) ≡ dear_in prices (drop j rows)
    unfolding dear_in
    dear-on l = rw (rows_next rows j h, lt-leb top (get_or prices (get_or rows j 0) 0) l)

  pub dear-end : length rows ≤ j → false ≡ dear_in prices (drop j rows)
  unfolding dear_in
  dear-end h = rw (drop_of_length-le rows {i = j} h)

-- one cost more
pub costs-more :
    (prices rows out : List ℕ) (j : ℕ) →
    j < length rows →
    length rows ≤ length out →
    set (paste out 0 (prices_of prices rows) j) j (get_or prices (get_or rows j 0) 0)
    ≡ paste out 0 (prices_of prices rows) (j + 1)
costs-more prices rows out j h l =
    let n : length (prices_of prices rows) ≡ length rows = map-length (λ (i : ℕ). get_or prices i 0) rows in
    ap (λ (w : ℕ). set (paste out 0 (prices_of prices rows) j) j w)
    (sym (map_get (λ (i : ℕ). get_or prices i 0) rows j 0 0 h))
    ∙ ap (λ (k : ℕ). set (paste out 0 (prices_of prices rows) j) k (get_or (prices_of prices rows) j 0)) (sym (zero-add j))
    ∙ paste-suc out 0 (prices_of prices rows) j 0 (omega (arith, n)) (omega (arith, n))
    ∙ ap (paste out 0 (prices_of prices rows)) (sym (add-one j))
