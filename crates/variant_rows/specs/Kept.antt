-- The rows that are kept, over flat lists and packed rows: document 01, 'Costs and choice', last paragraph. Assumes nothing:
-- definitions.
use Rattle.std.specs.Prelude.{◌≡◌, List, ℕ, ◌≤◌, length, take}
use Rattle.table_rules.specs.Order.{picked}
use Rattle.order.specs.Sort.{sorted}
use Rattle.variant_order.specs.Keys.{no_later}
use Rattle.variant_order.specs.Arrays.{key_in, KeysIn}
use Rattle.variant_rows.specs.Candidates.{PartsIn, Prices, is_candidate}

-- What is asked: n rows have their parts in the lists and packed, and places for the costs and the numbers of all of them.
pub record KeptReady
    (n : ℕ) (costs ranks heads starts children rows labels cells prices list : List ℕ) : Type 0 where
  pub parts : PartsIn (length costs) n starts children
  pub ranks_length : length ranks ≡ length costs
  pub heads_length : length heads ≡ n
  pub keys : KeysIn prices rows labels cells n
  pub list_long : n ≤ length list

-- "every usable row of it with a cost, sorted by cost, function name bytes, row cells ..., then the first n"
abbrev pub kept_in :
    List ℕ → List ℕ → List ℕ → List ℕ → List ℕ → List ℕ → List ℕ → List ℕ → ℕ → ℕ → List ℕ
kept_in prices ranks outputs starts children rows labels cells c most =
    take most
    (sorted (no_later (key_in prices rows labels cells))
    (picked (is_candidate ranks outputs starts children c) 0 (length outputs)))

-- Every row's cost stands in `prices`, and the first k numbers of the list are the kept rows.
pub record Keeps
    (costs ranks outputs heads starts children rows labels cells : List ℕ) (c most k : ℕ)
    (prices list : List ℕ) : Type 0 where
  pub priced : Prices costs heads starts children (length outputs) prices
  pub room : k ≤ length list
  pub are : take k list ≡ kept_in prices ranks outputs starts children rows labels cells c most
