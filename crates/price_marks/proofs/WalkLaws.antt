-- A pass over the marked rows: those from the i-th on make the rest of the plain pass. Assumes nothing.
use mathlib.Core.Path.{◌≡◌, refl, ap, sym, ◌∙◌}
use mathlib.Core.List.{List}
use Prim.Native.Nat.{ℕ, ◌+◌, ◌-◌, ◌<◌, ◌≤◌}
use native.Mathlib.Omega.{arith}
use lib.ListN.{length, drop, drop_of_length-le}
use Rattle.choice_rules.specs.Rows.{Row, row_at}
use Rattle.choice_rules.specs.Run.{State, pass}
use Rattle.choice_rules.proofs.RelaxLaws.{relax-last}
use Rattle.price_passes.specs.declared.flat.Rows.{Rows}
use Rattle.price_passes.specs.Flat.{top, flat_of}
use Rattle.price_passes.proofs.PassLaws.{rows_drop}
use Rattle.price_marks.specs.declared.users.Users.{Users}
use Rattle.price_marks.specs.Marks.{Off, Room, Covered, Next}
use Rattle.price_marks.specs.Passes.{Ready, Turned, Passed}
use Rattle.price_marks.proofs.SkipLaws.{pass-leaves-out}

module _ (rows : List Row) (s₀ : State) where
  -- within a pass that began at s₀, before row i
  pub record Walked (s : State) (marks blocks : List ℕ) (i : ℕ) : Type 0 where
    pub at : i ≤ 1024
    pub costs_length : length s.costs ≡ length s₀.costs
    pub ranks_length : length s.ranks ≡ length s₀.ranks
    pub low : s.last ≤ s₀.last + i
    pub rest : pass top (drop i rows) s ≡ pass top rows s₀
    pub covered : Covered top rows s (Off marks blocks)
    pub room : Room marks blocks

  pub walk_begins : (marks blocks : List ℕ) → Covered top rows s₀ (Off marks blocks) → Room marks blocks
      → Walked s₀ marks blocks 0
  walk_begins marks blocks v room = record {
    at = omega arith;
    costs_length = refl;
    ranks_length = refl;
    low = omega arith;
    rest = refl;
    covered = v;
    room = room;
  }

  module _ (s : State) (marks blocks : List ℕ) (i : ℕ) (v : Walked s marks blocks i) where
    -- rows that are off are left out
    pub walk-skips : (blocks' : List ℕ) (r : ℕ) → Next marks blocks blocks' i r → length blocks' ≡ length blocks
        → Walked s marks blocks' r
    walk-skips blocks' r k l = record {
      at = k.top;
      costs_length = v.costs_length;
      ranks_length = v.ranks_length;
      low = omega (arith, v.low, k.forward);
      rest = out ∙ v.rest;
      covered = seen;
      room = record { marks_room = v.room.marks_room; blocks_room = l ∙ v.room.blocks_room };
    }
      where
        seen : Covered top rows s (Off marks blocks')
        seen = λ j h o. v.covered j h (k.kept j o)

        out : pass top (drop r rows) s ≡ pass top (drop i rows) s
        out =
            let e : r ≡ i + (r - i) = omega (arith, k.forward) in
            ap (λ (z : ℕ). pass top (drop z rows) s) e
            ∙ pass-leaves-out top rows s (Off marks blocks') seen (r - i) i (λ j a b. k.skipped j a (omega arith))

    -- row i is relaxed
    pub walk-goes-on : i < length rows → i < 1024 → (t : State) (marks' blocks' : List ℕ)
        → Turned rows i s t marks' blocks' → length t.costs ≡ length s.costs
        → length t.ranks ≡ length s.ranks → Walked t marks' blocks' (i + 1)
    unfolding pass
    walk-goes-on h few t marks' blocks' k lc lr = record {
      at = omega arith;
      costs_length = lc ∙ v.costs_length;
      ranks_length = lr ∙ v.ranks_length;
      low = omega (arith, v.low, (relax-last top s (row_at rows i)).1, ap (λ (u : State). u.last) k.relaxed);
      rest = ap (λ (u : State). pass top (drop (i + 1) rows) u) k.relaxed
          ∙ sym (ap (λ (l : List Row). pass top l s) (rows_drop rows i h)) ∙ v.rest;
      covered = k.covered;
      room = k.room;
    }

    pub walk_ends : length rows ≤ i → Passed rows s₀ s marks blocks
    unfolding pass
    walk_ends h = record {
      passed = sym (ap (λ (l : List Row). pass top l s) (drop_of_length-le rows {i = i} h)) ∙ v.rest;
      covered = v.covered;
      room = v.room;
    }

-- what relaxing row i asks
pub walk-asks : (r : Rows) (us : Users) (marks blocks : List ℕ) (s₀ s : State) (i : ℕ)
    → Walked (flat_of r) s₀ s marks blocks i → i < length r.outputs.now
    → s₀.last + length r.outputs.now < top → length s₀.costs ≡ length s₀.ranks
    → Ready (length s₀.ranks) r us
    → (s.last < top) × ((length s.costs ≡ length s.ranks) × ((i < length r.outputs.now)
    × (Ready (length s.ranks) r us
    × (Room marks blocks × Covered top (flat_of r) s (Off marks blocks)))))
walk-asks r us marks blocks s₀ s i v h l e ok = (
  omega (arith, v.low),
  (
    omega (arith, v.costs_length, v.ranks_length),
    (h, (rw v.ranks_length ok, (v.room, v.covered))),
  ),
)
