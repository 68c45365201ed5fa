-- Marks along a chain: who is on it is marked. Assumes nothing.
use mathlib.Core.Path.{◌≡◌, refl, ap, sym, ◌∙◌, subst}
use mathlib.Core.List.{List}
use mathlib.Core.Logic.{◌⊎◌, inl, inr, ⊎_elim, ◌≢◌}
use Prim.Native.Nat.{ℕ, ◌+◌, ◌-◌, ◌/◌, ◌≤◌, ◌<◌}
use native.Mathlib.Omega.{arith}
use native.Mathlib.Decide.{ℕ_discrete}
use lib.ListN.{length, get_or, set, length-set}
use lib.Seq.{get_or-set_same, get_or-set_other}
use Rattle.price_marks.specs.Marks.{Off, Room}
use Rattle.price_marks.specs.Links.{Meets, here, there, LinksOk, MarkedFrom}

-- a mark set: what is off afterwards was off before, and is another row
pub set-kept : (marks blocks : List ℕ) (i : ℕ) → Room marks blocks → i < 1024 → (j : ℕ)
    → Off (set marks i 1) (set blocks (i / 32) 1) j → Off marks blocks j × (i ≢ j)
set-kept marks blocks i room h j o =
    ⊎_elim (λ x. by-block x (ℕ_discrete (j / 32) (i / 32))) (λ x. by-mark x (ℕ_discrete j i)) o
  where
    by-block : get_or (set blocks (i / 32) 1) (j / 32) 0 ≡ 0 → Dec (j / 32 ≡ i / 32) → Off marks blocks j × (i ≢ j)
    by-block x (yes e) =
        absurd (omega (arith, get_or-set_same blocks (i / 32) 1 0 (omega (arith, room.blocks_room)), rw e at x))
    by-block x (no d) = (inl (sym (get_or-set_other blocks (i / 32) (j / 32) 1 0 d) ∙ x), λ e. d (rw e refl))

    by-mark : get_or (set marks i 1) j 0 ≡ 0 → Dec (j ≡ i) → Off marks blocks j × (i ≢ j)
    by-mark x (yes e) =
        absurd (omega (arith, get_or-set_same marks i 1 0 (omega (arith, room.marks_room)), rw e at x))
    by-mark x (no d) = (inr (sym (get_or-set_other marks i j 1 0 d) ∙ x), λ e. d (sym e))

-- along the chain from h, down to g
module _ (next owner : List ℕ) (h : ℕ) (marks₀ blocks₀ : List ℕ) where
  pub record DownTo (g : ℕ) (marks blocks : List ℕ) : Type 0 where
    pub low : g ≤ length next
    pub room : Room marks blocks
    pub kept : (j : ℕ) → Off marks blocks j → Off marks₀ blocks₀ j
    pub left : (j p : ℕ) → Off marks blocks j → Meets next p h → (get_or owner p 0 ≢ j) ⊎ Meets next p g

  pub down-begins : Room marks₀ blocks₀ → LinksOk next owner h → DownTo h marks₀ blocks₀
  down-begins room ok = record { low = ok.low; room = room; kept = λ j o. o; left = λ j p o m. inr m }

  down_step : (q : ℕ) (marks blocks : List ℕ) → LinksOk next owner h → q < length next
      → DownTo (q + 1) marks blocks
      → DownTo (get_or next q 0) (set marks (get_or owner q 0) 1) (set blocks (get_or owner q 0 / 32) 1)
  down_step q marks blocks ok l v = record {
    low = omega (arith, ok.next_low q);
    room = record {
      marks_room = length-set marks (get_or owner q 0) 1 ∙ v.room.marks_room;
      blocks_room = length-set blocks (get_or owner q 0 / 32) 1 ∙ v.room.blocks_room;
    };
    kept = λ j o. v.kept j (was j o).0;
    left = λ j p o m. ⊎_elim (λ d. inl d) (λ k. one j p o k) (v.left j p (was j o).0 m);
  }
    where
      was : (j : ℕ) → Off (set marks (get_or owner q 0) 1) (set blocks (get_or owner q 0 / 32) 1) j
          → Off marks blocks j × (get_or owner q 0 ≢ j)
      was j o = set-kept marks blocks (get_or owner q 0) v.room (ok.owner_low q) j o

      one : (j p : ℕ) → Off (set marks (get_or owner q 0) 1) (set blocks (get_or owner q 0 / 32) 1) j
          → Meets next p (q + 1) → (get_or owner p 0 ≢ j) ⊎ Meets next p (get_or next q 0)
      one j p o (here e) =
          let k : q ≡ p = omega arith in inl (λ x. (was j o).1 (ap (λ (y : ℕ). get_or owner y 0) k ∙ x))
      one j p o (there r e m) =
          let k : r ≡ q = omega arith in inr (rw k at m)

  pub down-goes-on : (g : ℕ) (marks blocks : List ℕ) → LinksOk next owner h → 0 < g → DownTo g marks blocks
      → DownTo (get_or next (g - 1) 0) (set marks (get_or owner (g - 1) 0) 1) (set blocks (get_or owner (g - 1) 0 / 32) 1)
  down-goes-on g marks blocks ok z v =
      let e : g ≡ g - 1 + 1 = omega arith in
      down_step (g - 1) marks blocks ok (omega (arith, v.low)) (subst (λ (k : ℕ). DownTo k marks blocks) e v)

  pub down_ends : (g : ℕ) (marks blocks : List ℕ) → g ≤ 0 → DownTo g marks blocks
      → MarkedFrom next owner h marks₀ blocks₀ marks blocks
  down_ends g marks blocks z v = record {
    kept = v.kept;
    on = λ j p o m. ⊎_elim (λ d. d) (λ k. none p k) (v.left j p o m);
  }
    where
      none : (p : ℕ) → Meets next p g → {A : Type 0} → A
      none p (here e) = absurd (omega arith)
      none p (there q e m) = absurd (omega arith)
