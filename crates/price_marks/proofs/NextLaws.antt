-- The next marked row: by single marks, within a block, over the blocks. Assumes nothing.
use mathlib.Core.Path.{◌≡◌, ap, sym, ◌∙◌, subst}
use mathlib.Core.List.{List}
use mathlib.Core.Logic.{inl, inr, ⊎_elim}
use Prim.Native.Nat.{ℕ, ◌+◌, ◌*◌, ◌/◌, ◌≤◌, ◌<◌}
use native.Mathlib.Omega.{arith}
use native.Mathlib.Decide.{ℕ_discrete, dec_lt}
use lib.ListN.{get_or, set}
use lib.Seq.{get_or-set_same, get_or-set_other}
use Rattle.price_marks.specs.Marks.{Off, Room, Scanned, Next, InBlock}

-- rows without marks of their own
pub scan-goes-on : (marks : List ℕ) (from to j : ℕ) → j < to → Scanned marks from to j → get_or marks j 0 ≡ 0
    → Scanned marks from to (j + 1)
scan-goes-on marks from to j h v z = record {
  forward = omega (arith, v.forward);
  within = omega arith;
  zero = λ k a b. go k a b (ℕ_discrete k j);
}
  where
    go : (k : ℕ) → from ≤ k → k < j + 1 → Dec (k ≡ j) → get_or marks k 0 ≡ 0
    go k a b (yes e) = rw e z
    go k a b (no d) = v.zero k a (omega arith)

-- the next marked row
module _ (marks blocks : List ℕ) where
  pub next-none : (from : ℕ) → from ≤ 1024 → Next marks blocks blocks from from
  next-none from h = record {
    forward = omega arith;
    top = h;
    kept = λ j o. o;
    skipped = λ j a b. absurd (omega arith);
  }

  -- within a block
  module _ (from to : ℕ) (room : Room marks blocks) (low : from < 1024) (end : to ≡ from / 32 * 32 + 32) where
    same_block : (j : ℕ) → from ≤ j → j < to → j / 32 ≡ from / 32
    same_block j a b = omega arith

    pub block-off : get_or blocks (from / 32) 0 ≡ 0 → InBlock marks blocks blocks from to to
    block-off z = record {
      next = record {
        forward = omega arith;
        top = omega arith;
        kept = λ j o. o;
        skipped = λ j a b. inl (ap (λ (k : ℕ). get_or blocks k 0) (same_block j a b) ∙ z);
      };
      within = omega arith;
      clears = λ j o. o;
    }

    pub block-scanned : (r : ℕ) → Scanned marks from to r → InBlock marks blocks blocks from to r
    block-scanned r v = record {
      next = record {
        forward = v.forward;
        top = omega (arith, v.within);
        kept = λ j o. o;
        skipped = λ j a b. inr (v.zero j a b);
      };
      within = v.within;
      clears = λ j o. o;
    }

    pub block-seen : (r : ℕ) → Scanned marks from to r → to ≤ r → Scanned marks from to to
    block-seen r v h =
        let e : r ≡ to = omega (arith, v.within) in subst (λ (k : ℕ). Scanned marks from to k) e v

    pub block-cleared : from ≤ from / 32 * 32 → Scanned marks from to to
        → InBlock marks blocks (set blocks (from / 32) 0) from to to
    block-cleared first v = record {
      next = record {
        forward = v.forward;
        top = omega (arith, v.within);
        kept = λ j o. ⊎_elim (λ x. was j x (ℕ_discrete (j / 32) (from / 32))) (λ x. inr x) o;
        skipped = λ j a b. inr (v.zero j a b);
      };
      within = v.within;
      clears = λ j o. ⊎_elim (λ x. still j x (ℕ_discrete (j / 32) (from / 32))) (λ x. inr x) o;
    }
      where
        was : (j : ℕ) → get_or (set blocks (from / 32) 0) (j / 32) 0 ≡ 0 → Dec (j / 32 ≡ from / 32) → Off marks blocks j
        was j x (yes e) = inr (v.zero j (omega arith) (omega arith))
        was j x (no d) = inl (sym (get_or-set_other blocks (from / 32) (j / 32) 0 0 d) ∙ x)

        still : (j : ℕ) → get_or blocks (j / 32) 0 ≡ 0 → Dec (j / 32 ≡ from / 32)
            → Off marks (set blocks (from / 32) 0) j
        still j x (yes e) = inl (rw (e, get_or-set_same blocks (from / 32) 0 0 (omega (arith, room.blocks_room))))
        still j x (no d) = inl (get_or-set_other blocks (from / 32) (j / 32) 0 0 d ∙ x)

  pub next-joins : (blocks₁ blocks₂ : List ℕ) (from i to r : ℕ) → Next marks blocks blocks₁ from i
      → InBlock marks blocks₁ blocks₂ i to r → Next marks blocks blocks₂ from r
  next-joins blocks₁ blocks₂ from i to r u v = record {
    forward = omega (arith, u.forward, v.next.forward);
    top = v.next.top;
    kept = λ j o. u.kept j (v.next.kept j o);
    skipped = λ j a b. go j a b (dec_lt j i);
  }
    where
      go : (j : ℕ) → from ≤ j → j < r → Dec (j < i) → Off marks blocks₂ j
      go j a b (yes h) = v.clears j (u.skipped j a h)
      go j a b (no h) = v.next.skipped j (omega arith) b

  pub next-joins-block : (blocks₁ blocks₂ : List ℕ) (from i to r : ℕ) → Next marks blocks blocks₁ from i
      → InBlock marks blocks₁ blocks₂ i to r → to ≤ r → Next marks blocks blocks₂ from to
  next-joins-block blocks₁ blocks₂ from i to r u v h =
      let e : r ≡ to = omega (arith, v.within) in
      subst (λ (k : ℕ). Next marks blocks blocks₂ from k) e (next-joins blocks₁ blocks₂ from i to r u v)
