-- The loop of passes: after p of them, each changed something; the one that does not ends the run. Assumes nothing.
use mathlib.Core.Path.{◌≡◌, refl, ap, sym, ◌∙◌, subst}
use mathlib.Core.List.{List, [], ◌∷◌}
use Prim.Native.Nat.{ℕ, suc, ◌+◌, ◌*◌, ◌<◌, ◌≤◌}
use native.Mathlib.Omega.{arith}
use native.Mathlib.Numerals.{add-one}
use lib.ListN.{length, get_or, replicate}
use Rattle.choice_rules.specs.Rows.{Row, Within}
use Rattle.choice_rules.specs.Run.{State, pass, passes, blank, run}
use Rattle.choice_rules.proofs.PassLaws.{pass-last, pass-still}
use Rattle.choice_rules.proofs.BoundLaws.{Busy}
use Rattle.choice_rules.proofs.RunLaws.{busy-more, busy-blank, run_unique}
use Rattle.price_passes.specs.declared.flat.Rows.{Rows}
use Rattle.price_passes.specs.Flat.{top, flat_of, FlatIn, Fresh, state_of, ran_to}
use Rattle.price_passes.proofs.FlatLaws.{rows-length, rows-within}

zeros : (l : List ℕ) → ((c : ℕ) → get_or l c 0 ≡ 0) → l ≡ replicate (length l) 0
zeros [] f = refl
zeros (x ∷ l) f = rw (f 0) (ap (λ (m : List ℕ). 0 ∷ m) (zeros l (λ c. f (suc c))))

fresh-is-blank : (costs ranks : List ℕ) → Fresh costs ranks → state_of costs ranks 0 ≡ blank (length ranks)
fresh-is-blank costs ranks z =
    let e = zeros costs z.costs_zero ∙ ap (λ (k : ℕ). replicate k 0) z.long in
    let f = zeros ranks z.ranks_zero in
    λ i. record { costs = e i; ranks = f i; last = 0 }

-- s is the state after p passes from the blank one, and each changed something
pub record Repeated (rows : List Row) (n : ℕ) (s : State) (p : ℕ) : Type 0 where
  pub costs_length : length s.costs ≡ n
  pub ranks_length : length s.ranks ≡ n
  pub low : s.last ≤ p * 1024
  pub is : s ≡ passes top rows p (blank n)
  pub busy : Busy top rows (blank n) p

pub repeat-begins : (rows : List Row) (costs ranks : List ℕ) → Fresh costs ranks
    → Repeated rows (length ranks) (state_of costs ranks 0) 0
unfolding passes
repeat-begins rows costs ranks z = record {
  costs_length = z.long;
  ranks_length = refl;
  low = omega arith;
  is = fresh-is-blank costs ranks z;
  busy = λ q l. absurd (omega arith);
}

module _ (n : ℕ) (r : Rows) (ok : FlatIn n r) where
  abbrev flat : List Row
  flat = flat_of r

  within : Within n flat
  within = rows-within r.outputs.now r.heads.now r.starts.now r.children.now n ok

  pub repeat-few : (s : State) (p : ℕ) → Repeated flat n s p → p ≤ n
  repeat-few s p v = busy-blank top n flat within p v.busy

  -- what the next pass asks
  pub repeat-asks : (s : State) (p : ℕ) → Repeated flat n s p
      → (s.last + length r.outputs.now < top)
      × ((length s.costs ≡ length s.ranks) × FlatIn (length s.ranks) r)
  repeat-asks s p v = (
    omega (arith, v.low, repeat-few s p v, ok.few_classes, ok.few_rows),
    (omega (arith, v.costs_length, v.ranks_length), rw v.ranks_length ok),
  )

  module _ (s t : State) (p : ℕ) (v : Repeated flat n s p) (e : t ≡ pass top flat s) where
    -- a pass that gave a rank
    pub repeat-goes-on : length t.costs ≡ length s.costs → length t.ranks ≡ length s.ranks
        → (t.last ≡ s.last → ⊥)
        → Repeated flat n t (p + 1)
    unfolding passes
    repeat-goes-on lc lr d = record {
      costs_length = lc ∙ v.costs_length;
      ranks_length = lr ∙ v.ranks_length;
      low = omega (
        arith,
        v.low,
        (pass-last top flat s).1,
        rows-length r.outputs.now r.heads.now r.starts.now r.children.now,
        ok.few_rows,
        ap (λ (u : State). u.last) e,
      );
      is = rw add-one (e ∙ ap (λ (u : State). pass top flat u) v.is);
      busy = rw add-one (busy-more top flat (blank n) p v.busy
          (λ k. d (ap (λ (u : State). u.last) (e ∙ ap (λ (u : State). pass top flat u) v.is ∙ k ∙ sym v.is))));
    }

    -- a pass that gave none
    pub repeat-ends : t.last ≡ s.last → ran_to t.costs t.ranks t.last (p + 1) ≡ run top flat n
    repeat-ends d =
        let k = (pass-still top flat s (omega (arith, ap (λ (u : State). u.last) e))).1 in
        run_unique top n flat within
        (ran_to t.costs t.ranks t.last (p + 1))
        (record {
          before = p;
          counted = add-one p;
          busy = v.busy;
          still = subst (λ (u : State). pass top flat u ≡ u) v.is k;
          result = e ∙ k ∙ v.is;
        })
