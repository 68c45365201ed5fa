-- A child joins the chain of its class, in front; all others stay on theirs. Assumes nothing.
use mathlib.Core.Path.{◌≡◌, refl, ap, sym, ◌∙◌}
use mathlib.Core.List.{List}
use Prim.Native.Nat.{ℕ, suc, ◌+◌, ◌≤◌, ◌<◌}
use native.Mathlib.Omega.{arith}
use native.Mathlib.Numerals.{add-one}
use native.Mathlib.Decide.{ℕ_discrete, dec_lt}
use lib.ListN.{length, get_or, set, length-set}
use lib.Seq.{get_or-set_same, get_or-set_other}
use Rattle.price_marks.specs.Links.{Meets, here, there, Chains, Joined}

-- links that lead downwards from at most `at` do not see what is put at `at`
meets-kept : (next : List ℕ) (p at v : ℕ) → ((q : ℕ) → get_or next q 0 ≤ q) → {h : ℕ} → Meets next p h → h ≤ at
    → Meets (set next at v) p h
meets-kept next p at v low (here e) l = here e
meets-kept next p at v low (there {h} q e m) l =
    there q e (rw (get_or-set_other next at q v 0 (λ x. omega arith))
    (meets-kept next p at v low m (omega (arith, low q))))

-- the child at place `at` joins
module _ (children first next : List ℕ) (lo at : ℕ) (v : Chains children first next lo at) where
  pub chains-pass-literal : 512 ≤ get_or children at 0 → Chains children first next lo (at + 1)
  chains-pass-literal h = record {
    first_low = λ c. omega (arith, v.first_low c);
    next_low = v.next_low;
    met = λ p a b k. go p a b k (ℕ_discrete p at);
  }
    where
      go : (p : ℕ) → lo ≤ p → p < at + 1 → get_or children p 0 < 512 → Dec (p ≡ at)
          → Meets next p (get_or first (get_or children p 0) 0)
      go p a b k (yes e) = absurd (omega (arith, ap (λ (x : ℕ). get_or children x 0) e))
      go p a b k (no d) = v.met p a (omega arith) k

  module _ (x : ℕ) (is : x ≡ get_or children at 0) (hx : x < length first) (hn : at < length next) where
    abbrev first' : List ℕ
    first' = set first x (at + 1)

    abbrev next' : List ℕ
    next' = set next at (get_or first x 0)

    first-low' : (c : ℕ) → Dec (c ≡ x) → get_or first' c 0 ≤ at + 1
    first-low' c (yes e) = rw (e, get_or-set_same first x (at + 1) 0 hx) (omega arith)
    first-low' c (no d) = rw (get_or-set_other first x c (at + 1) 0 d) (omega (arith, v.first_low c))

    next-low' : (q : ℕ) → Dec (q ≡ at) → get_or next' q 0 ≤ q
    next-low' q (yes e) = rw (e, get_or-set_same next at (get_or first x 0) 0 hn) (v.first_low x)
    next-low' q (no d) = rw (get_or-set_other next at q (get_or first x 0) 0 d) (v.next_low q)

    -- what was on a chain stays on it
    still-met : (p c : ℕ) → Meets next p (get_or first c 0) → Dec (c ≡ x) → Meets next' p (get_or first' c 0)
    still-met p c m (yes e) =
        let k = meets-kept next p at (get_or first x 0) v.next_low m (v.first_low c) in
        let l : Meets next' p (get_or next' at 0)
        = rw (get_or-set_same next at (get_or first x 0) 0 hn) (rw e at k) in
        rw (e, get_or-set_same first x (at + 1) 0 hx) (there at (add-one at) l)
    still-met p c m (no d) =
        rw (get_or-set_other first x c (at + 1) 0 d)
        (meets-kept next p at (get_or first x 0) v.next_low m (v.first_low c))

    pub chains-take-class : Chains children first' next' lo (at + 1)
    chains-take-class = record {
      first_low = λ c. first-low' c (ℕ_discrete c x);
      next_low = λ q. next-low' q (ℕ_discrete q at);
      met = λ p a b k. go p a b k (ℕ_discrete p at);
    }
      where
        go : (p : ℕ) → lo ≤ p → p < at + 1 → get_or children p 0 < 512 → Dec (p ≡ at)
            → Meets next' p (get_or first' (get_or children p 0) 0)
        go p a b k (yes e) =
            let c : get_or children p 0 ≡ x = ap (λ (y : ℕ). get_or children y 0) e ∙ sym is in
            rw (c, get_or-set_same first x (at + 1) 0 hx) (here (add-one at ∙ ap suc (sym e)))
        go p a b k (no d) =
            still-met p (get_or children p 0) (v.met p a (omega arith) k) (ℕ_discrete (get_or children p 0) x)

-- the two ways of joining
pub joins-no-chain : (child p : ℕ) (first next : List ℕ) → 512 ≤ child → Joined child p first next first next
joins-no-chain child p first next h = record { literal = λ k. (refl, refl); class = λ k. absurd (omega arith) }

pub joins-its-chain : (child p : ℕ) (first next : List ℕ) → child < 512
    → Joined child p first next (set first child (p + 1)) (set next p (get_or first child 0))
joins-its-chain child p first next h = record { literal = λ k. absurd (omega arith); class = λ k. (refl, refl) }

-- there are as many places as before
pub joined-sizes : (child p : ℕ) (first₀ next₀ first next : List ℕ) → Joined child p first₀ next₀ first next
    → (length first ≡ length first₀) × (length next ≡ length next₀)
joined-sizes child p first₀ next₀ first next j = go (dec_lt child 512)
  where
    go : Dec (child < 512) → (length first ≡ length first₀) × (length next ≡ length next₀)
    go (yes h) =
        let q = j.class h in (
          ap (λ (x : List ℕ). length x) q.0 ∙ length-set first₀ child (p + 1),
          ap (λ (x : List ℕ). length x) q.1 ∙ length-set next₀ p (get_or first₀ child 0),
        )
    go (no h) =
        let q = j.literal (omega arith) in
        (ap (λ (x : List ℕ). length x) q.0, ap (λ (x : List ℕ). length x) q.1)
