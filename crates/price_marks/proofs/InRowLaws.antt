-- The children of one row join their chains. Assumes nothing.
use mathlib.Core.Path.{◌≡◌, refl, ◌∙◌}
use mathlib.Core.List.{List}
use mathlib.Core.Logic.{◌⊎◌, inl, inr, ⊎_elim}
use Prim.Native.Nat.{ℕ, ◌+◌, ◌≤◌, ◌<◌}
use native.Mathlib.Omega.{arith}
use native.Mathlib.Decide.{ℕ_discrete, dec_lt}
use lib.ListN.{length, get_or, set, length-set}
use lib.Seq.{get_or-set_same, get_or-set_other}
use Rattle.price_marks.specs.Links.{Chains, LinkRoom, Joined}
use Rattle.price_marks.specs.Links.{RowLinked}
use Rattle.price_passes.specs.Flat.{ChildIn}
use Rattle.price_marks.proofs.ChainLaws.{chains-pass-literal, chains-take-class}

-- within row i, whose children stand from place a to place e
module _ (children : List ℕ) (i a e : ℕ) (first₀ next₀ owner₀ : List ℕ) where
  pub record InRow (p : ℕ) (first next owner : List ℕ) : Type 0 where
    pub from : a ≤ p
    pub to : p ≤ e
    pub linked : RowLinked children i a p first₀ next₀ owner₀ first next owner
    pub room : LinkRoom children first next owner
    pub first-length : length first ≡ length first₀
    pub next-length : length next ≡ length next₀
    pub owner-length : length owner ≡ length owner₀

  module _ (p : ℕ) (first next owner : List ℕ) (v : InRow p first next owner) where
    module _ (hp : p < e) (he : e ≤ length children) where
      pub row-goes-on : (first' next' : List ℕ) → Joined (get_or children p 0) p first next first' next'
          → length first' ≡ length first → length next' ≡ length next → InRow (p + 1) first' next' (set owner p i)
      row-goes-on first' next' j lf ln = record {
        from = omega (arith, v.from);
        to = omega arith;
        linked = record {
          chains = λ lo c. more lo (v.linked.chains lo c) (dec_lt (get_or children p 0) 512);
          own = λ q x y. own' q x y (ℕ_discrete q p);
          others = λ q x. others' q x (ℕ_discrete q p);
        };
        room = record {
          few_children = v.room.few_children;
          next_room = omega (arith, v.room.next_room);
          owner_room = omega (arith, v.room.owner_room, length-set owner p i);
          children_in = rw lf v.room.children_in;
        };
        first-length = lf ∙ v.first-length;
        next-length = ln ∙ v.next-length;
        owner-length = length-set owner p i ∙ v.owner-length;
      }
        where
          more : (lo : ℕ) → Chains children first next lo p → Dec (get_or children p 0 < 512)
              → Chains children first' next' lo (p + 1)
          more lo c (yes k) =
              let q = j.class k in
              rw (q.0, q.1) (chains-take-class children first next lo p c (get_or children p 0) refl
              (v.room.children_in p (omega arith) k) (omega (arith, v.room.next_room)))
          more lo c (no k) =
              let q = j.literal (omega arith) in
              rw (q.0, q.1) (chains-pass-literal children first next lo p c (omega arith))

          own' : (q : ℕ) → a ≤ q → q < p + 1 → Dec (q ≡ p) → get_or (set owner p i) q 0 ≡ i
          own' q x y (yes d) = rw (d, get_or-set_same owner p i 0 (omega (arith, v.room.owner_room)))
          own' q x y (no d) = get_or-set_other owner p q i 0 d ∙ v.linked.own q x (omega arith)

          others' : (q : ℕ) → (q < a) ⊎ (p + 1 ≤ q) → Dec (q ≡ p) → get_or (set owner p i) q 0 ≡ get_or owner₀ q 0
          others' q x (yes d) = absurd (⊎_elim (λ z. omega (arith, v.from)) (λ z. omega arith) x)
          others' q x (no d) =
              get_or-set_other owner p q i 0 d ∙ v.linked.others q (⊎_elim (λ z. inl z) (λ z. inr (omega arith)) x)

      -- what joining asks
      pub row-asks : (p < 8192) × ((p < length next) × ChildIn (length first) (get_or children p 0))
      row-asks = (
        omega (arith, v.room.few_children),
        (omega (arith, v.room.next_room), v.room.children_in p (omega arith)),
      )

    pub row_ends : e ≤ p → RowLinked children i a e first₀ next₀ owner₀ first next owner
    row_ends h = let q : p ≡ e = omega (arith, v.to) in rw q at v.linked
