-- Ranks: at a fixpoint a class below saturation has a row with exactly its cost and children of lower rank.
-- Assumes nothing.
use mathlib.Core.Path.{◌≡◌, refl, ap, sym}
use mathlib.Core.List.{List, [], ◌∷◌, Memᴰ}
use mathlib.Core.Logic.{◌⊎◌, inl, inr, ⊎_elim, ◌≢◌}
use Prim.Native.Nat.{ℕ, suc, ◌≤◌, ◌<◌}
use native.Mathlib.Omega.{arith}
use native.Mathlib.Decide.{ℕ_discrete}
use lib.ListN.{length, get_or, set}
use lib.Seq.{get_or-set_same, get_or-set_other}
use Rattle.choice_rules.specs.Rows.{Child, literal, class, Row, Within, sum_of}
use Rattle.choice_rules.specs.Run.{State, child_cost, row_cost, store}
use Rattle.choice_rules.specs.Edges.{child_rank}
use Rattle.choice_rules.proofs.ListLaws.{Each, each_map, each_both, each-every, each-mem, sum_same, sum_less}
use Rattle.choice_rules.proofs.ListLaws.{mem-sum, Has}
use Rattle.choice_rules.proofs.RelaxLaws.{Priced, AllPriced, Improves}
use Rattle.choice_rules.proofs.PassLaws.{Fixed, Sized}
use Rattle.choice_rules.proofs.SoundLaws.{has_within}

-- a child that is not class d
abbrev pub Other : ℕ → Child → Type 0
Other d (literal i) = Unit {0}
Other d (class c) = c ≢ d

pub other-or-mem : (d : ℕ) (ks : List Child) → Memᴰ (class d) ks ⊎ Each (Other d) ks
other-or-mem d [] = inr tt
other-or-mem d (literal i ∷ ks) = ⊎_elim (λ m. inl (Memᴰ.tail m)) (λ a. inr (tt, a)) (other-or-mem d ks)
other-or-mem d (class c ∷ ks) = go (ℕ_discrete c d) (other-or-mem d ks)
  where
    go : Dec (c ≡ d) → Memᴰ (class d) ks ⊎ Each (Other d) ks
        → Memᴰ (class d) (class c ∷ ks) ⊎ Each (Other d) (class c ∷ ks)
    go (yes e) q = inl (Memᴰ.head (ap class (sym e)))
    go (no n) (inl m) = inl (Memᴰ.tail m)
    go (no n) (inr a) = inr (n, a)

-- what stands at one place after a store
pub at_set : (l : List ℕ) (d v : ℕ) → d < length l → (P : ℕ → Type 0) (k : ℕ) → P v → P (get_or l k 0)
    → P (get_or (set l d v) k 0)
at_set l d v h P k p q = go (ℕ_discrete k d)
  where
    go : Dec (k ≡ d) → P (get_or (set l d v) k 0)
    go (yes e) = rw (e, get_or-set_same l d v 0 h) p
    go (no n) = rw (get_or-set_other l d k v 0 n) q

module _ (l : List ℕ) (d v : ℕ) where
  other-cost : (k : Child) → Other d k → child_cost (set l d v) k ≡ child_cost l k
  unfolding child_cost
  other-cost (literal i) o = refl
  other-cost (class c) o = get_or-set_other l d c v 0 o

  other-rank : (k : Child) → Other d k → child_rank (set l d v) k ≡ child_rank l k
  unfolding child_rank
  other-rank (literal i) o = refl
  other-rank (class c) o = get_or-set_other l d c v 0 o

  pub other-sum : (ks : List Child) → Each (Other d) ks → sum_of (child_cost (set l d v)) ks ≡ sum_of (child_cost l) ks
  other-sum ks a =
      sum_same (child_cost (set l d v)) (child_cost l) ks
      (each_map (Other d) (λ k. child_cost (set l d v) k ≡ child_cost l k) other-cost ks a)

  module _ (h : d < length l) where
    pub still-priced : 0 < v → (ks : List Child) → AllPriced l ks → AllPriced (set l d v) ks
    still-priced z ks = each_map (Priced l) (Priced (set l d v)) one ks
      where
        one : (k : Child) → Priced l k → Priced (set l d v) k
        one (literal i) p = tt
        one (class c) p = at_set l d v h (λ x. 0 < x) c z p

    cost-le : v ≤ get_or l d 0 → (k : Child) → child_cost (set l d v) k ≤ child_cost l k
    unfolding child_cost
    cost-le z (literal i) = omega arith
    cost-le z (class c) = go (ℕ_discrete c d)
      where
        go : Dec (c ≡ d) → get_or (set l d v) c 0 ≤ get_or l c 0
        go (yes e) = rw (e, get_or-set_same l d v 0 h) (omega arith)
        go (no n) = rw (get_or-set_other l d c v 0 n) (omega arith)

    -- a sum falls where a class in it does
    pub mem-sum-less : v < get_or l d 0 → (ks : List Child) → Memᴰ (class d) ks
        → sum_of (child_cost (set l d v)) ks < sum_of (child_cost l) ks
    unfolding child_cost
    mem-sum-less z ks m =
        sum_less (child_cost (set l d v)) (child_cost l) (class d) ks m
        (each-every (λ k. child_cost (set l d v) k ≤ child_cost l k) (cost-le (omega arith)) ks)
        (rw (get_or-set_same l d v 0 h) z)

-- every child's rank is below b
abbrev pub AllLower : ℕ → List ℕ → List Child → Type 0
AllLower b ranks ks = Each (λ k. child_rank ranks k < b) ks

pub other-lower : (l : List ℕ) (d v b : ℕ) (ks : List Child) → Each (Other d) ks → AllLower b l ks
    → AllLower b (set l d v) ks
other-lower l d v b ks a h =
    each_both (Other d) (λ k. child_rank l k < b) (λ k. child_rank (set l d v) k < b)
    (λ k o p. rw (other-rank l d v k o) p) ks a h

pub lower-when-all : (b : ℕ) (ranks : List ℕ) → 0 < b → ((c : ℕ) → get_or ranks c 0 < b) → (ks : List Child)
    → AllLower b ranks ks
unfolding child_rank
lower-when-all b ranks z f ks = each-every (λ k. child_rank ranks k < b) one ks
  where
    one : (k : Child) → child_rank ranks k < b
    one (literal i) = z
    one (class c) = f c

-- no rank is above the last one given
abbrev pub Capped : State → Type 0
Capped s = (c : ℕ) → get_or s.ranks c 0 ≤ s.last

module _ (M : ℕ) (rows : List Row) where
  -- a row that gave class c its cost: it costs no more now, and no less only while its children stayed as they were
  pub record Source (s : State) (c : ℕ) : Type 0 where
    pub row : Row
    pub has : Has rows row
    pub output : row.output ≡ c
    pub all-priced : AllPriced s.ranks row.children
    pub cheap : row_cost M s.costs row ≤ get_or s.costs c 0
    pub lower : row_cost M s.costs row ≡ get_or s.costs c 0
        → AllLower (get_or s.ranks c 0) s.ranks row.children

  abbrev pub Sourced : State → Type 0
  Sourced s = (c : ℕ) → 0 < get_or s.ranks c 0 → get_or s.costs c 0 < M → Source s c

  module _ (n : ℕ) (w : Within n rows) (s : State) (r : Row) (m : Has rows r) (i : Improves M s r)
      (z : Sized n s) where
    pub in-costs : r.output < length s.costs
    in-costs = omega (arith, has_within n rows w r m, z.costs)

    pub in-ranks : r.output < length s.ranks
    in-ranks = omega (arith, has_within n rows w r m, z.ranks)

    pub capped-keeps : Capped s → Capped (store M s r)
    capped-keeps b c =
        at_set s.ranks r.output (suc s.last) in-ranks (λ x. x ≤ suc s.last) c (omega arith)
        (omega (arith, b c))

    -- below saturation the class itself is no child of the row that improves it
    new-other : row_cost M s.costs r < M → Each (Other r.output) r.children
    unfolding row_cost child_cost
    new-other h = ⊎_elim
        (λ q. absurd (⊎_elim
        (λ e. omega (arith, each-mem (Priced s.ranks) (class r.output) r.children q i.all-priced))
        (λ e. omega (arith, mem-sum (child_cost s.costs) (class r.output) r.children q))
        i.better))
        (λ a. a)
        (other-or-mem r.output r.children)

    source-new : Capped s → get_or (store M s r).costs r.output 0 < M → Source (store M s r) r.output
    unfolding row_cost
    source-new b h =
        let v = row_cost M s.costs r in
        let ce = get_or-set_same s.costs r.output v 0 in-costs in
        let re = get_or-set_same s.ranks r.output (suc s.last) 0 in-ranks in
        let a = new-other (rw ce at h) in
        let se = other-sum s.costs r.output v r.children a in
        record {
          row = r;
          has = m;
          output = refl;
          all-priced = still-priced s.ranks r.output (suc s.last) in-ranks (omega arith) r.children
              i.all-priced;
          cheap = omega arith;
          lower = λ _. rw re (other-lower s.ranks r.output (suc s.last) (suc s.last) r.children a
              (lower-when-all (suc s.last) s.ranks (omega arith) (λ c. omega (arith, b c)) r.children));
        }

    source-old : (c : ℕ) → c ≢ r.output → get_or s.costs c 0 < M → Source s c → Source (store M s r) c
    unfolding row_cost
    source-old c d h e =
        let v = row_cost M s.costs r in
        let ce = get_or-set_other s.costs r.output c v 0 d in
        let re = get_or-set_other s.ranks r.output c (suc s.last) 0 d in
        let ks = e.row.children in
        let pr = still-priced s.ranks r.output (suc s.last) in-ranks (omega arith) ks e.all-priced in
        ⊎_elim
        (λ q.
        let p = each-mem (Priced s.ranks) (class r.output) ks q e.all-priced in
        let lt : v < get_or s.costs r.output 0 = ⊎_elim (λ x. absurd (omega arith)) (λ x. x) i.better in
        let sl = mem-sum-less s.costs r.output v in-costs lt ks q in
        record {
          row = e.row;
          has = e.has;
          output = e.output;
          all-priced = pr;
          cheap = omega (arith, e.cheap);
          lower = λ x. absurd (omega (arith, e.cheap, x));
        })
        (λ a.
        let se = other-sum s.costs r.output v ks a in
        record {
          row = e.row;
          has = e.has;
          output = e.output;
          all-priced = pr;
          cheap = omega (arith, e.cheap);
          lower = λ x. rw re (other-lower s.ranks r.output (suc s.last) (get_or s.ranks c 0) ks a
              (e.lower (omega (arith, e.cheap, x))));
        })
        (other-or-mem r.output ks)

    pub sourced-keeps : Capped s → Sourced s → Sourced (store M s r)
    sourced-keeps b g c k h = go (ℕ_discrete c r.output)
      where
        go : Dec (c ≡ r.output) → Source (store M s r) c
        go (yes e) = rw e (source-new b (rw e at h))
        go (no d) =
            let h' = rw (get_or-set_other s.costs r.output c (row_cost M s.costs r) 0 d) at h in
            source-old c d h' (g c (rw (get_or-set_other s.ranks r.output c (suc s.last) 0 d) at k) h')

  -- at a fixpoint the source costs exactly what its class does
  pub record Exact (s : State) (c : ℕ) : Type 0 where
    pub row : Row
    pub has : Has rows row
    pub output : row.output ≡ c
    pub all-priced : AllPriced s.ranks row.children
    pub cost : row_cost M s.costs row ≡ get_or s.costs c 0
    pub lower : AllLower (get_or s.ranks c 0) s.ranks row.children

  pub exact : (s : State) → Fixed M rows s → Sourced s → (c : ℕ) → 0 < get_or s.ranks c 0 → get_or s.costs c 0 < M
      → Exact s c
  exact s fixed g c k h =
      let e = g c k h in
      let q : get_or s.costs c 0 ≤ row_cost M s.costs e.row =
      omega (arith, (fixed e.row e.has e.all-priced).1, ap (λ (x : ℕ). get_or s.costs x 0) e.output) in
      let x : row_cost M s.costs e.row ≡ get_or s.costs c 0 = omega (arith, e.cheap) in
      record {
        row = e.row;
        has = e.has;
        output = e.output;
        all-priced = e.all-priced;
        cost = x;
        lower =
            e.lower x;
      }
