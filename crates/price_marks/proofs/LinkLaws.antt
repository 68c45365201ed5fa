-- The children of all rows join their chains. Assumes nothing.
use mathlib.Core.Path.{◌≡◌, refl, sym, ◌∙◌}
use mathlib.Core.List.{List}
use mathlib.Core.Logic.{inl, inr}
use Prim.Native.Nat.{ℕ, zero, suc, ◌+◌, ◌≤◌, ◌<◌}
use native.Mathlib.Omega.{arith}
use native.Mathlib.Numerals.{add-one}
use native.Mathlib.Decide.{ℕ_discrete, dec_lt}
use lib.ListN.{length, get_or}
use Rattle.price_marks.specs.Links.{Index, PartsOk, LinkRoom, NoLinks}
use Rattle.price_marks.specs.Links.{RowLinked}

-- over the rows
module _ (rows : ℕ) (starts children : List ℕ) (ok : PartsOk rows starts children) where
  pub starts-mono : (i j : ℕ) → i ≤ j → j ≤ rows → get_or starts i 0 ≤ get_or starts j 0
  starts-mono i zero h l = let e : i ≡ 0 = omega arith in rw e (omega arith)
  starts-mono i (suc j) h l = go (ℕ_discrete i (suc j)) (λ k. starts-mono i j k (omega arith))
    where
      go : Dec (i ≡ suc j) → (i ≤ j → get_or starts i 0 ≤ get_or starts j 0) → get_or starts i 0 ≤ get_or starts (suc j) 0
      go (yes e) below = rw e (omega arith)
      go (no d) below =
          let r : get_or starts j 0 ≤ get_or starts (suc j) 0 = rw add-one at (ok.starts_rise j (omega arith)) in
          omega (arith, below (omega arith))

  module _ (first₀ next₀ owner₀ : List ℕ) where
    -- the first i rows are linked
    pub record Linked (i : ℕ) (first next owner : List ℕ) : Type 0 where
      pub at : i ≤ rows
      pub index : Index starts children first next owner i
      pub room : LinkRoom children first next owner
      pub first-length : length first ≡ length first₀
      pub next-length : length next ≡ length next₀
      pub owner-length : length owner ≡ length owner₀

    pub links-begin : NoLinks first₀ next₀ owner₀ → LinkRoom children first₀ next₀ owner₀
        → Linked 0 first₀ next₀ owner₀
    links-begin z room = record {
      at = omega arith;
      index = record {
        chains = record {
          first_low = λ c. omega (arith, z.first_zero c);
          next_low = λ q. omega (arith, z.next_zero q);
          met = λ p a b k. absurd (omega arith);
        };
        owners = record {
          owned = λ i p a b k. absurd (omega arith);
          owner_low = λ p. omega (arith, z.owner_zero p);
        };
      };
      room = room;
      first-length = refl;
      next-length = refl;
      owner-length = refl;
    }

    module _ (i : ℕ) (first next owner : List ℕ) (v : Linked i first next owner) where
      -- what linking row i asks
      pub links-ask : i < rows → (i < 1024) × ((get_or starts i 0 ≤ get_or starts (i + 1) 0)
          × ((get_or starts (i + 1) 0 ≤ length children) × LinkRoom children first next owner))
      links-ask h = (omega (arith, ok.few_rows), (ok.starts_rise i h, (ok.starts_in i h, v.room)))

      pub links-go-on : i < rows → (first' next' owner' : List ℕ)
          → RowLinked children i (get_or starts i 0) (get_or starts (i + 1) 0) first next owner first' next' owner'
          → length first' ≡ length first → length next' ≡ length next → length owner' ≡ length owner
          → Linked (i + 1) first' next' owner'
      links-go-on h first' next' owner' r lf ln lo = record {
        at = omega arith;
        index = record {
          chains = r.chains (get_or starts 0 0) v.index.chains;
          owners = record {
            owned = λ k p a b c. owned' k p a b c (ℕ_discrete k i);
            owner_low = λ p. low p (dec_lt p (get_or starts i 0)) (dec_lt p (get_or starts (i + 1) 0));
          };
        };
        room = record {
          few_children = v.room.few_children;
          next_room = omega (arith, v.room.next_room);
          owner_room = omega (arith, v.room.owner_room);
          children_in = rw lf v.room.children_in;
        };
        first-length = lf ∙ v.first-length;
        next-length = ln ∙ v.next-length;
        owner-length = lo ∙ v.owner-length;
      }
        where
          owned' : (k p : ℕ) → k < i + 1 → get_or starts k 0 ≤ p → p < get_or starts (k + 1) 0 → Dec (k ≡ i)
              → get_or owner' p 0 ≡ k
          owned' k p a b c (yes e) = r.own p (rw e at b) (rw e at c) ∙ sym e
          owned' k p a b c (no d) =
              r.others p (inl (omega (arith, starts-mono (k + 1) i (omega arith) (omega arith))))
              ∙ v.index.owners.owned k p (omega arith) b c

          low : (p : ℕ) → Dec (p < get_or starts i 0) → Dec (p < get_or starts (i + 1) 0) → get_or owner' p 0 < 1024
          low p (yes x) y = omega (arith, r.others p (inl x), v.index.owners.owner_low p)
          low p (no x) (yes y) = omega (arith, r.own p (omega arith) y, ok.few_rows)
          low p (no x) (no y) = omega (arith, r.others p (inr (omega arith)), v.index.owners.owner_low p)

      pub links_end : rows ≤ i → Index starts children first next owner rows
      links_end h = let e : i ≡ rows = omega (arith, v.at) in rw e at v.index
