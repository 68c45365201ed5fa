-- Laws of the reading of sorts. Assumes nothing.
use Prim.Native.Nat.{ℕ, ◌+◌, ◌*◌, ◌≤◌, ◌<◌}
use mathlib.Core.List.{List, [], ◌∷◌, ◌++◌}
use mathlib.Core.Path.{◌≡◌, refl, sym, ◌∙◌}
use mathlib.Core.Bool.{Bool, true, false}
use native.Mathlib.Omega.{arith}
use lib.Dec.{leb}
use lib.ListN.{replicate, set}
use borrow.Author.Tests.{le-leb, lt-leb, ne_eqb, eq-eqb}
use Rattle.refusal.specs.declared.Refusal.{Refusal}
use Rattle.refusal.specs.declared.Refusal.TheVariants.{BadSize}
use Rattle.bits.specs.Got.{Got, got, refused, then, must, pick}
use Rattle.bits.specs.Field.{field}
use Rattle.bits.proofs.GotLaws.{all-at, Loop, loop-start, loop-more, loop-refuses, loop-ends}
use Rattle.file_rules.specs.Table.{Sort}
use Rattle.file_rules.specs.Sorts.{classes_of, sort_at, sorts_at}
use Rattle.file_rules.specs.Arrays.{HoldsSorts}
use Rattle.file_rules.proofs.SortLaws.{sort-kept, classes_of-snoc}
use Rattle.file_rules.proofs.ArraysLaws.{pad_with-nil, pad-set-map}

large-by : (b : Bool) (g : Got Sort) → must b BadSize (must false BadSize g) ≡ refused BadSize
unfolding must
large-by true g = refl
large-by false g = refl

-- One more of the sort's fields.
module _ (s : List ℕ) (at t : ℕ) where
  pub sort-refused : {r : Refusal} → field s at 1 ≡ refused r → sort_at s at t ≡ refused r
  unfolding sort_at then
  sort-refused e = rw e

  module _ {kind p : ℕ} (e : field s at 1 ≡ got kind p) where
    pub sort-base : kind ≡ 0 → sort_at s at t ≡ got (record { kind = 0; classes = 0 }) p
    unfolding sort_at then pick
    sort-base z = rw (e, eq-eqb _ _ z)

    module _ (o : kind ≡ 0 → ⊥) where
      pub sort-count-refused : {r : Refusal} → field s p 10 ≡ refused r → sort_at s at t ≡ refused r
      unfolding sort_at then pick
      sort-count-refused d = rw (e, ne_eqb _ _ o, d)

      module _ {n q : ℕ} (d : field s p 10 ≡ got n q) where
        pub sort-large : 512 < t + n → sort_at s at t ≡ refused BadSize
        unfolding sort_at then pick must
        sort-large h =
            rw (e, ne_eqb _ _ o, d, lt-leb _ _ h) (large-by (leb n 512) (got (record { kind = 1; classes = n }) q))

        pub sort-eq : t + n ≤ 512 → sort_at s at t ≡ got (record { kind = 1; classes = n }) q
        unfolding sort_at then pick must
        sort-eq h =
            let l : n ≤ 512 = omega arith in
            rw (e, ne_eqb _ _ o, d, le-leb _ _ l, le-leb _ _ h)

-- The loop over n sorts from at: those of xs are read up to p and stand in the arrays.
pub record Sorts-read (s : List ℕ) (at n : ℕ) (kinds classes : List ℕ) (p total i : ℕ) : Type 0 where
  pub xs : List Sort
  pub loop : Loop (λ xs p. sort_at s p (classes_of xs)) n at p i xs
  pub sum : classes_of xs ≡ total
  pub few : total ≤ 512
  pub near : p ≤ at + 11 * i
  pub held : HoldsSorts kinds classes xs

module _ {s : List ℕ} {at n : ℕ} {kinds classes : List ℕ} where
  pub sorts-start : kinds ≡ replicate 32 0 → classes ≡ replicate 32 0 → Sorts-read s at n kinds classes at 0 0
  unfolding classes_of
  sorts-start e d =
      record {
        xs = [];
        loop = loop-start;
        sum = refl;
        few = omega arith;
        near = omega arith;
        held = record { kinds_are = e ∙ sym (pad_with-nil 0 32); classes_are = d ∙ sym (pad_with-nil 0 32) };
      }

  module _ {p total i : ℕ} (l : Sorts-read s at n kinds classes p total i) where
    pub sorts-more : {kind count q : ℕ} → n < 32 → i < n
        → sort_at s p total ≡ got (record { kind = kind; classes = count }) q
        → Sorts-read s at n (set kinds i kind) (set classes i count) q (total + count) (i + 1)
    sorts-more {kind} {count} {q} b h e =
        let x : Sort = record { kind = kind; classes = count } in
        let k = all-at (rw e at (sort-kept s p total l.few)) in
        let o = l.loop.some in
        let i-small : i < 32 = omega arith in
        record {
          xs = l.xs ++ (x ∷ []);
          loop = loop-more l.loop h (rw l.sum e);
          sum = rw (classes_of-snoc, l.sum);
          few = k.few;
          near = omega (arith, k.near, l.near);
          held =
              record {
                kinds_are =
                    rw l.held.kinds_are (pad-set-map 32 (λ (x : Sort). x.kind) l.xs i x o i-small refl);
                classes_are =
                    rw l.held.classes_are (pad-set-map 32 (λ (x : Sort). x.classes) l.xs i x o i-small refl);
              };
        }

    pub sorts-refuse : {r : Refusal} → i < n → sort_at s p total ≡ refused r → sorts_at s n at ≡ refused r
    unfolding sorts_at
    sorts-refuse h e = loop-refuses l.loop h (rw l.sum e)

    pub sorts-end : n ≤ i → sorts_at s n at ≡ got l.xs p
    unfolding sorts_at
    sorts-end h = loop-ends l.loop h
