-- What holds of a sort and of all sorts that were read, and how many bits they take at most. Assumes nothing.
use Prim.Native.Nat.{ℕ, ◌+◌, ◌*◌, ◌≤◌}
use mathlib.Core.List.{List, [], ◌∷◌, ◌++◌}
use mathlib.Core.Path.{◌≡◌, refl}
use native.Mathlib.Omega.{arith}
use lib.ListN.{length, length-append}
use borrow.Author.Tests.{leb-true}
use Rattle.bits.specs.Got.{got}
use Rattle.bits.specs.Field.{field}
use Rattle.bits.proofs.FieldLaws.{field-read}
use Rattle.bits.proofs.GotLaws.{All, all-got, all-at, all_map, all_then, all-must, all-pick, many-all, many-length}
use Rattle.file_rules.specs.Table.{Sort}
use Rattle.file_rules.specs.Sorts.{classes_of, sort_at, sorts_at}
use Rattle.file_rules.specs.Every.{Every, every-nil}
use Rattle.file_rules.specs.Accepted.{SortOk}
use Rattle.file_rules.proofs.BlockLaws.{every-snoc}

-- A sort that was read: the classes stay at most 512, and it takes at most 11 bits.
pub record SortKept (at t : ℕ) (x : Sort) (q : ℕ) : Type 0 where
  pub ok : SortOk x
  pub few : t + x.classes ≤ 512
  pub near : q ≤ at + 11

one_not_zero : ◌≡◌ {A = ℕ} 1 0 → ⊥
one_not_zero z = omega arith

pub sort-kept : (s : List ℕ) (at t : ℕ) → t ≤ 512 → All (SortKept at t) (sort_at s at t)
unfolding sort_at
sort-kept s at t h =
    all_then (field s at 1) _ (λ kind p e.
    let f = field-read s at 1 e in
    all-pick _ _ _
    (λ _. all-got (record {
      ok = record { bit = omega arith; base = λ _. refl };
      few = omega arith;
      near = omega (arith, f.end);
    }))
    (λ _.
    all_then (field s p 10) _ (λ n q d.
    let g = field-read s p 10 d in
    all-must _ _ _ (λ _. all-must _ _ _ (λ b.
    all-got
    (record {
      ok = record { bit = omega arith; base = λ z. absurd (one_not_zero z) };
      few = leb-true _ _ b;
      near = omega (arith, f.end, g.end);
    }))))))

pub sort-few : (s : List ℕ) (at t : ℕ) {x : Sort} {q : ℕ} → t ≤ 512 → sort_at s at t ≡ got x q → t + x.classes ≤ 512
sort-few s at t h e = (all-at (rw e at (sort-kept s at t h))).few

pub classes_of-snoc : (xs : List Sort) (x : Sort) → classes_of (xs ++ (x ∷ [])) ≡ classes_of xs + x.classes
unfolding classes_of
classes_of-snoc [] x = omega arith
classes_of-snoc (y ∷ xs) x = omega (arith, classes_of-snoc xs x)

-- The sorts that were read.
pub record SortsKept (at : ℕ) (xs : List Sort) (q : ℕ) : Type 0 where
  pub ok : Every SortOk xs
  pub few : classes_of xs ≤ 512
  pub near : q ≤ at + 11 * length xs

pub sorts-kept : (s : List ℕ) (n at : ℕ) → All (SortsKept at) (sorts_at s n at)
unfolding sorts_at classes_of
sorts-kept s n at =
    many-all _ (SortsKept at)
    (λ xs p h.
    all_map
    (λ x q k.
    record {
      ok = every-snoc h.ok k.ok;
      few = rw classes_of-snoc k.few;
      near = simp length-append (omega (arith, h.near, k.near));
    })
    (sort-kept s p (classes_of xs) h.few))
    n at [] (record { ok = every-nil; few = omega arith; near = omega arith })

pub sorts-length : (s : List ℕ) (n at : ℕ) {xs : List Sort} {q : ℕ} → sorts_at s n at ≡ got xs q → length xs ≡ n
unfolding sorts_at
sorts-length s n at e = many-length _ n at e
