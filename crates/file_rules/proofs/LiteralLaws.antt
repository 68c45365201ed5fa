-- What holds of the literals that were read, and how many bits they take. Assumes nothing.
use Prim.Native.Nat.{ℕ, ◌+◌, ◌*◌, ◌^◌, ◌≤◌, ◌<◌}
use mathlib.Core.List.{List, []}
use mathlib.Core.Path.{◌≡◌}
use native.Mathlib.Omega.{arith}
use lib.IntN.{ℤ}
use lib.ListN.{length, length-append}
use lib.Signed.{mag}
use Rattle.bits.specs.Got.{got}
use Rattle.bits.specs.Field.{field}
use Rattle.bits.proofs.FieldLaws.{field-read}
use Rattle.bits.proofs.GotLaws.{All, all-got, all_map, all_then, many-all, many-length}
use Rattle.file_rules.specs.Literals.{literal_at, literals_at}
use Rattle.file_rules.specs.Every.{Every, every-nil}
use Rattle.file_rules.proofs.SignedLaws.{signed-fits}
use Rattle.file_rules.proofs.BlockLaws.{every-snoc}

pub record LiteralKept (at : ℕ) (z : ℤ) (q : ℕ) : Type 0 where
  pub ok : mag z < 2 ^ 63
  pub near : q ≤ at + 64

pub literal-kept : (s : List ℕ) (at : ℕ) → All (LiteralKept at) (literal_at s at)
unfolding literal_at
literal-kept s at =
    all_then (field s at 64) _ (λ v p e.
    let f = field-read s at 64 e in
    all-got (record { ok = (signed-fits v f.small).sfits; near = omega (arith, f.end) }))

pub record LiteralsKept (at : ℕ) (xs : List ℤ) (q : ℕ) : Type 0 where
  pub ok : Every (λ z. mag z < 2 ^ 63) xs
  pub near : q ≤ at + 64 * length xs

pub literals-kept : (s : List ℕ) (n at : ℕ) → All (LiteralsKept at) (literals_at s n at)
unfolding literals_at
literals-kept s n at =
    many-all _ (LiteralsKept at)
    (λ xs p h.
    all_map
    (λ z q k. record { ok = every-snoc h.ok k.ok; near = simp length-append (omega (arith, h.near, k.near)) })
    (literal-kept s p))
    n at [] (record { ok = every-nil; near = omega arith })

pub literals-length : (s : List ℕ) (n at : ℕ) {xs : List ℤ} {q : ℕ} → literals_at s n at ≡ got xs q → length xs ≡ n
unfolding literals_at
literals-length s n at e = many-length _ n at e
