-- The loop over the argument sorts of a function. Assumes nothing.
use Prim.Native.Nat.{ℕ, ◌+◌, ◌*◌, ◌≤◌, ◌<◌}
use mathlib.Core.List.{List, [], ◌∷◌, ◌++◌}
use mathlib.Core.Path.{◌≡◌, refl, sym}
use native.Mathlib.Omega.{arith}
use lib.ListN.{set}
use Rattle.refusal.specs.declared.Refusal.{Refusal}
use Rattle.bits.specs.Got.{got, refused, many}
use Rattle.bits.specs.Field.{field}
use Rattle.bits.proofs.FieldLaws.{field-read}
use Rattle.bits.proofs.GotLaws.{Loop, loop-start, loop-more, loop-refuses, loop-ends}
use Rattle.file_rules.proofs.ArraysLaws.{sets-snoc}
use Rattle.file_fields.specs.Put.{PutList, argument_of}
use Rattle.file_fields.proofs.function_fields.StepLaws.{argument-in}

-- The loop over m argument sorts from at: those of xs are read up to p and stand from place `from` on.
pub record Arguments-read (s : List ℕ) (n at m from : ℕ) (arguments₀ arguments : List ℕ) (p j : ℕ) : Type 0 where
  pub xs : List ℕ
  pub loop : Loop (argument_of s n) m at p j xs
  pub near : p ≤ at + 5 * j
  pub held : PutList from arguments₀ arguments xs

module _ {s : List ℕ} {n at m from : ℕ} {arguments₀ : List ℕ} where
  pub arguments-start : Arguments-read s n at m from arguments₀ arguments₀ at 0
  arguments-start =
      record { xs = []; loop = loop-start; near = omega arith; held = record { put = refl } }

  module _ {arguments : List ℕ} {p j : ℕ} (l : Arguments-read s n at m from arguments₀ arguments p j) where
    pub arguments-more : {v q : ℕ} → j < m → field s p 5 ≡ got v q → v < n
        → Arguments-read s n at m from arguments₀ (set arguments (from + j) v) q (j + 1)
    arguments-more {v} {q} h e d =
        let k = field-read s p 5 e in
        record {
          xs = l.xs ++ (v ∷ []);
          loop = loop-more l.loop h (argument-in s p n e d);
          near = omega (arith, k.end, l.near);
          held = record { put = rw (l.held.put, ← l.loop.some) (sym (sets-snoc arguments₀ from l.xs v)) };
        }

    pub arguments-refuse : {r : Refusal} → j < m → argument_of s n l.xs p ≡ refused r
        → many (argument_of s n) m at [] ≡ refused r
    arguments-refuse h e = loop-refuses l.loop h e

    pub arguments-end : m ≤ j → many (argument_of s n) m at [] ≡ got l.xs p
    arguments-end h = loop-ends l.loop h
