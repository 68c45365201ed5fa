-- Laws of the reading of literals. Assumes nothing.
use Prim.Native.Nat.{ℕ, ◌+◌, ◌*◌, ◌≤◌, ◌<◌}
use mathlib.Core.List.{List, [], ◌∷◌, ◌++◌}
use mathlib.Core.Path.{◌≡◌, sym, ◌∙◌}
use native.Mathlib.Omega.{arith}
use lib.IntN.{ℤ, pos}
use lib.ListN.{replicate, set}
use mir.Syntax.{w64}
use mir.Val.{to_z, of_z}
use Rattle.refusal.specs.declared.Refusal.{Refusal}
use Rattle.bits.specs.Got.{got, refused, then}
use Rattle.bits.specs.Field.{field}
use Rattle.bits.proofs.FieldLaws.{field-read}
use Rattle.bits.proofs.GotLaws.{Loop, loop-start, loop-more, loop-refuses, loop-ends}
use Rattle.file_rules.specs.Literals.{signed, literal_at, literals_at}
use Rattle.file_rules.specs.Arrays.{HoldsLiterals}
use Rattle.file_rules.proofs.SignedLaws.{signed-kept}
use Rattle.file_rules.proofs.ArraysLaws.{pad_with-nil, pad_with-set}

module _ (s : List ℕ) (at : ℕ) where
  pub literal-refused : {r : Refusal} → field s at 64 ≡ refused r → literal_at s at ≡ refused r
  unfolding literal_at then
  literal-refused e = rw e

  pub literal-value : {v q : ℕ} → field s at 64 ≡ got v q → literal_at s at ≡ got (signed v) q
  unfolding literal_at then
  literal-value e = rw e

-- The loop over n literals from at: those of xs are read up to p and stand in the array.
pub record Literals-read (s : List ℕ) (at n : ℕ) (literals : List ℤ) (p i : ℕ) : Type 0 where
  pub xs : List ℤ
  pub loop : Loop (λ xs p. literal_at s p) n at p i xs
  pub near : p ≤ at + 64 * i
  pub held : HoldsLiterals literals xs

module _ {s : List ℕ} {at n : ℕ} {literals : List ℤ} where
  pub literals-start : literals ≡ replicate 512 (pos 0) → Literals-read s at n literals at 0
  literals-start e =
      record {
        xs = [];
        loop = loop-start;
        near = omega arith;
        held = record { literals_are = e ∙ sym (pad_with-nil (pos 0) 512) };
      }

  module _ {p i : ℕ} (l : Literals-read s at n literals p i) where
    pub literals-more : {v q : ℕ} {z : ℤ} → n < 512 → i < n → field s p 64 ≡ got v q → z ≡ signed v
        → Literals-read s at n (set literals i (to_z w64 (of_z w64 z))) q (i + 1)
    literals-more {v} {q} {z} b h e d =
        let k = field-read s p 64 e in
        let o = l.loop.some in
        let small : i < 512 = omega arith in
        record {
          xs = l.xs ++ (signed v ∷ []);
          loop = loop-more l.loop h (literal-value s p e);
          near = omega (arith, k.end, l.near);
          held =
              record {
                literals_are = rw (l.held.literals_are, d, signed-kept v k.small)
                    (pad_with-set (pos 0) 512 l.xs i (signed v) o small);
              };
        }

    pub literals-refuse : {r : Refusal} → i < n → field s p 64 ≡ refused r → literals_at s n at ≡ refused r
    unfolding literals_at
    literals-refuse h e = loop-refuses l.loop h (literal-refused s p e)

    pub literals_end : n ≤ i → literals_at s n at ≡ got l.xs p
    unfolding literals_at
    literals_end h = loop-ends l.loop h
