-- Laws of the reading of a function's fields, one for each way that a reading goes. Assumes nothing.
use Prim.Native.Nat.{ℕ, ◌≤◌, ◌<◌}
use mathlib.Core.List.{List, []}
use mathlib.Core.Path.{◌≡◌}
use lib.ListN.{length, get_or, take}
use lib.Seq.{length-take-le, get_or-take}
use borrow.Author.Tests.{lt-ltb, le-ltb, le-leb, lt-leb, eq-eqb, ne_eqb}
use Rattle.refusal.specs.declared.Refusal.{Refusal}
use Rattle.refusal.specs.declared.Refusal.TheVariants.{BadSize, BadSort}
use Rattle.bits.specs.Got.{got, refused, then, must, pick, many}
use Rattle.bits.specs.Field.{field}
use Rattle.file_rules.specs.Functions.{cost_at, flags_at, output_at, argument_at, arguments_at}
use Rattle.file_fields.specs.Put.{argument_of}

module _ (s : List ℕ) (at : ℕ) where
  pub cost-refused : {r : Refusal} → field s at 1 ≡ refused r → cost_at s at ≡ refused r
  unfolding cost_at then
  cost-refused e = rw e

  module _ {has p : ℕ} (e : field s at 1 ≡ got has p) where
    pub cost-none : has ≡ 0 → cost_at s at ≡ got (record { has_cost = 0; cost = 0 }) p
    unfolding cost_at then pick
    cost-none z = rw (e, eq-eqb _ _ z)

    module _ (o : has ≡ 0 → ⊥) where
      pub cost-cut : {r : Refusal} → field s p 64 ≡ refused r → cost_at s at ≡ refused r
      unfolding cost_at then pick
      cost-cut d = rw (e, ne_eqb _ _ o, d)

      pub cost-some : {cost q : ℕ} → field s p 64 ≡ got cost q
          → cost_at s at ≡ got (record { has_cost = 1; cost = cost }) q
      unfolding cost_at then pick
      cost-some d = rw (e, ne_eqb _ _ o, d)

  pub flags-refused : {r : Refusal} → field s at 1 ≡ refused r → flags_at s at ≡ refused r
  unfolding flags_at then
  flags-refused e = rw e

  module _ {u p : ℕ} (e : field s at 1 ≡ got u p) where
    pub flags-cut : {r : Refusal} → field s p 1 ≡ refused r → flags_at s at ≡ refused r
    unfolding flags_at then
    flags-cut d = rw (e, d)

    pub flags-both : {h q : ℕ} → field s p 1 ≡ got h q
        → flags_at s at ≡ got (record { unextractable = u; hidden = h }) q
    unfolding flags_at then
    flags-both d = rw (e, d)

  pub output-refused : (kinds : List ℕ) → {r : Refusal} → field s at 5 ≡ refused r → output_at s kinds at ≡ refused r
  unfolding output_at then
  output-refused kinds e = rw e

  -- The n sorts have the first kinds of an array.
  module _ (n : ℕ) (kinds : List ℕ) where
    module _ (b : n ≤ length kinds) {k p : ℕ} (e : field s at 5 ≡ got k p) where
      pub output-over : n ≤ k → output_at s (take n kinds) at ≡ refused BadSort
      unfolding output_at then must
      output-over h = rw (e, length-take-le n kinds b, le-ltb _ _ h)

      pub output-base : k < n → (get_or kinds k 0 ≡ 1 → ⊥) → output_at s (take n kinds) at ≡ refused BadSort
      unfolding output_at then must
      output-base h o = rw (e, length-take-le n kinds b, lt-ltb _ _ h, get_or-take n kinds k 0 h, ne_eqb _ _ o)

      pub output_eq : k < n → get_or kinds k 0 ≡ 1 → output_at s (take n kinds) at ≡ got k p
      unfolding output_at then must
      output_eq h o = rw (e, length-take-le n kinds b, lt-ltb _ _ h, get_or-take n kinds k 0 h, eq-eqb _ _ o)

  module _ (n : ℕ) where
    pub argument-refused : {r : Refusal} → field s at 5 ≡ refused r → argument_at s n at ≡ refused r
    unfolding argument_at then
    argument-refused e = rw e

    module _ {k p : ℕ} (e : field s at 5 ≡ got k p) where
      pub argument-over : n ≤ k → argument_at s n at ≡ refused BadSort
      unfolding argument_at then must
      argument-over h = rw (e, le-ltb _ _ h)

      pub argument-in : k < n → argument_at s n at ≡ got k p
      unfolding argument_at then must
      argument-in h = rw (e, lt-ltb _ _ h)

    pub arguments-refused : {r : Refusal} → field s at 4 ≡ refused r → arguments_at s n at ≡ refused r
    unfolding arguments_at then
    arguments-refused e = rw e

    module _ {m p : ℕ} (e : field s at 4 ≡ got m p) where
      pub arguments-over : 8 < m → arguments_at s n at ≡ refused BadSize
      unfolding arguments_at then must
      arguments-over h = rw (e, lt-leb _ _ h)

      pub arguments-from : m ≤ 8 → arguments_at s n at ≡ many (argument_of s n) m p []
      unfolding arguments_at then must
      arguments-from h = rw (e, le-leb _ _ h)
