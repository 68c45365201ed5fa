-- Laws of the parts of a table file, one for each way that their reading goes. Assumes nothing.
use Prim.Native.Nat.{ℕ, ◌+◌, ◌*◌, ◌/◌, ◌%◌, ◌≤◌, ◌<◌}
use mathlib.Core.List.{List}
use mathlib.Core.Path.{◌≡◌}
use native.Mathlib.Omega.{arith}
use lib.ListN.{length}
use borrow.Author.Tests.{leb-true, le-leb, lt-leb, eq-eqb, ne_eqb}
use Rattle.refusal.specs.declared.Refusal.{Refusal}
use Rattle.refusal.specs.declared.Refusal.TheVariants.{BadVersion, BadSize, Trailing}
use Rattle.bits.specs.Got.{Got, got, refused, then, must}
use Rattle.bits.specs.Field.{field}
use Rattle.bits.proofs.FieldLaws.{field-read}
use Rattle.bits.proofs.GotLaws.{All, all-at, all_of, all_then, all-must}
use Rattle.file_rules.specs.Table.{Row}
use Rattle.file_rules.specs.Sorts.{sorts_at}
use Rattle.file_rules.specs.Literals.{literals_at}
use Rattle.file_rules.specs.Functions.{functions_at}
use Rattle.file_rules.specs.File.{version_at, sorts_part, literals_part, functions_part, pad_bits, end_at}
use Rattle.std.specs.Prelude.{Result}
use Rattle.file_rules.specs.declared.Counted.{Counted}
use Rattle.file_rules.specs.Reading.{Counts}
use Rattle.file_rows.specs.In.{rows_in, Sound}
use Rattle.file_rows.proofs.RowLaws.{rows_in-near}
use Rattle.file_reader.specs.Parts.{rows_part_in}

pub counts-along : {A : Type 0} {P : List A → Type 0} {g h : Got (List A)} {r : Result Counted Refusal} → h ≡ g → Counts g r P
    → Counts h r P
counts-along e c = rw e c

module _ (s : List ℕ) (at : ℕ) where
  pub version-refused : {r : Refusal} → field s at 4 ≡ refused r → version_at s at ≡ refused r
  unfolding version_at then
  version-refused e = rw e

  module _ {v p : ℕ} (e : field s at 4 ≡ got v p) where
    pub version-other : (v ≡ 1 → ⊥) → version_at s at ≡ refused BadVersion
    unfolding version_at then must
    version-other o = rw (e, ne_eqb _ _ o)

    pub version-one : v ≡ 1 → version_at s at ≡ got v p
    unfolding version_at then must
    version-one o = rw (e, eq-eqb _ _ o)

  pub sorts-refused : {r : Refusal} → field s at 5 ≡ refused r → sorts_part s at ≡ refused r
  unfolding sorts_part then
  sorts-refused e = rw e

  pub sorts-from : {n p : ℕ} → field s at 5 ≡ got n p → sorts_part s at ≡ sorts_at s n p
  unfolding sorts_part then
  sorts-from e = rw e

  pub literals-refused : {r : Refusal} → field s at 9 ≡ refused r → literals_part s at ≡ refused r
  unfolding literals_part then
  literals-refused e = rw e

  pub literals-from : {n p : ℕ} → field s at 9 ≡ got n p → literals_part s at ≡ literals_at s n p
  unfolding literals_part then
  literals-from e = rw e

  pub functions-refused : (kinds : List ℕ) {r : Refusal} → field s at 7 ≡ refused r
      → functions_part s kinds at ≡ refused r
  unfolding functions_part then
  functions-refused kinds e = rw e

  pub functions-from : (kinds : List ℕ) {n p : ℕ} → field s at 7 ≡ got n p
      → functions_part s kinds at ≡ functions_at s kinds n p
  unfolding functions_part then
  functions-from kinds e = rw e

  module _ (kinds classes : List ℕ) (l count : ℕ) (outputs arities arguments : List ℕ) where
    pub rows_refused : {r : Refusal} → field s at 11 ≡ refused r
        → rows_part_in s kinds classes l count outputs arities arguments at ≡ refused r
    unfolding rows_part_in then
    rows_refused e = rw e

    module _ {n p : ℕ} (e : field s at 11 ≡ got n p) where
      pub rows-over : 1024 < n → rows_part_in s kinds classes l count outputs arities arguments at ≡ refused BadSize
      unfolding rows_part_in then must
      rows-over h = rw (e, lt-leb _ _ h)

      pub rows-from : n ≤ 1024
          → rows_part_in s kinds classes l count outputs arities arguments at ≡ rows_in s kinds classes l count outputs
          arities arguments n p
      unfolding rows_part_in then must
      rows-from h = rw (e, le-leb _ _ h)

  pub end_refused : {r : Refusal} → field s at (pad_bits at) ≡ refused r → end_at s at ≡ refused r
  unfolding end_at then
  end_refused e = rw e

  module _ {v p : ℕ} (e : field s at (pad_bits at) ≡ got v p) where
    pub end-set : (v ≡ 0 → ⊥) → end_at s at ≡ refused Trailing
    unfolding end_at then must
    end-set o = rw (e, ne_eqb _ _ o)

    module _ (z : v ≡ 0) where
      whole : p % 8 ≡ 0
      whole = omega (arith, (field-read s at (pad_bits at) e).end)

      pub end_more : (p / 8 ≡ length s → ⊥) → end_at s at ≡ refused Trailing
      unfolding end_at then must
      end_more o =
          let n : p ≡ 8 * length s → ⊥ = λ d. o (omega arith) in
          rw (e, eq-eqb _ _ z, ne_eqb _ _ n)

      pub end-here : p / 8 ≡ length s → end_at s at ≡ got p p
      unfolding end_at then must
      end-here o =
          let d : p ≡ 8 * length s = omega (arith, whole) in
          rw (e, eq-eqb _ _ z, eq-eqb _ _ d)

near_by : (s kinds classes : List ℕ) (l count : ℕ) (outputs arities arguments : List ℕ) (at : ℕ)
    → Sound outputs arities arguments
    → All (λ rows q. q ≤ at + 91147) (rows_part_in s kinds classes l count outputs arities arguments at)
unfolding rows_part_in
near_by s kinds classes l count outputs arities arguments at sound =
    all_then (field s at 11) _ (λ n p e.
    let f = field-read s at 11 e in
    all-must _ _ _ (λ b.
    let m : n ≤ 1024 = leb-true _ _ b in
    all_of _ (λ rows q d.
    let k = rows_in-near s kinds classes l count outputs arities arguments sound n p d in
    omega (arith, f.end))))

-- The rows with their count take at most 91,147 bits.
pub rows-near : (s kinds classes : List ℕ) (l count : ℕ) (outputs arities arguments : List ℕ) (at : ℕ)
    → Sound outputs arities arguments
    → {rows : List Row} {q : ℕ} → rows_part_in s kinds classes l count outputs arities arguments at ≡ got rows q
    → q ≤ at + 91147
rows-near s kinds classes l count outputs arities arguments at sound e =
    all-at (rw e at (near_by s kinds classes l count outputs arities arguments at sound))
