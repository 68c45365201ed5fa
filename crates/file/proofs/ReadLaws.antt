-- What the public call answers, from what the reader of its own arrays does. Assumes nothing.
use Prim.Native.Nat.{ℕ}
use mathlib.Core.List.{List}
use mathlib.Core.Path.{◌≡◌, ap, ◌∙◌}
use lib.IntN.{ℤ}
use Rattle.std.specs.Prelude.{Result, Ok, Err}
use Rattle.std.specs.Result.{IsErrAnd}
use Rattle.refusal.specs.declared.Refusal.{Refusal}
use Rattle.bits.specs.Got.{Got, got, refused}
use Rattle.file_rules.specs.declared.Counts.{Counts as Told}
use Rattle.file_rules.specs.Table.{Table}
use Rattle.file_rules.specs.Arrays.{Holds}
use Rattle.file_rules.specs.Reading.{OnGot}
use Rattle.file_rules.proofs.ReadingLaws.{exit-is}
use Rattle.file_reader.specs.Outcome.{outcome_of, Answers}
use Rattle.file.specs.Lent.{Arrays, lent, arrays_of, seen, read_of}

-- Arrays that hold a table are its arrays.
pub arrays-held : {kinds classes : List ℕ} {literals : List ℤ}
    {names declared costs unextractable hidden outputs arities arguments functions subsumed cells : List ℕ} {t : Table}
    → Holds kinds classes literals names declared costs unextractable hidden outputs arities arguments
    functions subsumed cells t
    → lent kinds classes literals names declared costs unextractable hidden outputs arities arguments functions
    subsumed cells ≡ arrays_of t
arrays-held h =
    rw (
      h.sorts_held.kinds_are,
      h.sorts_held.classes_are,
      h.literals_held.literals_are,
      h.functions_held.names_are,
      h.functions_held.declared_are,
      h.functions_held.costs_are,
      h.functions_held.unextractable_are,
      h.functions_held.hidden_are,
      h.functions_held.outputs_are,
      h.functions_held.arities_are,
      h.functions_held.arguments_are,
      h.rows_held.functions_are,
      h.rows_held.subsumed_are,
      h.rows_held.cells_are,
    )

refuse-by : (g : Got Table) {x : Refusal} (before : Arrays) → Err x ≡ outcome_of g
    → seen (Err x) before ≡ read_of g before
refuse-by (got t k) before e = cc
refuse-by (refused y) before e = ap (λ (o : Result Told Refusal). seen o before) e

-- At the exit of a `?`.
pub read-refuses : {P : Table → Type 0} {g : Got Table} (r : Result Told Refusal) {x : Refusal} (before : Arrays)
    → IsErrAnd r (λ y. y ≡ x) → Answers g (Err x) P → seen r before ≡ read_of g before
read-refuses {g = g} r before h a = rw (exit-is r h) (refuse-by g before a.answer)

accept-by : (g : Got Table) {c : Told} (own before : Arrays) → Ok c ≡ outcome_of g → OnGot g (λ t. own ≡ arrays_of t)
    → seen (Ok c) own ≡ read_of g before
unfolding OnGot
accept-by (got t k) own before e h = ap (λ (o : Result Told Refusal). seen o own) e ∙ rw h
accept-by (refused x) own before e h = cc

on-map : {P Q : Table → Type 0} (g : Got Table) → ((t : Table) → P t → Q t) → OnGot g P → OnGot g Q
unfolding OnGot
on-map (got t k) f h = f t h
on-map (refused x) f h = h

module _ {kinds classes : List ℕ} {literals : List ℤ}
    {names declared costs unextractable hidden outputs arities arguments functions subsumed cells : List ℕ} where
  pub read-accepts : {g : Got Table} {c : Told} (before : Arrays)
      → Answers g (Ok c) (Holds kinds classes literals names declared costs unextractable hidden outputs arities
      arguments functions subsumed cells)
      → seen (Ok c) (lent kinds classes literals names declared costs unextractable hidden outputs arities arguments
      functions subsumed cells)
      ≡ read_of g before
  read-accepts {g} before h = accept-by g _ before h.answer (on-map g (λ t o. arrays-held o) h.filled)
