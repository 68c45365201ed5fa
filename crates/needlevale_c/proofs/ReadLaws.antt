-- What the promises of reading a table file rest on. Assumes nothing.
use mathlib.Core.Path.{◌≡◌, refl, ap, ◌∙◌}
use mathlib.Core.List.{List}
use Prim.Native.Nat.{ℕ}
use Rattle.refusal.specs.declared.Refusal.{Refusal}
use Rattle.bits.specs.Bits.{bits_of}
use Rattle.bits.specs.Got.{Got, got, refused}
use Rattle.file_rules.specs.Table.{Table}
use Rattle.file_rules.specs.File.{table_at}
use Rattle.file_rules.specs.Accepted.{Accepted}
use Rattle.file_rules.specs.Code.{code_file}
use Rattle.file.specs.Promises.{Holding}
use Rattle.file.proofs.Promises.{promises as files}
use Rattle.c_told.specs.Files.{table_shape, fault_shape, shape_of}
use Rattle.c_told.specs.declared.files.Shape.{Shape}

module _ (file : List ℕ) where
  pub read_accepted :
      (t : Table) (z : Shape) → Accepted t → bits_of file ≡ code_file t → z ≡ shape_of (table_at file) → z ≡ table_shape t
  read_accepted t z ok code h = h ∙ ap shape_of (files.code_is_file file t ok code).is

  Fault : Shape → Type 0
  Fault z = (r : Refusal) × ((table_at file ≡ refused r) × (z ≡ fault_shape r))

  by :
      (z : Shape) (g : Got Table) →
      table_at file ≡ g →
      ((t : Table) → Accepted t → bits_of file ≡ code_file t → ⊥) →
      z ≡ shape_of (table_at file) →
      Fault z
  unfolding Fault
  by z (got t k) e other h =
      let held : Holding file t = record { end = k; is = e } in
      absurd (other t (files.accepted file t held) (files.file_is_code file t held))
  by z (refused r) e other h = (r, (e, h ∙ ap shape_of e))

  pub read_refused :
      (z : Shape) →
      ((t : Table) → Accepted t → bits_of file ≡ code_file t → ⊥) →
      z ≡ shape_of (table_at file) →
      (r : Refusal) × ((table_at file ≡ refused r) × (z ≡ fault_shape r))
  unfolding Fault
  read_refused z other h = by z (table_at file) refl other h
