-- What the reader of a function leaves in the arrays: the function at its place, the rest as before.
-- Assumes nothing: definitions.
use Rattle.std.specs.Prelude.{ℕ, ◌*◌, ◌≡◌, List, length, set, replicate}
use Rattle.std.proofs.lemmas.List.Edits.{sets}
use Rattle.name.specs.Entries.{table_length, put_name}
use Rattle.file_rules.specs.Table.{Function}

pub record PutFunction (i : ℕ)
    (names₀ declared₀ costs₀ unextractable₀ hidden₀ outputs₀ arities₀ arguments₀ : List ℕ)
    (names declared costs unextractable hidden outputs arities arguments : List ℕ) (f : Function) : Type 0 where
  pub names_put : names ≡ put_name names₀ i f.name
  pub declared_put : declared ≡ set declared₀ i f.has_cost
  pub costs_put : costs ≡ set costs₀ i f.cost
  pub unextractable_put : unextractable ≡ set unextractable₀ i f.unextractable
  pub hidden_put : hidden ≡ set hidden₀ i f.hidden
  pub outputs_put : outputs ≡ set outputs₀ i f.output
  pub arities_put : arities ≡ set arities₀ i (length f.arguments)
  pub arguments_put : arguments ≡ sets arguments₀ (i * 8) f.arguments

-- The arrays of functions before the first is read.
pub record Zeros (names declared costs unextractable hidden outputs arities arguments : List ℕ) : Type 0 where
  pub names_zero : names ≡ replicate table_length 0
  pub declared_zero : declared ≡ replicate 128 0
  pub costs_zero : costs ≡ replicate 128 0
  pub unextractable_zero : unextractable ≡ replicate 128 0
  pub hidden_zero : hidden ≡ replicate 128 0
  pub outputs_zero : outputs ≡ replicate 128 0
  pub arities_zero : arities ≡ replicate 128 0
  pub arguments_zero : arguments ≡ replicate 1024 0
