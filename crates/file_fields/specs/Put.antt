-- What a reader of a function's fields leaves in the arrays: the field's value at its place, the rest as before.
-- Assumes nothing: definitions.
use Rattle.std.specs.Prelude.{ℕ, ◌*◌, ◌≡◌, List, length, set}
use Rattle.std.proofs.lemmas.List.Edits.{sets}
use Rattle.bits.specs.Got.{Got}
use Rattle.file_rules.specs.Functions.{Cost, Flags, argument_at}

pub record PutCost (i : ℕ) (declared₀ costs₀ declared costs : List ℕ) (x : Cost) : Type 0 where
  pub declared_put : declared ≡ set declared₀ i x.has_cost
  pub costs_put : costs ≡ set costs₀ i x.cost

pub record PutFlags (i : ℕ) (unextractable₀ hidden₀ unextractable hidden : List ℕ) (x : Flags) : Type 0 where
  pub unextractable_put : unextractable ≡ set unextractable₀ i x.unextractable
  pub hidden_put : hidden ≡ set hidden₀ i x.hidden

pub record PutOne (i : ℕ) (array₀ array : List ℕ) (x : ℕ) : Type 0 where
  pub put : array ≡ set array₀ i x

-- Each of the list at the next place from `from`.
pub record PutList (from : ℕ) (array₀ array : List ℕ) (xs : List ℕ) : Type 0 where
  pub put : array ≡ sets array₀ from xs

-- The arity at place i, the argument sorts from place 8 i.
pub record PutArguments (i : ℕ) (arities₀ arguments₀ arities arguments : List ℕ) (xs : List ℕ) : Type 0 where
  pub arities_put : arities ≡ set arities₀ i (length xs)
  pub arguments_put : arguments ≡ sets arguments₀ (i * 8) xs

-- How one argument sort is read, whatever stands before it.
abbrev pub argument_of : List ℕ → ℕ → List ℕ → ℕ → Got ℕ
argument_of s sort_count xs p = argument_at s sort_count p
