-- How a table stands in arrays: each list from the front, zeros after it. Assumes nothing: definitions.
use Rattle.std.specs.Prelude.{ℕ, ◌-◌, ◌≡◌, List, [], ◌∷◌, ◌++◌, map, ℤ, pos, length, replicate}
use Rattle.name.specs.Entries.{table_length, entry}
use Rattle.file_rules.specs.Table.{Sort, Function, Row, Table}
use Rattle.file_rules.specs.Sorts.{kinds_of}

-- A list, and z up to n elements.
unfoldable pub pad_with : {A : Type 0} → A → ℕ → List A → List A
pad_with z n xs = xs ++ replicate (n - length xs) z

-- A list of numbers, and zeros up to n elements.
abbrev pub pad : ℕ → List ℕ → List ℕ
pad n xs = pad_with 0 n xs

-- The sorts in their two arrays.
pub record HoldsSorts (kinds classes : List ℕ) (xs : List Sort) : Type 0 where
  pub kinds_are : kinds ≡ pad 32 (kinds_of xs)
  pub classes_are : classes ≡ pad 32 (map (λ (x : Sort). x.classes) xs)

-- The literals in their array.
pub record HoldsLiterals (literals : List ℤ) (xs : List ℤ) : Type 0 where
  pub literals_are : literals ≡ pad_with (pos 0) 512 xs

-- The lists of all, one after the other.
unfoldable pub blocks : {A : Type 0} → (A → List ℕ) → List A → List ℕ
blocks f [] = []
blocks f (x ∷ xs) = f x ++ blocks f xs

-- The functions in their eight arrays: an entry for a name, 8 places for the argument sorts.
pub record HoldsFunctions (names declared costs unextractable hidden outputs arities arguments : List ℕ)
    (fs : List Function) : Type 0 where
  pub names_are : names ≡ pad table_length (blocks (λ (f : Function). entry f.name) fs)
  pub declared_are : declared ≡ pad 128 (map (λ (f : Function). f.has_cost) fs)
  pub costs_are : costs ≡ pad 128 (map (λ (f : Function). f.cost) fs)
  pub unextractable_are : unextractable ≡ pad 128 (map (λ (f : Function). f.unextractable) fs)
  pub hidden_are : hidden ≡ pad 128 (map (λ (f : Function). f.hidden) fs)
  pub outputs_are : outputs ≡ pad 128 (map (λ (f : Function). f.output) fs)
  pub arities_are : arities ≡ pad 128 (map (λ (f : Function). length f.arguments) fs)
  pub arguments_are : arguments ≡ pad 1024 (blocks (λ (f : Function). pad 8 f.arguments) fs)

-- The rows in their three arrays: 9 places for the cells.
pub record HoldsRows (functions subsumed cells : List ℕ) (rows : List Row) : Type 0 where
  pub functions_are : functions ≡ pad 1024 (map (λ (r : Row). r.function) rows)
  pub subsumed_are : subsumed ≡ pad 1024 (map (λ (r : Row). r.subsumed) rows)
  pub cells_are : cells ≡ pad 9216 (blocks (λ (r : Row). pad 9 r.cells) rows)

-- A table in its fourteen arrays.
pub record Holds (kinds classes : List ℕ) (literals : List ℤ)
    (names declared costs unextractable hidden outputs arities arguments functions subsumed cells : List ℕ) (t : Table)
    : Type 0 where
  pub sorts_held : HoldsSorts kinds classes t.sorts
  pub literals_held : HoldsLiterals literals t.literals
  pub functions_held : HoldsFunctions names declared costs unextractable hidden outputs arities arguments t.functions
  pub rows_held : HoldsRows functions subsumed cells t.rows
