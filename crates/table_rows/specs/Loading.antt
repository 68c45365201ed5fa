-- A table file and a root: the first fault, a literal, or a class with its rows. Assumes nothing: definitions.
use Prim.{Unit}
use Rattle.std.specs.Prelude.{ℕ, ◌≡◌, List, [], ◌∷◌, map, ℤ, pos, length, replicate}
use Rattle.std.specs.Prelude.{Option, Some, None, Result, Ok, Err, ok_or}
use Rattle.refusal.specs.declared.Refusal.{Refusal}
use Rattle.refusal.specs.declared.Refusal.TheVariants.{BadRoot}
use Rattle.name.specs.Entries.{table_length, entry}
use Rattle.bits.specs.Got.{Got, got, refused}
use Rattle.file_rules.specs.declared.Table.{Table as Arrays}
use Rattle.file_rules.specs.Table.{Function, Row, Table}
use Rattle.file_rules.specs.Arrays.{pad, blocks, HoldsLiterals}
use Rattle.file_rules.specs.Reading.{OnGot}
use Rattle.table_rows.specs.Rooted.{root_of}
use Rattle.table_rows.specs.Flattened.{Flattened}
use Rattle.table_rows.specs.declared.prepare.Root.{Root}
use Rattle.table_rows.specs.declared.prepare.Root.TheVariants.{Class as RootClass, Literal as RootLiteral}
use Rattle.table_rows.specs.declared.Loaded.{Loaded}
use Rattle.table_rows.specs.declared.Loaded.TheVariants.{Class, Literal}

-- The arrays before the file is read: five of zeros, and the other nine as they may be.
pub record Blank (a : Arrays) : Type 0 where
  pub literals_zero : a.literals ≡ replicate 512 (pos 0)
  pub names_zero : a.functions.names ≡ replicate table_length 0
  pub arities_zero : a.functions.arities ≡ replicate 128 0
  pub row_functions_zero : a.rows.functions ≡ replicate 1024 0
  pub cells_zero : a.rows.cells ≡ replicate 9216 0

-- A fault, a literal or a class.
pub data Asked : Type 0 where
  fault : Refusal → Asked
  literal : ℕ → Asked
  class : ℕ → Asked

abbrev pub asked_in : Result Loaded Refusal → Asked
asked_in (Err r) = fault r
asked_in (Ok (Literal i)) = literal i
asked_in (Ok (Class c f)) = class c

-- "BadRoot: asked sort not below S, or value out of its range"
abbrev pub asked_of : Option Root → Asked
asked_of None = fault BadRoot
asked_of (Some (RootLiteral i)) = literal i
asked_of (Some (RootClass c)) = class c

-- "Best and variants: file, 10": the file's faults come before the root's.
unfoldable pub asked : Got Table → ℕ → ℕ → Asked
asked (refused r) s v = fault r
asked (got t k) s v = asked_of (root_of t s v)

-- What is answered for what was opened.
abbrev pub loaded_of : Option Loaded → Result Loaded Refusal
loaded_of o = ok_or o BadRoot

-- P of the numbers of rows, children and classes, where the answer is a class.
abbrev pub OnClass : Result Loaded Refusal → (ℕ → ℕ → ℕ → Type 0) → Type 0
OnClass (Err r) P = Unit {0}
OnClass (Ok (Literal i)) P = Unit {0}
OnClass (Ok (Class c f)) P = P f.rows f.children f.classes

-- What stands in the lent arrays and lists, where a table was read.
pub record Standing (t : Table) (s : ℕ) (r : Result Loaded Refusal) (literals : List ℤ)
    (names arities row_functions cells : List ℕ)
    (order flat heads starts children : List ℕ) : Type 0 where
  pub literals_held : HoldsLiterals literals t.literals
  pub names_are : names ≡ pad table_length (blocks (λ (f : Function). entry f.name) t.functions)
  pub arities_are : arities ≡ pad 128 (map (λ (f : Function). length f.arguments) t.functions)
  pub row_functions_are : row_functions ≡ pad 1024 (map (λ (r : Row). r.function) t.rows)
  pub cells_are : cells ≡ pad 9216 (blocks (λ (r : Row). pad 9 r.cells) t.rows)
  pub reached : OnClass r (λ n m w. Flattened t (s ∷ []) n m w order flat heads starts children)

pub record Loads (g : Got Table) (s v : ℕ) (r : Result Loaded Refusal) (literals : List ℤ)
    (names arities row_functions cells : List ℕ)
    (order flat heads starts children : List ℕ) : Type 0 where
  pub answer : asked_in r ≡ asked g s v
  pub filled :
      OnGot g (λ t. Standing t s r literals names arities row_functions cells order flat heads starts children)
