-- The five theorems that a reader comes for, one for each floor of document 01: read, one number per term, texts by
-- terms, demand 3 with room, the program. The promise pages below have the rest, and docs/BELIEVE.md the definitions.
-- Assumes nothing: statements, kept by `theorems` of proofs/Main.antt.
use Rattle.std.specs.Prelude.{◌≡◌, true, List, ◌↔◌, ◌⊎◌, ℕ, ◌≤◌, ◌<◌, length}
use Rattle.bits.specs.Bits.{bits_of}
use Rattle.choice_rules.specs.Deriving.{Tree as RowTree, tree_cost}
use Rattle.file_rules.specs.Table.{Table}
use Rattle.file_rules.specs.Accepted.{Accepted}
use Rattle.file_rules.specs.Code.{code_file}
use Rattle.file.specs.Promises.{Holding}
use Rattle.term_rules.specs.Lent.{Store}
use Rattle.term_rules.specs.WellFormed.{well_formed}
use Rattle.term_rules.specs.Nodes.{Tree, Means}
use Rattle.text_rules.specs.PlainText.{plain_text}
use Rattle.text_rules.specs.LetText.{Naming, let_text}
use Rattle.text.specs.Promises.{Has}
use Rattle.table_rules.specs.Rules.Rows.{table_rows}
use Rattle.table_rules.specs.Rules.Choosing.{limit, Prices}
use Rattle.answer_rules.specs.Answers.{value, refusal, After}
use Rattle.answer_rules.specs.Best.{BestTerm}
use Rattle.answer_rules.specs.Room.{NoRoomFor}
use Rattle.answer_rules.specs.Demand.{Choice, chosen_term, ComesBack}
use Rattle.extract.specs.Promises.{Derivation, OfClasses}
use Rattle.program_rules.specs.Reply.{reply, responded}
use Rattle.program.specs.Promises.{Stands}

-- Demand 3, of the answer a about class c of an accepted table, over a well-formed store s.
pub record DemandThree (t : Table) (p : Prices) (c : ℕ) (s : Store) (a : After BestTerm) : Type 0 where
  -- "If none derives the root, and only then, the answer is NoTerm."
  pub no_term : (a.answer ≡ refusal 11) ↔ ((u : RowTree) → Derivation t c u → ⊥)
  -- "If some do but each costs 2^64-1 or more in exact whole numbers, and only then, TooDear."
  pub too_dear :
      (a.answer ≡ refusal 12)
      ↔ (((u : RowTree) × Derivation t c u) × ((u : RowTree) → Derivation t c u → limit ≤ tree_cost (table_rows t) u))
  -- "Otherwise, given room in the store, a deriving term comes back; its exact cost is the number reported; none is
  -- cheaper; and down its chosen rows no class is met twice on a path."
  pub comes_back : (b : BestTerm) → a.answer ≡ value b → ComesBack t p c s b a.store
  -- Room: else it is NoRoom, exactly when no store that the lent one may become holds the chosen term.
  pub no_room : (a.answer ≡ refusal 13) ↔ ((x : Choice t p c) × NoRoomFor s (chosen_term t p c x))
  pub no_other : (k : ℕ) → a.answer ≡ refusal k → (k ≡ 11) ⊎ ((k ≡ 12) ⊎ (k ≡ 13))

pub record Main : Type 0 where
  -- "A file without a fault is accepted, and no other.": a file holds a table exactly where the table is within the
  -- limits and the file is its bits.
  pub read : (s : List ℕ) (t : Table) → Holding s t ↔ (Accepted t × (bits_of s ≡ code_file t))
  -- In a well-formed store a number means one term, and a term has one number.
  pub one_number :
      (s : Store) (i j : ℕ) (t u : Tree) →
      well_formed s ≡ true →
      i < s.terms →
      j < s.terms →
      Means s i t →
      Means s j u →
      (i ≡ j) ↔ (t ≡ u)
  -- A text depends on its term alone, however a store numbers it and whatever else the store holds.
  pub texts :
      (s s' : Store) (i j : ℕ) (t : Tree) (nm : Naming) →
      Has s i →
      Has s' j →
      Means s i t →
      Means s' j t →
      (plain_text s i ≡ plain_text s' j) × (let_text s nm i ≡ let_text s' nm j)
  -- Demand 3, "for any accepted table file, well-formed store and, as root, class of a constructor sort".
  pub demand_three : OfClasses (λ t root p c s a. DemandThree t p c s a)
  -- The program: what it writes to an input stands in a lent buffer that has room for it, and what is past it stays.
  pub program :
      (input out : List ℕ) → length (reply input) ≤ length out → Stands (reply input) out (responded input out)
