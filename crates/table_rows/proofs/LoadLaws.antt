-- A table file that was read, and its root. Assumes nothing.
use Prim.{tt}
use Prim.Native.Nat.{ℕ}
use mathlib.Core.Path.{◌≡◌, refl, ap, sym, ◌∙◌, subst}
use mathlib.Core.List.{List, [], ◌∷◌}
use native.Mathlib.Omega.{arith}
use lib.IntN.{ℤ}
use lib.ListN.{length}
use Rattle.refusal.specs.declared.Refusal.{Refusal}
use Rattle.bits.specs.Got.{Got, got, refused}
use Rattle.bits.proofs.GotLaws.{all-at}
use Rattle.file_rules.specs.declared.Table.{Table as Arrays}
use Rattle.file_rules.specs.Held.{empty}
use Rattle.file_rules.specs.Table.{Table}
use Rattle.file_rules.specs.Accepted.{Accepted}
use Rattle.file_rules.specs.Arrays.{Holds}
use Rattle.file_rules.specs.Reading.{OnGot}
use Rattle.file_rules.specs.File.{table_at}
use Rattle.file_rules.proofs.TableLaws.{table_kept}
use Rattle.file_reader.specs.Outcome.{Answers}
use Rattle.std.specs.Prelude.{Option, Some, None, Result, Ok, Err}
use Rattle.file_rules.specs.declared.Counts.{Counts}
use Rattle.table_rows.specs.Standing.{StandsWhole}
use Rattle.table_rows.specs.Flattened.{Flattened}
use Rattle.table_rows.specs.Opening.{OpenedOf, root_in, OnClass as OnOpened}
use Rattle.table_rows.proofs.prepare.StandLaws.{stands-of-holds}
use Rattle.table_rows.specs.Loading.{Blank, asked_in, asked_of, asked, loaded_of, OnClass, Standing, Loads}
use Rattle.table_rows.specs.declared.Loaded.{Loaded}
use Rattle.table_rows.specs.declared.Loaded.TheVariants.{Class, Literal}

-- The arrays of no table are blank.
pub blank-of-empty : {a : Arrays} → a ≡ empty → Blank a
blank-of-empty e = record {
  literals_zero = ap (λ (x : Arrays). x.literals) e;
  names_zero = ap (λ (x : Arrays). x.functions.names) e;
  arities_zero = ap (λ (x : Arrays). x.functions.arities) e;
  row_functions_zero = ap (λ (x : Arrays). x.rows.functions) e;
  cells_zero = ap (λ (x : Arrays). x.rows.cells) e;
}

-- The table that was read, with the counts that were answered.
pub record ReadOf (g : Got Table) (n : Counts) (P : Table → Type 0) : Type 0 where
  pub table : Table
  pub place : ℕ
  pub is : g ≡ got table place
  pub sorts_are : length table.sorts ≡ n.sorts
  pub literals_are : length table.literals ≡ n.literals
  pub functions_are : length table.functions ≡ n.functions
  pub rows_are : length table.rows ≡ n.rows
  pub held : P table

pub read_of :
    (g : Got Table) {r : Result Counts Refusal} {n : Counts} {P : Table → Type 0} →
    Answers g r P → r ≡ Ok n → ReadOf g n P
unfolding OnGot
read_of (got t k) {n = n} w e =
    let q = sym w.answer ∙ e in
    let z :
    ◌≡◌ {A = Counts}
    (record {
      sorts = length t.sorts;
      literals = length t.literals;
      functions = length t.functions;
      rows = length t.rows;
    })
    n = cc q in
    record {
      table = t;
      place = k;
      is = refl;
      sorts_are = ap (λ (x : Counts). x.sorts) z;
      literals_are = ap (λ (x : Counts). x.literals) z;
      functions_are = ap (λ (x : Counts). x.functions) z;
      rows_are = ap (λ (x : Counts). x.rows) z;
      held = w.filled;
    }
read_of (refused x) {n = n} w e =
    let q : ◌≡◌ {A = Result Counts Refusal} (Err x) (Ok n) = sym w.answer ∙ e in
    let z : ◌≡◌ {A = ℕ} 0 1 = cc in
    absurd (omega arith)

pub accepted-of : (s : List ℕ) {t : Table} {k : ℕ} → table_at s ≡ got t k → Accepted t
accepted-of s e = (all-at (rw e at (table_kept s))).ok

-- The root and the rows of what is loaded are those of what was opened.
asked-of-opened : (o : Option Loaded) → asked_in (loaded_of o) ≡ asked_of (root_in o)
asked-of-opened None = refl
asked-of-opened (Some (Literal i)) = refl
asked-of-opened (Some (Class c f)) = refl

reached-of-opened : (o : Option Loaded) (P : ℕ → ℕ → ℕ → Type 0) → OnOpened o P → OnClass (loaded_of o) P
reached-of-opened None P x = tt
reached-of-opened (Some (Literal i)) P x = tt
reached-of-opened (Some (Class c f)) P x = x

module _ {kinds classes : List ℕ} {literals : List ℤ} {names declared costs unextractable hidden : List ℕ}
    {outputs arities arguments row_functions subsumed cells : List ℕ} {t : Table}
    (ok : Accepted t)
    (h : Holds kinds classes literals names declared costs unextractable hidden outputs arities arguments row_functions
    subsumed cells t) where
  -- The table stands in the arrays, with counts that are its own.
  pub stands-with :
      {a b c d : ℕ} → length t.sorts ≡ a → length t.literals ≡ b → length t.functions ≡ c → length t.rows
      ≡ d →
      StandsWhole a b c d kinds classes declared costs unextractable hidden outputs arities arguments row_functions
      subsumed
      cells t
  stands-with e f i j = rw (e, f, i, j) at (stands-of-holds ok h)

  module _ (s v : ℕ) (o : Option Loaded) (order flat heads starts children : List ℕ)
      (w : OpenedOf t s v o order flat heads starts children) where
    -- What is loaded is what was opened.
    pub loads-of-opened :
        (g : Got Table) (k : ℕ) → g ≡ got t k → (r : Result Loaded Refusal) → r ≡ loaded_of o →
        Loads g s v r literals names arities row_functions cells order flat heads starts children
    unfolding asked OnGot
    loads-of-opened g k e r q = record {
      answer = rw e (ap asked_in q ∙ asked-of-opened o ∙ ap asked_of w.root_is);
      filled = subst (λ (x : Got Table). OnGot x
          (λ t. Standing t s r literals names arities row_functions cells order flat heads
          starts children)) (sym e)
          (record {
            literals_held = h.literals_held;
            names_are = h.functions_held.names_are;
            arities_are = h.functions_held.arities_are;
            row_functions_are = h.rows_held.functions_are;
            cells_are = h.rows_held.cells_are;
            reached =
                subst (λ (x : Result Loaded Refusal). OnClass x
                (λ n m w. Flattened t (s ∷ []) n m w order flat heads starts children))
                (sym q)
                (reached-of-opened o (λ n m w. Flattened t (s ∷ []) n m w order flat heads starts children) w.reached);
          });
    }

-- A file that is refused is refused whatever the root.
pub loads-of-refused :
    (g : Got Table) {r : Result Counts Refusal} {P : Table → Type 0} {x : Refusal} (s v : ℕ) (literals : List ℤ)
    (names arities row_functions cells order flat heads starts children : List ℕ) →
    Answers g r P → r ≡ Err x →
    Loads g s v (Err x) literals names arities row_functions cells order flat heads starts children
unfolding asked OnGot
loads-of-refused (got t k) {x = x} s v literals names arities row_functions cells order flat heads starts children w e =
    let q = sym w.answer ∙ e in
    let z : ◌≡◌ {A = ℕ} 0 1 = cc q in
    absurd (omega arith)
loads-of-refused (refused y) {x = x} s v literals names arities row_functions cells order flat heads starts children w e
    =
    let q : ◌≡◌ {A = Result Counts Refusal} (Err y) (Err x) = sym w.answer ∙ e in
    record { answer = cc; filled = tt }
