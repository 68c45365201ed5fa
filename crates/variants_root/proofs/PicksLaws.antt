-- What is chosen of a class, by its case: of packed rows, and of the lists of a table. Assumes nothing.
use mathlib.Core.Path.{◌≡◌, subst}
use mathlib.Core.Bool.{Bool}
use mathlib.Core.List.{List}
use Prim.Native.Nat.{ℕ, ◌≤◌}
use native.Mathlib.Omega.{arith}
use lib.IntN.{ℤ}
use Rattle.std.specs.Prelude.{Result, Ok, Err}
use Rattle.refusal.specs.declared.Refusal.{Refusal}
use Rattle.term_rules.specs.Lent.{Store}
use Rattle.term_rules.specs.WellFormed.{well_formed}
use Rattle.file_rules.specs.Table.{Table}
use Rattle.table_rules.specs.Rules.Choosing.{run_of, prices_for}
use Rattle.answer_rules.specs.Variants.{VariantsAfter, Lending, kept_rows, variants_of_rows, variants_refused}
use Rattle.variant_answers.specs.Kept.{lending}
use Rattle.variants_root.specs.Flat.{KeyedReady}
use Rattle.variants_root.specs.Several.{KeyedTable, SomeTable, LaidTable, class_answer}
use Rattle.variants_root.specs.Chosen.{Picks, PicksOr, PackedChosen, ClassChosen}
use Rattle.variants_root.specs.declared.Choice.{Choice}

-- Another number for the number of classes, which is equal.
keyed-with :
    (t : Table) (root n m : ℕ) (order flat heads starts children functions labels : List ℕ) (values : List ℤ)
    (cells : List ℕ) (w v : ℕ) →
    w ≡ v →
    KeyedTable t root n m w order flat heads starts children functions labels values cells →
    KeyedTable t root n m v order flat heads starts children functions labels values cells
keyed-with t root n m order flat heads starts children functions labels values cells w v e k =
    subst (λ (x : ℕ). KeyedTable t root n m x order flat heads starts children functions labels values cells) e k

-- Some table has at most 512 classes.
pub some-few :
    {n m w : ℕ} {order flat heads starts children functions labels : List ℕ} {values : List ℤ} {cells : List ℕ} →
    SomeTable n m w order flat heads starts children functions labels values cells →
    w ≤ 512
some-few r = omega (arith, r.is.classes_are, r.is.is.is.known.few_classes)

-- Its lists are laid, for any number that is equal to that of its classes.
pub laid-of-some :
    {n m w : ℕ} {order flat heads starts children functions labels : List ℕ} {values : List ℤ} {cells : List ℕ} →
    SomeTable n m w order flat heads starts children functions labels values cells →
    (v : ℕ) →
    w ≡ v →
    LaidTable n m v order flat heads starts children functions labels cells
laid-of-some {n} {m} {w} {order} {flat} {heads} {starts} {children} {functions} {labels} {values} {cells} r v e =
    record {
      table = r.table;
      root = r.root;
      values = values;
      is = keyed-with r.table r.root n m order flat heads starts children functions labels values cells w v e r.is;
    }

-- What is kept by packed rows, over a well-formed store.
pub picks-of-keyed :
    {outputs heads starts children rows labels : List ℕ} {values : List ℤ} {cells : List ℕ} {n : ℕ} {s : Store}
    {k : Choice} {edges ranks prices list : List ℕ} (c most : ℕ)
    (r : KeyedReady outputs heads starts children rows labels values cells n s) →
    PackedChosen outputs heads starts children rows labels cells n c most k edges ranks prices list →
    Picks rows edges ranks labels values prices list k s
    (λ (l : Lending).
    variants_of_rows r.is.table (prices_for r.is.table r.is.root) (run_of r.is.table r.is.root).passes l
    (kept_rows r.is.table (prices_for r.is.table r.is.root) c most))
picks-of-keyed {values = values} {s = s} c most r p =
    p r.order r.functions values r.packed r.is.table r.is.root r.is.is r.is.classes s r.is.formed

-- What is chosen over the lists of a table, or the refusal.
module _
    {n m w : ℕ} {order flat heads starts children functions labels : List ℕ} {values : List ℤ} {cells : List ℕ}
    {formed : Bool} (t : Table) (root : ℕ)
    (h : KeyedTable t root n m w order flat heads starts children functions labels values cells)
    (v : ℕ) (e : w ≡ v) (c most : ℕ) (q : Result Choice Refusal) (rows edges ranks prices list : List ℕ)
    (p : ClassChosen n m v order flat heads starts children functions labels cells c most formed q rows edges ranks
    prices list)
    (s : Store) (is : well_formed s ≡ formed) where
  abbrev told : Lending → VariantsAfter
  told l = class_answer t root c most l

  abbrev chosen : Result Choice Refusal → Type 0
  chosen x = PicksOr rows edges ranks labels values prices list x s told

  is-chosen : chosen q
  is-chosen =
      p s is values t root
      (keyed-with t root n m order flat heads starts children functions labels values cells w v e h)

  pub picks-of-table : (k : Choice) → q ≡ Ok k → Picks rows edges ranks labels values prices list k s told
  unfolding PicksOr
  picks-of-table k d = subst chosen d is-chosen

  pub refused-of-table :
      (x : Refusal) → q ≡ Err x → (ws ts : List ℕ) → variants_refused x (lending s ws ts) ≡ told (lending s ws ts)
  unfolding PicksOr
  refused-of-table x d = subst chosen d is-chosen
