-- Each answer of the code is the definition's. Assumes nothing.
use mathlib.Core.Path.{◌≡◌, ap, sym, ◌∙◌, subst}
use mathlib.Core.List.{List}
use Prim.Native.Nat.{ℕ, ◌<◌, ◌≤◌}
use native.Mathlib.Omega.{arith}
use lib.IntN.{ℤ, pos}
use lib.ListN.{length, get_or}
use Rattle.name.specs.Entries.{table_length}
use Rattle.refusal.specs.declared.Refusal.{Refusal}
use Rattle.term_rules.specs.Lent.{Store}
use Rattle.bits.specs.Got.{Got, got}
use Rattle.file_rules.specs.Table.{Table}
use Rattle.file_rules.specs.File.{table_at}
use Rattle.file_rules.specs.Reading.{OnGot}
use Rattle.table_rules.specs.Rules.Facts.{Known}
use Rattle.table_rows.proofs.Held.KnownLaws.{known-of-accepted}
use Rattle.table_rows.specs.Flattened.{Space}
use Rattle.table_rows.specs.Loading.{asked_in, Standing, Loads}
use Rattle.table_rows.specs.declared.Loaded.{Loaded}
use Rattle.table_rows.specs.declared.Loaded.TheVariants.{Class, Literal}
use Rattle.std.specs.Prelude.{Result, Ok, Err}
use Rattle.table_rows.proofs.LoadLaws.{accepted-of}
use Rattle.answer_rules.specs.Answers.{After, refused}
use Rattle.answer_rules.specs.Best.{BestTerm, best_at}
use Rattle.price.proofs.ZeroLaws.{zeros, zeros-room}
use Rattle.best_root.specs.Single.{literal_answer, FlatClass, SomeClass, ClassAnswers}
use Rattle.table_roots.proofs.TableLaws.{functions-length, labels_length, values_length, value-is, flat-class}
use Rattle.table_roots.proofs.RootLaws.{LiteralRoot, ClassRoot, best-refuses, literal-root, class-root}

-- Lists of zeros have room for 1,024 rows.
pub space-of :
    (n k m : ℕ) → 1024 ≤ n → 1024 < k → 8192 ≤ m → Space (zeros n) (zeros n) (zeros n) (zeros k) (zeros m)
space-of n k m h i j = record {
  order_room = zeros-room n 1024 h;
  flat_room = zeros-room n 1024 h;
  heads_room = zeros-room n 1024 h;
  starts_room = omega (arith, zeros-room k 1025 (omega arith));
  children_room = zeros-room m 8192 j;
}

-- What was loaded, by its case.
module _
    (file : List ℕ) (s v : ℕ) (r : Result Loaded Refusal) (values : List ℤ)
    (labels arities functions cells order flat heads starts children : List ℕ)
    (l : Loads (table_at file) s v r values labels arities functions cells order flat heads starts children) where
  pub standing :
      (t : Table) (k : ℕ) → table_at file ≡ got t k →
      Standing t s r values labels arities functions cells order flat heads starts children
  unfolding OnGot
  standing t k e =
      subst
      (λ (g : Got Table).
      OnGot g (λ t. Standing t s r values labels arities functions cells order flat heads starts children))
      e l.filled

  pub refused-answer : (x : Refusal) → r ≡ Err x → (lent : Store) → refused x lent ≡ best_at file s v lent
  refused-answer x e lent = best-refuses file s v x lent (sym (ap asked_in e) ∙ l.answer)

  module _ (i : ℕ) (e : r ≡ Ok (Literal i)) where
    root-literal : LiteralRoot file s v i
    root-literal = literal-root file s v i (sym (ap asked_in e) ∙ l.answer)

    known-literal : Known root-literal.table
    known-literal = known-of-accepted root-literal.table (accepted-of file root-literal.is)

    pub literal-values : 512 ≡ length values
    literal-values =
        values_length root-literal.table known-literal s r values labels arities functions cells order flat heads
        starts children (standing root-literal.table root-literal.place root-literal.is)

    pub literal-inside : i < length values
    literal-inside = omega (arith, literal-values, root-literal.below, known-literal.few_literals)

    pub literal-answer :
        (lent : Store) (a : After BestTerm) → a ≡ literal_answer (get_or values i (pos 0)) lent → a ≡ best_at file s v lent
    literal-answer lent a q =
        q
        ∙ ap (λ (z : ℤ). literal_answer z lent)
        (value-is root-literal.table known-literal s r values labels arities functions cells order flat heads
        starts children (standing root-literal.table root-literal.place root-literal.is) i
        root-literal.below)
        ∙ root-literal.answer lent

  module _ (c n m w : ℕ) (e : r ≡ Ok (Class c (record { rows = n; children = m; classes = w }))) where
    root-class : ClassRoot file s v c
    root-class = class-root file s v c (sym (ap asked_in e) ∙ l.answer)

    known-class : Known root-class.table
    known-class = known-of-accepted root-class.table (accepted-of file root-class.is)

    stands-class :
        Standing root-class.table s r values labels arities functions cells order flat heads starts children
    stands-class = standing root-class.table root-class.place root-class.is

    pub class-functions : 1024 ≡ length functions
    class-functions =
        functions-length root-class.table known-class s r values labels arities functions cells order flat heads
        starts children stands-class

    pub class-labels : table_length ≡ length labels
    class-labels =
        labels_length root-class.table known-class s r values labels arities functions cells order flat heads
        starts children stands-class

    pub class-values : 512 ≡ length values
    class-values =
        values_length root-class.table known-class s r values labels arities functions cells order flat heads
        starts children stands-class

    is-class : FlatClass root-class.table s c n m w order flat heads starts children functions labels values
    is-class =
        flat-class root-class.table known-class s r values labels arities functions cells order flat heads starts
        children stands-class c n m w e root-class.sort root-class.below

    pub some-class : SomeClass c n m w order flat heads starts children functions labels values
    some-class = record { table = root-class.table; root = s; is = is-class }

    pub class-answer :
        (lent : Store) (a : After BestTerm) →
        ClassAnswers c n m w order flat heads starts children functions labels values lent a →
        a ≡ best_at file s v lent
    class-answer lent a q = q root-class.table s is-class ∙ root-class.answer lent
