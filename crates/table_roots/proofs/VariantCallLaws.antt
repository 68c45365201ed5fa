-- Each answer of `variants` is the definition's, by what was loaded. Assumes nothing.
use mathlib.Core.Path.{◌≡◌, ap, sym, ◌∙◌}
use mathlib.Core.List.{List}
use Prim.Native.Nat.{ℕ, ◌≤◌}
use lib.IntN.{ℤ, pos}
use lib.ListN.{length, get_or}
use Rattle.refusal.specs.declared.Refusal.{Refusal}
use Rattle.file_rules.specs.File.{table_at}
use Rattle.table_rules.specs.Rules.Facts.{Known}
use Rattle.table_rows.proofs.Held.KnownLaws.{known-of-accepted}
use Rattle.table_rows.specs.Loading.{asked_in, Standing, Loads}
use Rattle.table_rows.specs.declared.Loaded.{Loaded}
use Rattle.table_rows.specs.declared.Loaded.TheVariants.{Class, Literal}
use Rattle.std.specs.Prelude.{Result, Ok, Err}
use Rattle.table_rows.proofs.LoadLaws.{accepted-of}
use Rattle.answer_rules.specs.Variants.{VariantsAfter, Lending, variants_refused, variants_at}
use Rattle.variant_answers.specs.Kept.{lending}
use Rattle.variants_root.specs.Several.{
  literal_answer,
  class_answer,
  KeyedTable,
  SomeTable,
  LaidTable,
  ClassAnswers,
}
use Rattle.variants_root.specs.Chosen.{PicksOr, ClassChosen}
use Rattle.variants_root.specs.declared.Choice.{Choice}
use Rattle.term_rules.specs.Lent.{Store}
use Rattle.term_rules.specs.WellFormed.{well_formed}
use mathlib.Core.Bool.{Bool}
use native.Mathlib.Omega.{arith}
use Rattle.table_roots.proofs.TableLaws.{value-is}
use Rattle.table_roots.proofs.KeyedLaws.{cells-length, keyed-table}
use Rattle.table_roots.proofs.VariantRootLaws.{LiteralRoot, ClassRoot, variants-refuse, literal-root, class-root}
use Rattle.table_roots.proofs.CallLaws.{standing}

module _
    (file : List ℕ) (s v : ℕ) (r : Result Loaded Refusal) (values : List ℤ)
    (labels arities functions cells order flat heads starts children : List ℕ)
    (l : Loads (table_at file) s v r values labels arities functions cells order flat heads starts children) where
  pub refused-variants :
      (x : Refusal) →
      r ≡ Err x →
      (most : ℕ) (lent : Lending) →
      variants_refused x lent ≡ variants_at file s v most lent
  refused-variants x e most lent = variants-refuse file s v x most lent (sym (ap asked_in e) ∙ l.answer)

  module _ (i : ℕ) (e : r ≡ Ok (Literal i)) where
    root-literal : LiteralRoot file s v i
    root-literal = literal-root file s v i (sym (ap asked_in e) ∙ l.answer)

    known-literal : Known root-literal.table
    known-literal = known-of-accepted root-literal.table (accepted-of file root-literal.is)

    stands-literal :
        Standing root-literal.table s r values labels arities functions cells order flat heads starts children
    stands-literal =
        standing file s v r values labels arities functions cells order flat heads starts children l
        root-literal.table root-literal.place root-literal.is

    pub variant-of-literal :
        (most : ℕ) (lent : Lending) (a : VariantsAfter) →
        a ≡ literal_answer (get_or values i (pos 0)) lent →
        a ≡ variants_at file s v most lent
    variant-of-literal most lent a q =
        q
        ∙ ap (λ (z : ℤ). literal_answer z lent)
        (value-is root-literal.table known-literal s r values labels arities functions cells order flat heads starts
        children stands-literal i root-literal.below)
        ∙ root-literal.answer most lent

  module _ (c n m w : ℕ) (e : r ≡ Ok (Class c (record { rows = n; children = m; classes = w }))) where
    root-class : ClassRoot file s v c
    root-class = class-root file s v c (sym (ap asked_in e) ∙ l.answer)

    known-class : Known root-class.table
    known-class = known-of-accepted root-class.table (accepted-of file root-class.is)

    stands-class :
        Standing root-class.table s r values labels arities functions cells order flat heads starts children
    stands-class =
        standing file s v r values labels arities functions cells order flat heads starts children l root-class.table
        root-class.place root-class.is

    pub class-cells : 9216 ≡ length cells
    class-cells =
        cells-length root-class.table known-class s r values labels arities functions cells order flat heads starts
        children stands-class

    is-keyed :
        KeyedTable root-class.table s n m w order flat heads starts children functions labels values cells
    is-keyed =
        keyed-table root-class.table known-class s r values labels arities functions cells order flat heads starts
        children stands-class c n m w e root-class.sort

    pub some-table : SomeTable n m w order flat heads starts children functions labels values cells
    some-table = record { table = root-class.table; root = s; is = is-keyed }

    pub variants-of-class :
        (most : ℕ) (lent : Lending) (a : VariantsAfter) →
        ClassAnswers n m w order flat heads starts children functions labels values cells c most lent a →
        a ≡ variants_at file s v most lent
    variants-of-class most lent a q = q root-class.table s is-keyed ∙ root-class.answer most lent

    pub laid-table : LaidTable n m w order flat heads starts children functions labels cells
    laid-table = record { table = root-class.table; root = s; values = values; is = is-keyed }

    pub few-classes : w ≤ 512
    few-classes = omega (arith, is-keyed.classes_are, is-keyed.is.is.known.few_classes)

    -- What is told of the class's table is told of the file.
    pub picks-of-class :
        (most : ℕ) (rows edges ranks prices list : List ℕ) (r : Result Choice Refusal) (formed : Bool) (lent : Store) →
        well_formed lent ≡ formed →
        ClassChosen n m w order flat heads starts children functions labels cells c most formed r rows edges ranks
        prices list →
        PicksOr rows edges ranks labels values prices list r lent (variants_at file s v most)
    unfolding PicksOr
    picks-of-class most rows edges ranks prices list r formed lent is p =
        go r (p lent is values root-class.table s is-keyed)
      where
        go :
            (r : Result Choice Refusal) →
            PicksOr rows edges ranks labels values prices list r lent
            (λ (l : Lending). class_answer root-class.table s c most l) →
            PicksOr rows edges ranks labels values prices list r lent (variants_at file s v most)
        go (Ok k) q = record {
          room = q.room;
          ready = q.ready;
          answers = λ ws ts a x. q.answers ws ts a x ∙ root-class.answer most (lending lent ws ts);
        }
        go (Err x) q = λ ws ts. q ws ts ∙ root-class.answer most (lending lent ws ts)
