-- What is told of a store by what is chosen of a root: the refusal, the literal's answer, or a class's. Assumes nothing.
use mathlib.Core.Path.{◌≡◌, refl, ap, sym, subst, ◌∙◌}
use mathlib.Core.Bool.{Bool}
use mathlib.Core.List.{List, ◌++◌}
use Prim.Native.Nat.{ℕ, ◌<◌, ◌≤◌}
use lib.IntN.{ℤ, pos}
use lib.ListN.{length, get_or, take, replicate}
use lib.Seq.{take-append_seam}
use Rattle.std.specs.Prelude.{Result, Ok, Err}
use Rattle.refusal.specs.declared.Refusal.{Refusal}
use Rattle.choice_rules.proofs.ListLaws.{replicate-get}
use Rattle.term_rules.specs.Lent.{Store}
use Rattle.term_rules.specs.WellFormed.{well_formed}
use Rattle.file_rules.specs.File.{table_at}
use Rattle.table_rows.specs.Loading.{Loads}
use Rattle.table_rows.specs.declared.Loaded.{Loaded}
use Rattle.table_rows.specs.declared.Loaded.TheVariants.{Class as AClass, Literal as ALiteral}
use Rattle.answer_rules.specs.Variants.{VariantsAfter, Lending, variants_refused, variants_at}
use Rattle.variant_answers.specs.Kept.{lending}
use Rattle.variants_root.specs.Several.{literal_answer}
use Rattle.variants_root.specs.Chosen.{Picks, PicksOr, ZeroRanks, ClassChosen}
use Rattle.variants_root.specs.declared.Choice.{Choice}
use Rattle.table_roots.specs.Chosen.{RootChosen}
use Rattle.table_roots.specs.declared.Chosen.{Chosen}
use Rattle.table_roots.specs.declared.Chosen.TheVariants.{Literal, Class}
use Rattle.table_roots.proofs.CallLaws.{literal-inside}
use Rattle.table_roots.proofs.VariantCallLaws.{refused-variants, variant-of-literal, few-classes, picks-of-class}

-- The places of a list that were lent, at its front.
pub front : (w : ℕ) (new rest : List ℕ) → length new ≡ w → take w (new ++ rest) ≡ new
front w new rest e = ap (λ (n : ℕ). take n (new ++ rest)) (sym e) ∙ take-append_seam new rest

-- The ranks of a caller's own, before.
pub ranks-zero : (n : ℕ) → ZeroRanks (replicate n 0)
ranks-zero n = replicate-get n

-- What is told, by its case.
module _
    (r : Result Chosen Refusal) (rows edges ranks labels : List ℕ) (values : List ℤ) (prices list : List ℕ) (st : Store)
    (told : Lending → VariantsAfter) (h : RootChosen r rows edges ranks labels values prices list st told) where
  abbrev of : Result Chosen Refusal → Type 0
  of x = RootChosen x rows edges ranks labels values prices list st told

  pub told-refused :
      (x : Refusal) → r ≡ Err x → (ws ts : List ℕ) → variants_refused x (lending st ws ts) ≡ told (lending st ws ts)
  unfolding RootChosen
  told-refused x e = subst of e h

  pub told-literal :
      (i : ℕ) →
      r ≡ Ok (Literal i) →
      (i < length values)
      × ((ws ts : List ℕ) → literal_answer (get_or values i (pos 0)) (lending st ws ts) ≡ told (lending st ws ts))
  unfolding RootChosen
  told-literal i e = subst of e h

  pub told-class :
      (k : Choice) (w : ℕ) →
      r ≡ Ok (Class k w) →
      (w ≤ 512) × Picks rows (take w edges) (take w ranks) labels values prices list k st told
  unfolding RootChosen
  told-class k w e = subst of e h

-- What is loaded tells it.
module _
    (file : List ℕ) (s v : ℕ) (r : Result Loaded Refusal) (values : List ℤ)
    (labels arities functions cells order flat heads starts children : List ℕ)
    (l : Loads (table_at file) s v r values labels arities functions cells order flat heads starts children)
    (most : ℕ) (rows edges ranks prices list : List ℕ) (st : Store) where
  pub chosen-refused :
      (x : Refusal) → r ≡ Err x → (labels' : List ℕ) (values' : List ℤ) →
      RootChosen (Err x) rows edges ranks labels' values' prices list st (variants_at file s v most)
  unfolding RootChosen
  chosen-refused x e labels' values' ws ts =
      refused-variants file s v r values labels arities functions cells order flat heads starts children l x e most
      (lending st ws ts)

  pub chosen-literal :
      (i : ℕ) → r ≡ Ok (ALiteral i) →
      RootChosen (Ok (Literal i)) rows edges ranks labels values prices list st (variants_at file s v most)
  unfolding RootChosen
  chosen-literal i e = (
    literal-inside file s v r values labels arities functions cells order flat heads starts children l i e,
    λ ws ts.
        variant-of-literal file s v r values labels arities functions cells order flat heads starts children l i e
        most (lending st ws ts) _ refl,
  )

  module _
      (c n m w : ℕ) (e : r ≡ Ok (AClass c (record { rows = n; children = m; classes = w }))) (q : Result Choice Refusal)
      (edges' ranks' : List ℕ) (edges-are : take w edges ≡ edges') (ranks-are : take w ranks ≡ ranks')
      (formed : Bool) (is : well_formed st ≡ formed)
      (p : ClassChosen n m w order flat heads starts children functions labels cells c most formed q rows edges' ranks'
      prices list) where
    picks : PicksOr rows edges' ranks' labels values prices list q st (variants_at file s v most)
    picks =
        picks-of-class file s v r values labels arities functions cells order flat heads starts children l c n m w e
        most rows edges' ranks' prices list q formed st is p

    pub chosen-refused-class :
        (x : Refusal) → q ≡ Err x →
        RootChosen (Err x) rows edges ranks labels values prices list st (variants_at file s v most)
    unfolding RootChosen PicksOr
    chosen-refused-class x d =
        subst
        (λ (y : Result Choice Refusal).
        PicksOr rows edges' ranks' labels values prices list y st (variants_at file s v most))
        d picks

    pub chosen-class :
        (k : Choice) → q ≡ Ok k →
        RootChosen (Ok (Class k w)) rows edges ranks labels values prices list st (variants_at file s v most)
    unfolding RootChosen PicksOr
    chosen-class k d = (
      few-classes file s v r values labels arities functions cells order flat heads starts children l c n m w e,
      rw (edges-are, ranks-are)
          (subst
          (λ (y : Result Choice Refusal).
          PicksOr rows edges' ranks' labels values prices list y st (variants_at file s v most))
          d picks),
    )
