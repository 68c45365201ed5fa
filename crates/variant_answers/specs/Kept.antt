-- What the kept rows answer, over packed rows: document 01, 'Costs and choice' and 'Refusal numbers'. Assumes nothing:
-- definitions.
use Rattle.std.specs.Prelude.{◌≡◌, Bool, true, false, ◌||◌, List, [], ◌∷◌, map, ℕ, ◌≤◌, leb, ℤ, length, get_or, take, replicate, Result, Ok, Err}
use Rattle.std.proofs.Math.Seq.{paste}
use Rattle.refusal.specs.declared.Refusal.{Refusal}
use Rattle.refusal.specs.declared.Refusal.TheVariants.{TooDear, NoRoom}
use Rattle.refusal.specs.Numbers.{refusal_no}
use Rattle.term_rules.specs.Lent.{Store}
use Rattle.price_passes.specs.Flat.{top}
use Rattle.build.specs.Plan.{Child, Plan}
use Rattle.build.specs.Building.{state}
use Rattle.variant_order.specs.Arrays.{AllBelow}
use Rattle.answer_rules.specs.Answers.{value, refusal}
use Rattle.answer_rules.specs.Variants.{VariantsAfter, Lending, variants_refused, variants_kept, room_for_results}
use Rattle.variant_terms.specs.Rows.{Deep}
use Rattle.variant_terms.specs.Turned.{AllListed, Steady, Wholly, whole, nothing, wholly, rows_in}
use Rattle.variant_answers.specs.declared.Kept.{Kept}

-- What is lent.
abbrev pub lending : Store → List ℕ → List ℕ → Lending
lending s ws ts = record { store = s; costs = ws; terms = ts }

-- The answer of the code, with what was lent as it leaves it.
abbrev pub seen : Result Kept Refusal → Store → List ℕ → List ℕ → VariantsAfter
seen (Ok k) s ws ts = record {
  answer = value (record { count = k.count; passes = k.passes });
  store = s;
  costs = ws;
  terms = ts;
}
seen (Err r) s ws ts = record { answer = refusal (refusal_no r); store = s; costs = ws; terms = ts }

-- "a kept one costs 2^64-1 after saturation": one of the rows, by the list of all rows' costs.
unfoldable pub dear_in : List ℕ → List ℕ → Bool
dear_in prices [] = false
dear_in prices (i ∷ rows) = leb top (get_or prices i 0) || dear_in prices rows

-- The rows' costs.
abbrev pub prices_of : List ℕ → List ℕ → List ℕ
prices_of prices rows = map (λ (i : ℕ). get_or prices i 0) rows

-- k results are there and have their places.
pub record ResultsFit (k : ℕ) (found ws ts : List ℕ) : Type 0 where
  pub found_long : k ≤ length found
  pub costs_long : k ≤ length ws
  pub terms_long : k ≤ length ts

-- The results stand at the front of the two lists; what is past them stays.
pub record Results (prices rows found ws ts ws' ts' : List ℕ) : Type 0 where
  pub costs_are : ws' ≡ paste ws 0 (prices_of prices rows) (length (prices_of prices rows))
  pub terms_are : ts' ≡ paste ts 0 (take (length rows) found) (length (take (length rows) found))

-- What was built, all of it or nothing.
unfoldable pub built_in : ℕ → List ℕ → List ℕ → Lending → Wholly → VariantsAfter
built_in p prices rows l (whole ts s) = variants_kept l (prices_of prices rows) ts p s
built_in p prices rows l (nothing s) = variants_refused NoRoom l

-- "12, 13" of the rows that are kept.
unfoldable pub answer_in : ℕ → List ℕ → List ℕ → Lending → Wholly → VariantsAfter
answer_in p prices rows l w =
    elim (dear_in prices rows) [
      | true ↦ variants_refused TooDear l
      | false ↦ elim (room_for_results l (length rows)) [
        | false ↦ variants_refused NoRoom l
        | true ↦ built_in p prices rows l w
      ]
    ]

-- What is asked: the listed rows are among those that have a cost in the list, and can be built unless one is too
-- dear.
pub record AnswerReady
    (rows edges ranks labels : List ℕ) (values : List ℤ) (prices list : List ℕ) (s : Store) : Type 0 where
  pub rank : ℕ → ℕ
  pub steady : Steady rank rows edges labels values s
  pub below : AllBelow (length prices) list
  pub few : length list ≤ 1024
  pub listed : dear_in prices list ≡ false → AllListed rank rows ranks labels values list

-- The answer is the definition's, at every depth that is enough.
abbrev pub Answers :
    Plan → List ℕ → (ℕ → List ℕ) → (ℕ → List Child) → ℕ → List ℕ → List ℕ → Lending → VariantsAfter → Type 0
Answers plan ranks name kids p prices rows l a =
    (d : ℕ) →
    Deep ranks d →
    a
    ≡ answer_in p prices rows l
    (wholly l.store (rows_in plan d name kids (state (replicate 512 0) l.store) [] rows))
