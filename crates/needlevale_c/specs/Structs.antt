-- What the numbers of the calls on term structs tell: a value, or a refusal of the table below zero. Assumes nothing:
-- definitions.
use Rattle.std.specs.Prelude.{◌≡◌, List, ◌⊎◌, ℕ, ◌≤◌, ℤ, pos}
use Rattle.refusal.specs.declared.Refusal.{Refusal}
use Rattle.refusal.specs.Answer.{value, refuse}
use Rattle.refusal.specs.Numbers.{refusal_no}
use Rattle.term_rules.specs.declared.Term.{Term}
use Rattle.text_whole.specs.Placed as plain
use Rattle.text_whole.specs.Placed.{Told}
use Rattle.text_whole.specs.LetPlaced as lets
use Rattle.answer_rules.specs.Answers.{After}
use Rattle.answer_rules.specs.Best.{BestTerm}
use Rattle.answer_rules.specs.Variants.{Kept, VariantsAfter}
use Rattle.c_told.specs.Below.{below_zero}
use Rattle.c_told.specs.Texts.{let_coded}
use Rattle.c_told.specs.Choices.{best_with, variants_with}
use Rattle.c_told.specs.declared.texts.LetLength.{LetLength}
use Rattle.c_told.specs.declared.choices.Best.{Best}
use Rattle.c_told.specs.declared.choices.Variants.{Variants}
use Rattle.c_told.specs.declared.terms.Adding.{Adding}

-- A plain text's number is a length that a buffer of so many bytes has, or a refusal below zero, as was answered.
abbrev pub PlainTold : Told plain.Answer → ℕ → ℤ → Type 0
PlainTold x room z =
    ((n : ℕ) × ((z ≡ pos n) × ((n ≤ room) × (x.answer ≡ plain.written n))))
    ⊎ ((r : Refusal) × ((z ≡ below_zero r) × (x.answer ≡ plain.refusal (refusal_no r))))

-- A let text's numbers are such a length and the next count, or a refusal below zero, as was answered.
abbrev pub LetsTold : Told lets.LetAnswer → ℕ → LetLength → Type 0
LetsTold x room z =
    ((n : ℕ) × ((next : ℕ) × ((z ≡ let_coded (lets.written n next)) × ((n ≤ room) × (x.answer ≡ lets.written n next)))))
    ⊎ ((r : Refusal) × ((z.length ≡ below_zero r) × (x.answer ≡ lets.refusal (refusal_no r))))

-- Best's numbers are a cost, a term and passes beside status 0, or a refusal below zero, as was answered.
abbrev pub BestTold : After BestTerm → Best → Type 0
BestTold a b =
    ((t : BestTerm) × ((b ≡ best_with (value t) a.store.terms a.store.symbols) × (a.answer ≡ value t)))
    ⊎ ((r : Refusal) × ((b.status ≡ below_zero r) × (a.answer ≡ refuse r)))

abbrev pub VariantsTold : VariantsAfter → Variants → Type 0
VariantsTold a b =
    ((t : Kept) × ((b ≡ variants_with (value t) a.store.terms a.store.symbols) × (a.answer ≡ value t)))
    ⊎ ((r : Refusal) × ((b.status ≡ below_zero r) × (a.answer ≡ refuse r)))

-- Where the status is a refusal's, the lists are as they were, and the counts are those that were lent.
abbrev pub BestStays : List Term → List (List ℕ) → ℕ → ℕ → Best → List Term → List (List ℕ) → Type 0
BestStays ts ns n m b ts' ns' =
    (r : Refusal) → b.status ≡ below_zero r → (ts' ≡ ts) × (ns' ≡ ns) × (b.terms ≡ n) × (b.symbols ≡ m)

abbrev pub VariantsStay :
    List Term → List (List ℕ) → ℕ → ℕ → List ℕ → List ℕ → Variants → List Term → List (List ℕ) → List ℕ → List ℕ →
    Type 0
VariantsStay ts ns n m costs found b ts' ns' ws us =
    (r : Refusal) →
    b.status ≡ below_zero r →
    (ts' ≡ ts) × (ns' ≡ ns) × (b.terms ≡ n) × (b.symbols ≡ m) × (ws ≡ costs) × (us ≡ found)

abbrev pub AddedStays : List Term → List (List ℕ) → ℕ → ℕ → Adding → List Term → List (List ℕ) → Type 0
AddedStays ts ns n m z ts' ns' =
    (r : Refusal) → z.status ≡ below_zero r → (ts' ≡ ts) × (ns' ≡ ns) × (z.terms ≡ n) × (z.symbols ≡ m)
