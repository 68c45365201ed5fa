-- What variants tell of the rows that are kept, and when they refuse: document 01, 'Refusal numbers' and 'Costs and
-- choice'. Assumes nothing: definitions.
use Rattle.std.specs.Prelude.{◌≡◌, List, [], ◌⊎◌, ℕ, ◌<◌, ◌≤◌, ℤ, length, get_or, drop, replicate}
use Rattle.refusal.specs.declared.Refusal.{Refusal}
use Rattle.refusal.specs.Numbers.{refusal_no}
use Rattle.bits.specs.Got.{refused as fault}
use Rattle.term_rules.specs.Lent.{Store}
use Rattle.term_rules.specs.Nodes.{literal, number}
use Rattle.term_rules.specs.Growing.{Takes}
use Rattle.build.specs.Building.{state, Out}
use Rattle.file_rules.specs.Table.{Table}
use Rattle.file_rules.specs.File.{table_at}
use Rattle.table_rules.specs.Rules.Choosing.{limit, Prices}
use Rattle.answer_rules.specs.Answers.{Answer, value, refusal}
use Rattle.answer_rules.specs.Room.{Fits, NoRoomFor}
use Rattle.answer_rules.specs.Variants.{variants_in, Kept, VariantsAfter, Lending, depth_for}

-- "Best and variants: file, 10, 17, 11, 12, 13", of which 11 is "best only".
abbrev pub OneOf : List ℕ → ℕ → Type 0
OneOf file k =
    ((x : Refusal) × ((table_at file ≡ fault x) × (k ≡ refusal_no x)))
    ⊎ ((k ≡ 10) ⊎ ((k ≡ 17) ⊎ ((k ≡ 12) ⊎ (k ≡ 13))))

-- "a kept one costs 2^64-1 after saturation": one of the costs is that.
abbrev pub HasDear : List ℕ → Type 0
HasDear costs = (j : ℕ) × ((j < length costs) × (get_or costs j 0 ≡ limit))

-- The terms of the rows, built in turn in the lent store.
abbrev pub built_rows : Table → Prices → List ℕ → Store → Out (List ℕ)
built_rows t p rows s =
    variants_in t p (depth_for p) (state (replicate 512 0) s) [] rows

-- As many results as n have no places in a lent list.
abbrev pub NoPlaces : Lending → ℕ → Type 0
NoPlaces l n = (length l.costs < n) ⊎ (length l.terms < n)

-- They have them in both.
abbrev pub Places : Lending → ℕ → Type 0
Places l n = (n ≤ length l.costs) × (n ≤ length l.terms)

-- "Nothing lent is changed."
pub record Unchanged (l : Lending) (a : VariantsAfter) : Type 0 where
  pub store_is : a.store ≡ l.store
  pub costs_are : a.costs ≡ l.costs
  pub terms_are : a.terms ≡ l.terms

-- "None is an empty list": no result, and all that is lent as it was.
pub record EmptyList (l : Lending) (a : VariantsAfter) : Type 0 where
  pub passes : ℕ
  pub told : a.answer ≡ value (record { count = 0; passes = passes })
  pub unchanged : Unchanged l a

-- What is past the k results stays in both lists, which are as long as they were.
pub record RestStays (l : Lending) (a : VariantsAfter) (k : ℕ) : Type 0 where
  pub costs_length : length a.costs ≡ length l.costs
  pub terms_length : length a.terms ≡ length l.terms
  pub costs_rest : drop k a.costs ≡ drop k l.costs
  pub terms_rest : drop k a.terms ≡ drop k l.terms

-- "A base root gives one variant, even for n = 0": its literal, at cost 1, in one pass.
pub record OneLiteral (z : ℤ) (l : Lending) (a : VariantsAfter) (k : Kept) : Type 0 where
  pub one : k.count ≡ 1
  pub one_pass : k.passes ≡ 1
  pub cost : get_or a.costs 0 0 ≡ 1
  pub takes : Takes l.store (literal z) (get_or a.terms 0 0) a.store
  pub fits : Fits l.store a.store
  pub places : Places l 1

-- Or NoRoom, and no other number: "new terms or names exceed the store's room .., or the result its lent buffer".
abbrev pub LiteralTold : ℤ → Lending → VariantsAfter → Answer Kept → Type 0
LiteralTold z l a (value k) = OneLiteral z l a k
LiteralTold z l a (refusal j) = (j ≡ 13) × (NoPlaces l 1 ⊎ NoRoomFor l.store (number z))
