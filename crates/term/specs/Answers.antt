-- What a call answers, with document 01's number for each refusal. Assumes nothing: these are definitions.
use Rattle.std.specs.Prelude.{ℕ, List, ℤ, pos, replicate, Result, Ok, Err}
use Rattle.refusal.specs.declared.Refusal.{Refusal}
use Rattle.refusal.specs.Numbers.{refusal_no}
use Rattle.term_rules.specs.declared.Term.{Term}
use Rattle.term_rules.specs.Lent.{Store, store}
use Rattle.term_add.specs.declared.Added.{Added}

-- a value, or the number of a refusal: "Each returns its number alone."
pub data Answer (A : Type 0) : Type 0 where
  given : A → Answer A
  refused : ℕ → Answer A

abbrev pub refuse : {A : Type 0} → Refusal → Answer A
refuse r = refused (refusal_no r)

-- the answer of a call that leaves what is lent: a lookup, size and compare, and whether get or sort was done
abbrev pub seen : {A : Type 0} → Result A Refusal → Answer A
seen (Ok a) = given a
seen (Err r) = refuse r

-- the answer of a call that adds, and the store that it left, of which it was lent n terms and m symbols
abbrev pub seen_added : Result Added Refusal → List ℕ → List ℤ → List ℕ → ℕ → ℕ → Answer ℕ × Store
seen_added (Ok a) rs ls ns n m = (given a.term, store rs ls ns a.terms a.symbols)
seen_added (Err r) rs ls ns n m = (refuse r, store rs ls ns n m)

-- a refused get gives a record of zeros
unfoldable pub zero_record : Term
zero_record = record { kind = 0; symbol = 0; count = 0; literal = pos 0; children = replicate 8 0 }

-- the answer of get, and the record that it gives: of zeros, where there is none
abbrev pub seen_got : Result Term Refusal → Answer Unit × Term
seen_got (Ok t) = (given tt, t)
seen_got (Err r) = (refuse r, zero_record)

-- the answer of sort, and the list that it left
abbrev pub seen_sort : Result Unit Refusal → List ℕ → Answer Unit × List ℕ
seen_sort v l = (seen v, l)
