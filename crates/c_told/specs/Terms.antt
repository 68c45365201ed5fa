-- How the store's calls are told in one struct: the answer's numbers, and, of a call that adds, the counts of the store
-- that it leaves. Assumes nothing: definitions.
use Rattle.std.specs.Prelude.{ℕ, [], ℤ, pos, neg_ℤ, Result}
use Rattle.refusal.specs.declared.Refusal.{Refusal}
use Rattle.std.specs.declared.cmp.Ordering.{Ordering}
use Rattle.std.specs.declared.cmp.Ordering.TheVariants.{Less, Equal, Greater}
use Rattle.term_rules.specs.declared.Term.{Term}
use Rattle.term_rules.specs.Lent.{Store}
use Rattle.term_add.specs.declared.Added.{Added}
use Rattle.term.specs.Answers.{Answer, given, refused, seen_added}
use Rattle.c_told.specs.declared.terms.Number.{Number}
use Rattle.c_told.specs.declared.terms.Adding.{Adding}
use Rattle.c_told.specs.declared.terms.Standing.{Standing}
use Rattle.c_told.specs.declared.terms.Got.{Got}

-- A count or a term's number, or a refusal's number below zero.
abbrev pub number_of : Answer ℕ → Number
number_of (given i) = record { status = pos 0; number = i }
number_of (refused k) = record { status = neg_ℤ (pos k); number = 0 }

-- Whether a call was done.
abbrev pub status_of : Answer Unit → ℤ
status_of (given u) = pos 0
status_of (refused k) = neg_ℤ (pos k)

-- Whether a record was given, and the record.
abbrev pub got_of : Answer Unit × Term → Got
got_of x = record { status = status_of x.0; term = x.1 }

abbrev pub sign_of : Ordering → ℤ
sign_of Less = neg_ℤ (pos 1)
sign_of Equal = pos 0
sign_of Greater = pos 1

abbrev pub order_of : Answer Ordering → Standing
order_of (given o) = record { status = pos 0; order = sign_of o }
order_of (refused k) = record { status = neg_ℤ (pos k); order = pos 0 }

-- The answer of a call that adds, with the counts n and m of the store then.
abbrev pub added_with : Answer ℕ → ℕ → ℕ → Adding
added_with (given i) n m = record { status = pos 0; term = i; terms = n; symbols = m }
added_with (refused k) n m = record { status = neg_ℤ (pos k); term = 0; terms = n; symbols = m }

abbrev pub added_told : Answer ℕ × Store → Adding
added_told x = added_with x.0 x.1.terms x.1.symbols

-- the same of the code's answer, from a store of n terms and m symbols
abbrev pub added_told_of : Result Added Refusal → ℕ → ℕ → Adding
added_told_of r n m = added_told (seen_added r [] [] [] n m)
