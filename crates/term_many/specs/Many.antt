-- A list of adds as one call: the adds made one by one, all or nothing. R-term-18 of docs/RULES.md. Assumes nothing:
-- these are definitions.
use Rattle.std.specs.Prelude.{ℕ, zero, suc, min, true, false, List, [], ◌∷◌, ◌++◌, ltb, length, drop}
use Rattle.std.specs.Prelude.{Result, Ok, Err}
use Rattle.refusal.specs.declared.Refusal.{Refusal}
use Rattle.refusal.specs.declared.Refusal.TheVariants.{NoRoom, BadStore}
use Rattle.term_rules.specs.Lent.{Store}
use Rattle.term_rules.specs.WellFormed.{well_formed}
use Rattle.term.specs.Answers.{Answer, given, refused, refuse}
use Rattle.term_one.specs.Wanted.{Wanted, add_count, asked_at}
use Rattle.term_one.specs.One.{add_one}

-- "The call equals the adds .. made one by one, in order, each on the store that the one before it left": the next n
-- adds, after those that got these numbers. "The first add in order that has a fault decides"; "NoRoom, if there is no
-- place for its number", comes last.
unfoldable pub add_from : Wanted → ℕ → Store → List ℕ → ℕ → Answer (List ℕ × Store)
add_from w room s got zero = given (got, s)
add_from w room s got (suc n) =
    elim (add_one s got (asked_at w (length got))).0 [
      | given i ↦
          elim (ltb (length got) room) [
            | true ↦ add_from w room (add_one s got (asked_at w (length got))).1 (got ++ (i ∷ [])) n
            | false ↦ refuse NoRoom
          ]
      | refused k ↦ refused k
    ]

-- "of which at most 1,024 places count": as many as a store has terms
abbrev pub number_room : List ℕ → ℕ
number_room out = min 1024 (length out)

-- the answer, and what was lent as it is left: the store, and the list for the numbers
pub record Left : Type 0 where
  pub answer : Answer Unit
  pub lent : Store
  pub numbers : List ℕ

-- "The number of add e stands at place e of the lent list ..; its rest stays"; "a refusal changes nothing that was
-- lent"
unfoldable pub left : Store → List ℕ → Answer (List ℕ × Store) → Left
left s out (given p) =
    record { answer = given tt; lent = p.1; numbers = p.0 ++ drop (length p.0) out }
left s out (refused k) = record { answer = refused k; lent = s; numbers = out }

-- "17; then add by add": R-order-14
unfoldable pub add_many : Wanted → Store → List ℕ → Left
add_many w s out =
    left s out
    (elim (well_formed s) [ true ↦ add_from w (number_room out) s [] (add_count w) | false ↦ refuse BadStore ])

-- an answer of the code, with what was lent as it was left
abbrev pub seen_many : Result Unit Refusal → Store → List ℕ → Left
seen_many (Ok u) t out = record { answer = given tt; lent = t; numbers = out }
seen_many (Err r) t out = record { answer = refuse r; lent = t; numbers = out }
