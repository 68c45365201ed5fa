-- What the loop over the adds gives and leaves. Assumes nothing: these are definitions.
use Rattle.std.specs.Prelude.{ℕ, ◌≡◌, List, [], length, take, Result, Ok, Err}
use Rattle.refusal.specs.declared.Refusal.{Refusal}
use Rattle.term_rules.specs.Lent.{Store}
use Rattle.term_rules.specs.Growing.{Beyond}
use Rattle.term.specs.Answers.{Answer, given, refuse}
use Rattle.term_one.specs.Wanted.{Wanted, add_count}
use Rattle.term_many.specs.Many.{add_from}

-- the lists of the second store are as long as those of the first
pub record Long (s t : Store) : Type 0 where
  pub records : length t.records ≡ length s.records
  pub literals : length t.literals ≡ length s.literals
  pub names : length t.names ≡ length s.names

-- an answer, with the numbers and the store as they were left
abbrev pub outcome : Result Unit Refusal → List ℕ → Store → Answer (List ℕ × Store)
outcome (Ok u) got t = given (got, t)
outcome (Err r) got t = refuse r

-- the adds were made one by one; the lists are as long as they were, and past 1,024 records and 128 names nothing
-- changed
pub record Made (w : Wanted) (room : ℕ) (s : Store) (r : Result Unit Refusal) (got : List ℕ) (t : Store) : Type 0 where
  pub same : add_from w room s [] (add_count w) ≡ outcome r (take (add_count w) got) t
  pub long : Long s t
  pub beyond : Beyond s t.records t.literals t.names
