-- What the store's calls answered, told in one struct with what they leave. Assumes nothing.
use mathlib.Core.Path.{◌≡◌, refl, ap, ◌∙◌}
use Prim.Native.Nat.{ℕ}
use mathlib.Core.List.{List}
use lib.IntN.{ℤ}
use Rattle.term_rules.specs.declared.Term.{Term}
use Rattle.term_rules.specs.Lent.{Store}
use Rattle.std.specs.Prelude.{Result, Ok, Err}
use Rattle.refusal.specs.declared.Refusal.{Refusal}
use Rattle.term_add.specs.declared.Added.{Added}
use Rattle.term.specs.Answers.{Answer, seen, seen_added, seen_sort}
use Rattle.lent_terms.specs.Lists.{LentAdded}
use Rattle.c_told.specs.Terms.{status_of, added_told, added_told_of}
use Rattle.c_told.specs.declared.terms.Adding.{Adding}
use Rattle.needlevale_c.specs.Terms.{Sorts, AddedLeft}

pub sorts-so :
    (r : Result Unit Refusal) (list : List ℕ) (wanted : Answer Unit × List ℕ) (z : ℤ) →
    seen_sort r list ≡ wanted → z ≡ status_of (seen r) → Sorts wanted z list
sorts-so r list wanted z e t = record {
  number = t ∙ ap (λ (x : Answer Unit × List ℕ). status_of x.0) e;
  list_is = ap (λ (x : Answer Unit × List ℕ). x.1) e;
}

added-alike :
    (r : Result Added Refusal) (rs : List ℕ) (ls : List ℤ) (bs : List ℕ) (n m : ℕ) →
    added_told_of r n m ≡ added_told (seen_added r rs ls bs n m)
added-alike (Ok a) rs ls bs n m = refl
added-alike (Err k) rs ls bs n m = refl

pub added-left :
    (ts : List Term) (ns : List (List ℕ)) (n m : ℕ) (wanted : Answer ℕ × Store) (r : Result Added Refusal) (z : Adding)
    (ts' : List Term) (ns' : List (List ℕ)) →
    LentAdded ts ns n m wanted r ts' ns' → z ≡ added_told_of r n m → AddedLeft ts ns n m wanted z ts' ns'
added-left ts ns n m wanted r z ts' ns' h t = record {
  numbers = t ∙ added-alike r _ _ _ n m ∙ ap added_told h.answer;
  lists = record { records = h.records; entries = h.entries; held = h.held; unchanged = h.unchanged };
}
