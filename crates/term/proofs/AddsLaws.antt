-- The calls that add a term and those that look one up keep their promises. Assumes nothing.
use Prim.Native.Nat.{ℕ, ◌≤◌}
use mathlib.Core.Path.{◌≡◌, refl, sym, subst}
use mathlib.Core.Bool.{true, false}
use mathlib.Core.List.{List}
use mathlib.Core.Logic.{◌⊎◌, inl, inr}
use borrow.Author.Tests.{leb-true, le-leb}
use lib.Dec.{leb}
use lib.ListN.{length}
use lib.IntN.{ℤ}
use Rattle.name.specs.Name.{valid}
use Rattle.std.specs.Prelude.{Option, Some, None}
use Rattle.refusal.specs.declared.Refusal.{Refusal}
use Rattle.refusal.specs.declared.Refusal.TheVariants.{BadStore, BadName, BadSize, BadTerm, NoRoom, Absent}
use Rattle.term_rules.specs.Lent.{Store}
use Rattle.term_rules.specs.WellFormed.{all_below, well_formed}
use Rattle.term_rules.specs.Nodes.{Node, literal, variable, application}
use Rattle.term_rules.specs.Adding.{find_term, room_for, at, no_room, add}
use Rattle.term_rules.specs.Adding.{Adds as Adding}
use Rattle.term_rules.proofs.TestLaws.{cases, no_both}
use Rattle.term_rules.proofs.ListLaws.{all_below-get, all_below-of}
use Rattle.term_rules.proofs.SearchLaws.{found-cases}
use Rattle.term_rules.specs.Growing.{Fit, Takes}
use Rattle.term_rules.specs.Growing.{Gives as Added}
use Rattle.term_rules.proofs.Adding.AddingLaws.{add-gives}
use Rattle.term.specs.Answers.{Answer, given, refused, refuse}
use Rattle.term.specs.Calls.{
  Faults,
  fine,
  fault,
  literal_faults,
  variable_faults,
  application_faults,
  added,
  adding,
  add_literal,
  add_variable,
  add_application,
  found,
  finding,
  find_literal,
  find_variable,
  find_application,
}
use Rattle.term.specs.Orders.{Telling, never, must, Refuses}
use Rattle.term.specs.Outcomes.{
  IsTerm,
  There,
  AllIn,
  Room,
  Gives,
  old,
  new,
  Adds,
  Finds,
  asks_literal,
  asks_variable,
  asks_application,
}
use Rattle.term.proofs.DeterminedLaws.{given-same, given-refused}
use Rattle.term.proofs.CallLaws.{literal-fits, variable-fits, application-fits}
use Rattle.term.proofs.OrderLaws.{refuses-never, refuses-pass, refuses-fail, refuses-unless}
use Rattle.term.proofs.AppendedLaws.{
  there-of-found,
  absent-of-missing,
  room-told,
  told-room,
  add-there,
  add-new,
  add-full,
  new-appended,
}

-- a call that adds
module _ (s : Store) (node : Node) where
  -- NoRoom comes where the term is not there and has no room
  added-told : Refuses (added s (add s node)).0 (must (There s node ⊎ Room s node) 13 never)
  unfolding added
  added-told =
      let told : Adding → Type 0 = λ a. Refuses (added s a).0 (must (There s node ⊎ Room s node) 13 never) in
      found-cases (find_term s node)
      (λ i e.
      subst told (sym (add-there s node i e))
      (refuses-pass (given i) (There s node ⊎ Room s node) 13 never (inl (i, there-of-found s node i e))
      (refuses-never i)))
      (λ e.
      cases (room_for s node)
      (λ r.
      subst told (sym (add-new s node e r))
      (refuses-pass (given s.terms) (There s node ⊎ Room s node) 13 never (inr (room-told s node r))
      (refuses-never s.terms)))
      (λ r.
      subst told (sym (add-full s node e r))
      (refuses-fail (refuse NoRoom) (There s node ⊎ Room s node) 13 never (full e r) refl)))
    where
      full : find_term s node ≡ None → room_for s node ≡ false → There s node ⊎ Room s node → ⊥
      full e r (inl t) = absent-of-missing s node e t
      full e r (inr h) = no_both (room_for s node) (told-room s node h) r

  added-unchanged : (a : Adding) (k : ℕ) → (added s a).0 ≡ refused k → (added s a).1 ≡ s
  unfolding added
  added-unchanged (at i t) k e = given-refused e
  added-unchanged no_room k e = refl

  adding-unchanged : (f : Faults) (k : ℕ) → (adding s node f).0 ≡ refused k → (adding s node f).1 ≡ s
  unfolding adding
  adding-unchanged fine k e = added-unchanged (add s node) k e
  adding-unchanged (fault r) k e = refl

  module _ (w : well_formed s ≡ true) (fit : Fit s node) where
    added-gives : (i : ℕ) → (added s (add s node)).0 ≡ given i → Gives s node i (added s (add s node)).1
    unfolding added
    added-gives i =
        let gives : Adding → Type 0 = λ a. (added s a).0 ≡ given i → Gives s node i (added s a).1 in
        found-cases (find_term s node)
        (λ j e.
        subst gives (sym (add-there s node j e))
        (λ d. old (subst (IsTerm s node) (given-same d) (there-of-found s node j e)) refl))
        (λ e.
        cases (room_for s node)
        (λ r.
        subst gives (sym (add-new s node e r))
        (λ d. new (absent-of-missing s node e) (sym (given-same d)) (new-appended s node e w fit r)))
        (λ r. subst gives (sym (add-full s node e r)) (λ d. given-refused (sym d))))

  adding-gives :
      (f : Faults) →
      (fine ≡ f → (well_formed s ≡ true) × Fit s node) →
      (i : ℕ) →
      (adding s node f).0 ≡ given i →
      Gives s node i (adding s node f).1
  unfolding adding
  adding-gives fine h i e = let p = h refl in added-gives p.0 p.1 i e
  adding-gives (fault r) h i e = given-refused (sym e)

  added-takes :
      (a : Adding) →
      Added s node a →
      (i : ℕ) →
      (added s a).0 ≡ given i →
      Takes s node i (added s a).1
  unfolding added
  added-takes (at j t) h i e = subst (λ (k : ℕ). Takes s node k t) (given-same e) h
  added-takes no_room h i e = given-refused (sym e)

  adding-takes :
      (f : Faults) →
      (fine ≡ f → (well_formed s ≡ true) × Fit s node) →
      (i : ℕ) →
      (adding s node f).0 ≡ given i →
      Takes s node i (adding s node f).1
  unfolding adding
  adding-takes fine h i e = let p = h refl in added-takes (add s node) (add-gives s node p.0 p.1) i e
  adding-takes (fault r) h i e = given-refused (sym e)

  adding-adds :
      (f : Faults) (asked : Telling → Telling) →
      (fine ≡ f → (well_formed s ≡ true) × Fit s node) →
      Refuses (adding s node f).0 (asked (must (There s node ⊎ Room s node) 13 never)) →
      Adds s node asked (adding s node f)
  adding-adds f asked h refusals = record {
    refusals = refusals;
    unchanged = adding-unchanged f;
    takes = adding-takes f h;
    gives = adding-gives f h;
  }

  -- a call that looks up
  found-told : Refuses (found (find_term s node)) (must (There s node) 15 never)
  unfolding found
  found-told =
      let told : Option ℕ → Type 0 = λ a. Refuses (found a) (must (There s node) 15 never) in
      found-cases (find_term s node)
      (λ i e.
      subst told (sym e)
      (refuses-pass (given i) (There s node) 15 never (i, there-of-found s node i e) (refuses-never i)))
      (λ e.
      subst told (sym e)
      (refuses-fail (refuse Absent) (There s node) 15 never (absent-of-missing s node e) refl))

  found-is : (a : Option ℕ) → find_term s node ≡ a → (i : ℕ) → found a ≡ given i → IsTerm s node i
  unfolding found
  found-is (Some j) e i d = subst (IsTerm s node) (given-same d) (there-of-found s node j e)
  found-is None e i d = given-refused (sym d)

  finding-is : (f : Faults) (i : ℕ) → finding s node f ≡ given i → IsTerm s node i
  unfolding finding
  finding-is fine i d = found-is (find_term s node) refl i d
  finding-is (fault r) i d = given-refused (sym d)

-- what each kind asks, in its order
module _ (s : Store) {A : Type 0} (answer : Faults → Answer A) (refuses : (r : Refusal) → answer (fault r) ≡ refuse r)
    (rest : Telling) (end : Refuses (answer fine) rest) where
  literal-asks : Refuses (answer (literal_faults s)) (asks_literal s rest)
  unfolding literal_faults
  literal-asks =
      refuses-unless answer refuses (well_formed s) (well_formed s ≡ true) BadStore fine rest (λ e. e) (λ e. e)
      (λ e. end)

  variable-asks : (n : List ℕ) → Refuses (answer (variable_faults s n)) (asks_variable s n rest)
  unfolding variable_faults
  variable-asks n =
      refuses-unless answer refuses (well_formed s) (well_formed s ≡ true) BadStore _ _ (λ e. e) (λ e. e)
      (λ e.
      refuses-unless answer refuses (valid n) (valid n ≡ true) BadName fine rest (λ v. v) (λ v. v) (λ v. end))

  application-asks : (n ks : List ℕ) → Refuses (answer (application_faults s n ks)) (asks_application s n ks rest)
  unfolding application_faults
  application-asks n ks =
      refuses-unless answer refuses (well_formed s) (well_formed s ≡ true) BadStore _ _ (λ e. e) (λ e. e)
      (λ e.
      refuses-unless answer refuses (valid n) (valid n ≡ true) BadName _ _ (λ v. v) (λ v. v)
      (λ v.
      refuses-unless answer refuses (leb (length ks) 8) (length ks ≤ 8) BadSize _ _ (leb-true (length ks) 8)
      (le-leb (length ks) 8)
      (λ h.
      refuses-unless answer refuses (all_below s.terms ks) (AllIn s ks) BadTerm fine rest
      (all_below-get s.terms ks) (all_below-of s.terms ks) (λ b. end))))

module _ (s : Store) where
  adding-refuses : (node : Node) (r : Refusal) → (adding s node (fault r)).0 ≡ refuse r
  unfolding adding
  adding-refuses node r = refl

  adding-told : (node : Node) → Refuses (adding s node fine).0 (must (There s node ⊎ Room s node) 13 never)
  unfolding adding
  adding-told node = added-told s node

  finding-refuses : (node : Node) (r : Refusal) → finding s node (fault r) ≡ refuse r
  unfolding finding
  finding-refuses node r = refl

  finding-told : (node : Node) → Refuses (finding s node fine) (must (There s node) 15 never)
  unfolding finding
  finding-told node = found-told s node

  pub literal-adds : (z : ℤ) → Adds s (literal z) (asks_literal s) (add_literal s z)
  unfolding add_literal
  literal-adds z =
      let node : Node = literal z in
      adding-adds s node (literal_faults s) (asks_literal s) (literal-fits s z)
      (literal-asks s (λ f. (adding s node f).0) (adding-refuses node) _ (adding-told node))

  pub variable-adds : (n : List ℕ) → Adds s (variable n) (asks_variable s n) (add_variable s n)
  unfolding add_variable
  variable-adds n =
      let node : Node = variable n in
      adding-adds s node (variable_faults s n) (asks_variable s n) (variable-fits s n)
      (variable-asks s (λ f. (adding s node f).0) (adding-refuses node) _ (adding-told node) n)

  pub application-adds :
      (n ks : List ℕ) → Adds s (application n ks) (asks_application s n ks) (add_application s n ks)
  unfolding add_application
  application-adds n ks =
      let node : Node = application n ks in
      adding-adds s node (application_faults s n ks) (asks_application s n ks) (application-fits s n ks)
      (application-asks s (λ f. (adding s node f).0) (adding-refuses node) _ (adding-told node) n ks)

  pub literal-finds : (z : ℤ) → Finds s (literal z) (asks_literal s) (find_literal s z)
  unfolding find_literal
  literal-finds z = record {
    refusals = literal-asks s (finding s (literal z)) (finding-refuses (literal z)) _ (finding-told (literal z));
    found = finding-is s (literal z) (literal_faults s);
  }

  pub variable-finds : (n : List ℕ) → Finds s (variable n) (asks_variable s n) (find_variable s n)
  unfolding find_variable
  variable-finds n = record {
    refusals = variable-asks s (finding s (variable n)) (finding-refuses (variable n)) _ (finding-told (variable n)) n;
    found = finding-is s (variable n) (variable_faults s n);
  }

  pub application-finds :
      (n ks : List ℕ) → Finds s (application n ks) (asks_application s n ks) (find_application s n ks)
  unfolding find_application
  application-finds n ks =
      let node : Node = application n ks in
      record {
        refusals = application-asks s (finding s node) (finding-refuses node) _ (finding-told node) n ks;
        found = finding-is s node (application_faults s n ks);
      }
