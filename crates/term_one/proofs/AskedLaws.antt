-- What an add asks for, by its tests, and what it then answers. Assumes nothing.
use Prim.Native.Nat.{ℕ, zero, suc, ◌+◌, ◌-◌, ◌≤◌, ◌<◌}
use mathlib.Core.Path.{◌≡◌, refl, ap, ◌∙◌}
use mathlib.Core.Bool.{true, false}
use mathlib.Core.List.{List, [], ◌∷◌, ◌++◌, map}
use native.Mathlib.Omega.{arith}
use borrow.Author.Tests.{le-leb, lt-leb, lt-ltb, le-ltb, ne_eqb}
use lib.IntN.{ℤ, pos}
use lib.ListN.{
  length,
  get_or,
  take,
  replicate,
  length-append,
  length-take,
  length-replicate,
  length-map,
  get_or-eq_default,
}
use lib.Seq.{get_or-take, take-append-le}
use Rattle.name.specs.Name.{valid}
use Rattle.name.specs.Entries.{entry_room, length_at, name_at}
use Rattle.refusal.specs.declared.Refusal.{Refusal}
use Rattle.refusal.specs.declared.Refusal.TheVariants.{Short, BadName, BadSize, BadTerm, BadValue}
use Rattle.term_rules.specs.Lent.{Store, HasRecord, kind_at, symbol_no, arity_at, places_at, kids_at}
use Rattle.term_rules.specs.WellFormed.{all_below, well_formed}
use Rattle.term_rules.specs.Nodes.{Node, literal, variable, application}
use Rattle.term_rules.proofs.KindLaws.{by_kind-literal, by_kind-variable, by_kind-application, by_kind-other}
use Rattle.term_rules.proofs.LayoutLaws.{children-length}
use Rattle.term.specs.Answers.{refuse}
use Rattle.term.specs.Calls.{
  fine,
  literal_faults,
  variable_faults,
  terms_faults,
  application_faults,
  add_literal,
  add_variable,
  add_application,
}
use Rattle.term.specs.Calls.{fault as fails}
use Rattle.term.proofs.CallLaws.{unless-yes, unless-no, variable-then, application-then}
use Rattle.term_one.specs.Wanted.{
  Wanted,
  Asked,
  node,
  fault,
  valued,
  named,
  kids_of,
  asked_at,
  child_number,
  settled,
}
use Rattle.term_one.specs.One.{single, add_one}

-- the tests of the store's own call, on a store that is well formed
module _ (s : Store) (w : well_formed s ≡ true) where
  pub store-passes : fine ≡ literal_faults s
  unfolding literal_faults
  store-passes = unless-yes _ _ _ w

  module _ (n : List ℕ) where
    pub name-fails : valid n ≡ false → fails BadName ≡ variable_faults s n
    name-fails v = unless-no _ _ _ v ∙ variable-then s n _ store-passes

    pub name-passes : valid n ≡ true → fine ≡ variable_faults s n
    name-passes v = unless-yes _ _ _ v ∙ variable-then s n _ store-passes

    module _ (ks : List ℕ) where
      pub applied-name : valid n ≡ false → fails BadName ≡ application_faults s n ks
      applied-name v = application-then s n ks _ (name-fails v)

      module _ (v : valid n ≡ true) where
        pub applied-size : 8 < length ks → fails BadSize ≡ application_faults s n ks
        applied-size h = unless-no _ _ _ (lt-leb _ 8 h) ∙ application-then s n ks _ (name-passes v)

        applied-terms : length ks ≤ 8 → terms_faults s.terms ks ≡ application_faults s n ks
        applied-terms h = unless-yes _ _ _ (le-leb _ 8 h) ∙ application-then s n ks _ (name-passes v)

        module _ (h : length ks ≤ 8) where
          pub applied-fails : all_below s.terms ks ≡ false → fails BadTerm ≡ application_faults s n ks
          unfolding terms_faults
          applied-fails a = unless-no _ _ _ a ∙ applied-terms h

          pub applied-passes : all_below s.terms ks ≡ true → fine ≡ application_faults s n ks
          unfolding terms_faults
          applied-passes a = unless-yes _ _ _ a ∙ applied-terms h

-- a literal
module _ (zs : List ℤ) (e : ℕ) where
  pub valued-short : length zs ≤ e → valued zs e ≡ fault Short
  unfolding valued
  valued-short h = rw (le-ltb e (length zs) h, valued)

  pub valued-node : e < length zs → valued zs e ≡ node (literal (get_or zs e (pos 0)))
  unfolding valued
  valued-node h = rw (lt-ltb e (length zs) h, valued)

-- a name
module _ (ns : List ℕ) (k : ℕ) (make : List ℕ → Node) where
  pub named-short : entry_room (length ns) ≤ k → named ns k make ≡ fault Short
  unfolding named
  named-short h = rw (le-ltb k (entry_room (length ns)) h, named)

  module _ (h : k < entry_room (length ns)) where
    pub named-long : 31 < length_at ns k → named ns k make ≡ fault BadName
    unfolding named
    named-long l = rw (lt-ltb k (entry_room (length ns)) h, lt-leb (length_at ns k) 31 l, named)

    pub named-node : length_at ns k ≤ 31 → named ns k make ≡ node (make (name_at ns k))
    unfolding named
    named-node l = rw (lt-ltb k (entry_room (length ns)) h, le-leb (length_at ns k) 31 l, named)

-- an add, by its kind
module _ (w : Wanted) (e : ℕ) where
  abbrev make_application : List ℕ → Node
  make_application n = application n (kids_of w.adds e)

  pub asked-literal : kind_at w.adds e ≡ 0 → asked_at w e ≡ valued w.values e
  unfolding asked_at
  asked-literal h = by_kind-literal _ _ _ _ (kind_at w.adds e) h

  pub asked-variable :
      kind_at w.adds e ≡ 1 → asked_at w e ≡ named w.labels (symbol_no w.adds e) variable
  unfolding asked_at
  asked-variable h = by_kind-variable _ _ _ _ (kind_at w.adds e) h

  pub asked-application :
      kind_at w.adds e ≡ 2 → asked_at w e ≡ named w.labels (symbol_no w.adds e) make_application
  unfolding asked_at
  asked-application h = by_kind-application _ _ _ _ (kind_at w.adds e) h

  pub asked-other : 2 < kind_at w.adds e → asked_at w e ≡ fault BadValue
  unfolding asked_at
  asked-other h =
      by_kind-other _ _ _ _ (kind_at w.adds e) (ne_eqb (kind_at w.adds e) 0 (λ d. omega arith))
      (ne_eqb (kind_at w.adds e) 1 (λ d. omega arith))
      (ne_eqb (kind_at w.adds e) 2 (λ d. omega arith))

-- what it answers
module _ (s : Store) (got : List ℕ) (q : Asked) where
  pub one-fault : (r : Refusal) → q ≡ fault r → (refuse r, s) ≡ add_one s got q
  unfolding add_one
  one-fault r h = rw h

  pub one-literal : (z : ℤ) → q ≡ node (literal z) → add_literal s z ≡ add_one s got q
  unfolding add_one single settled
  one-literal z h = rw h

  pub one-variable : (n : List ℕ) → q ≡ node (variable n) → add_variable s n ≡ add_one s got q
  unfolding add_one single settled
  one-variable n h = rw h

  pub one-application :
      (n ks : List ℕ) →
      q ≡ node (application n ks) →
      add_application s n (map (child_number got) ks) ≡ add_one s got q
  unfolding add_one single settled
  one-application n ks h = rw h

-- the children
module _ (rs : List ℕ) (e : ℕ) where
  pub kids-few : HasRecord rs e → arity_at rs e ≤ 8 → kids_of rs e ≡ kids_at rs e
  unfolding kids_of
  kids-few h l =
      take-append-le (arity_at rs e) (places_at rs e) (replicate (arity_at rs e) 0)
      (omega (arith, children-length rs e h))

  kids-count : length (kids_of rs e) ≡ arity_at rs e
  unfolding kids_of
  kids-count =
      let a : length (places_at rs e ++ replicate (arity_at rs e) 0) ≡ length (places_at rs e) + arity_at rs e =
      length-append (places_at rs e) (replicate (arity_at rs e) 0)
      ∙ ap (λ (n : ℕ). length (places_at rs e) + n) (length-replicate (arity_at rs e) 0) in
      length-take (arity_at rs e) (places_at rs e ++ replicate (arity_at rs e) 0) ∙ omega (arith, a)

  pub kids-many : 8 < arity_at rs e → 8 < length (kids_of rs e)
  kids-many l = omega (arith, kids-count)

-- the same by the count that was read
module _ (rs : List ℕ) (e count : ℕ) (is : count ≡ arity_at rs e) where
  pub counted-few : HasRecord rs e → count ≤ 8 → kids_of rs e ≡ kids_at rs e
  counted-few h l = kids-few rs e h (omega (arith, is))

  pub counted-many : (f : ℕ → ℕ) → 8 < count → 8 < length (map f (kids_of rs e))
  counted-many f l = omega (arith, is, kids-count rs e, length-map (kids_of rs e) f)

-- the number of a child
module _ (got : List ℕ) (x : ℕ) where
  pub child-term : x < 1024 → child_number got x ≡ x
  unfolding child_number
  child-term h = rw (lt-ltb x 1024 h, child_number)

  child-other : 1024 ≤ x → child_number got x ≡ get_or got (x - 1024) x
  unfolding child_number
  child-other h = rw (le-ltb x 1024 h, child_number)

get_d-inside : (l : List ℕ) (i d d' : ℕ) → i < length l → get_or l i d ≡ get_or l i d'
get_d-inside [] i d d' h = absurd (omega arith)
get_d-inside (x ∷ xs) zero d d' h = refl
get_d-inside (x ∷ xs) (suc i) d d' h = get_d-inside xs i d d' (omega arith)

module _ (got : List ℕ) (e x : ℕ) (room : e ≤ length got) where
  pub child-add : 1024 ≤ x → x - 1024 < e → child_number (take e got) x ≡ get_or got (x - 1024) 0
  child-add h l =
      child-other (take e got) x h
      ∙ get_or-take e got (x - 1024) x l
      ∙ get_d-inside got (x - 1024) x 0 (omega arith)

  pub child-none : 1024 ≤ x → e ≤ x - 1024 → child_number (take e got) x ≡ x
  child-none h l =
      child-other (take e got) x h
      ∙ get_or-eq_default (take e got) x {n = x - 1024} (omega (arith, length-take e got))

-- The loop over the children: the numbers of the first j are put.
pub record Settling (f : ℕ → ℕ) (kids first : List ℕ) (j : ℕ) (at : List ℕ) : Type 0 where
  pub within : j ≤ length kids
  pub long : length at ≡ length first
  pub room : length kids ≤ length first
  pub same : take j at ≡ map f (take j kids)
