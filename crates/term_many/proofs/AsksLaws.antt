-- What is asked of one add, in its order, and that none is refused by BadStore on a well-formed store. Assumes nothing.
use Prim.Native.Nat.{ℕ, ◌≤◌, ◌<◌}
use mathlib.Core.Path.{◌≡◌, sym, ap, subst, ◌∙◌}
use mathlib.Core.Bool.{true}
use mathlib.Core.List.{List, map}
use mathlib.Core.Logic.{◌⊎◌, inl, inr}
use native.Mathlib.Omega.{arith}
use borrow.Author.Tests.{leb-true, leb-false, ltb-true, ltb-false, eqb-true, eqb-false}
use lib.Dec.{leb, ltb, eqb}
use lib.IntN.{ℤ, pos}
use lib.ListN.{length, get_or}
use Rattle.name.specs.Entries.{entry_room, length_at, name_at}
use Rattle.name.specs.Name.{valid}
use Rattle.term_rules.specs.Lent.{Store, kind_at, symbol_no}
use Rattle.term_rules.specs.WellFormed.{well_formed}
use Rattle.term_rules.specs.Nodes.{Node, literal, variable, application}
use Rattle.term_rules.proofs.TestLaws.{cases}
use Rattle.term.specs.Answers.{Answer, refused}
use Rattle.term.specs.Orders.{Telling, never, must, Refuses}
use Rattle.term.specs.Outcomes.{There, AllIn, Room, asks_literal}
use Rattle.term.proofs.OrderLaws.{refuses-pass, refuses-fail}
use Rattle.term.proofs.Promises.{promises}
use Rattle.term_one.specs.Wanted.{Wanted, Asked, named, kids_of, asked_at, child_number}
use Rattle.term_one.specs.One.{add_one}
use Rattle.term_many.specs.Promises.{
  room_for,
  asks_value,
  asks_label,
  asks_named,
  asks_applied,
  asks_by_kind,
  asks_add,
}
use Rattle.term_one.proofs.AskedLaws.{
  valued-short,
  valued-node,
  named-short,
  named-long,
  named-node,
  asked-literal,
  asked-variable,
  asked-application,
  asked-other,
  one-fault,
  one-literal,
  one-variable,
  one-application,
}

-- the answer of a pair that is known
first : {A B : Type 0} {p q : A × B} → p ≡ q → p.0 ≡ q.0
first e = ap (λ x. x.0) e

module _ (w : Wanted) (t : Store) (got : List ℕ) (e : ℕ) where
  abbrev q : Asked
  q = asked_at w e

  abbrev a : Answer ℕ
  a = (add_one t got q).0

  abbrev kind : ℕ
  kind = kind_at w.adds e

  abbrev k : ℕ
  k = symbol_no w.adds e

  -- a literal
  value-asks : kind ≡ 0 → Refuses a (asks_value w t e)
  value-asks h =
      cases (ltb e (length w.values))
      (λ b.
      let l = ltb-true e (length w.values) b in
      let z : ℤ = get_or w.values e (pos 0) in
      refuses-pass a (e < length w.values) 1 _ l
      (subst (λ (x : Answer ℕ). Refuses x (asks_literal t (room_for t (literal z))))
      (first (one-literal t got q z (asked-literal w e h ∙ valued-node w.values e l)))
      (promises.literal_added t z).refusals))
      (λ b.
      let l = ltb-false e (length w.values) b in
      refuses-fail a (e < length w.values) 1 _ (λ m. absurd (omega arith))
      (sym (first (one-fault t got q _ (asked-literal w e h ∙ valued-short w.values e l)))))

  -- a name: the rest decides where it stands in its entry
  label-asks :
      (make : List ℕ → Node) (rest : List ℕ → Telling) →
      q ≡ named w.labels k make →
      (k < entry_room (length w.labels) → length_at w.labels k ≤ 31 → Refuses a (rest (name_at w.labels k))) →
      Refuses a (asks_label w k rest)
  label-asks make rest d h =
      cases (ltb k (entry_room (length w.labels)))
      (λ b.
      let l = ltb-true k (entry_room (length w.labels)) b in
      refuses-pass a (k < entry_room (length w.labels)) 1 _ l
      (cases (leb (length_at w.labels k) 31)
      (λ c.
      let m = leb-true (length_at w.labels k) 31 c in
      refuses-pass a (length_at w.labels k ≤ 31) 4 _ m (h l m))
      (λ c.
      let m = leb-false (length_at w.labels k) 31 c in
      refuses-fail a (length_at w.labels k ≤ 31) 4 _ (λ n. absurd (omega arith))
      (sym (first (one-fault t got q _ (d ∙ named-long w.labels k make l m)))))))
      (λ b.
      let l = ltb-false k (entry_room (length w.labels)) b in
      refuses-fail a (k < entry_room (length w.labels)) 1 _ (λ m. absurd (omega arith))
      (sym (first (one-fault t got q _ (d ∙ named-short w.labels k make l)))))

  variable-asks : kind ≡ 1 → Refuses a (asks_label w k (asks_named t))
  variable-asks h =
      let d = asked-variable w e h in
      label-asks variable (asks_named t) d
      (λ l m.
      subst (λ (x : Answer ℕ). Refuses x (asks_named t (name_at w.labels k)))
      (first (one-variable t got q _ (d ∙ named-node w.labels k variable l m)))
      (promises.variable_added t (name_at w.labels k)).refusals)

  abbrev children : List ℕ
  children = map (child_number got) (kids_of w.adds e)

  application-asks : kind ≡ 2 → Refuses a (asks_label w k (asks_applied t children))
  application-asks h =
      let d = asked-application w e h in
      label-asks (λ (n : List ℕ). application n (kids_of w.adds e)) (asks_applied t children) d
      (λ l m.
      subst (λ (x : Answer ℕ). Refuses x (asks_applied t children (name_at w.labels k)))
      (first
      (one-application t got q _ _
      (d ∙ named-node w.labels k (λ (n : List ℕ). application n (kids_of w.adds e)) l m)))
      (promises.application_added t (name_at w.labels k) children).refusals)

  -- one of three
  kind-zero : kind ≡ 0 → Refuses a (asks_by_kind w t got e)
  kind-zero h j = (λ d. inl (h, (value-asks h j).0 d), back)
    where
      back : asks_by_kind w t got e j → a ≡ refused j
      back (inl x) = (value-asks h j).1 x.1
      back (inr (inl x)) = absurd (omega (arith, x.0))
      back (inr (inr x)) = absurd (omega (arith, x.0))

  kind-one : kind ≡ 1 → Refuses a (asks_by_kind w t got e)
  kind-one h j = (λ d. inr (inl (h, (variable-asks h j).0 d)), back)
    where
      back : asks_by_kind w t got e j → a ≡ refused j
      back (inl x) = absurd (omega (arith, x.0))
      back (inr (inl x)) = (variable-asks h j).1 x.1
      back (inr (inr x)) = absurd (omega (arith, x.0))

  kind-two : kind ≡ 2 → Refuses a (asks_by_kind w t got e)
  kind-two h j = (λ d. inr (inr (h, (application-asks h j).0 d)), back)
    where
      back : asks_by_kind w t got e j → a ≡ refused j
      back (inl x) = absurd (omega (arith, x.0))
      back (inr (inl x)) = absurd (omega (arith, x.0))
      back (inr (inr x)) = (application-asks h j).1 x.1

  pub add-asks : Refuses a (asks_add w t got e)
  add-asks =
      cases (leb kind 2)
      (λ b.
      let l = leb-true kind 2 b in
      refuses-pass a (kind ≤ 2) 8 _ l
      (cases (eqb kind 0) (λ c. kind-zero (eqb-true kind 0 c))
      (λ c.
      let m = eqb-false kind 0 c in
      cases (eqb kind 1) (λ d. kind-one (eqb-true kind 1 d))
      (λ d. let n = eqb-false kind 1 d in kind-two (omega (arith, m, n))))))
      (λ b.
      let l = leb-false kind 2 b in
      refuses-fail a (kind ≤ 2) 8 _ (λ m. absurd (omega arith))
      (sym (first (one-fault t got q _ (asked-other w e l)))))

-- BadStore is asked of the store alone
not-told : (P : Type 0) (m : ℕ) (rest : Telling) → (17 ≡ m → ⊥) → (rest 17 → ⊥) → must P m rest 17 → ⊥
not-told P m rest f g (inl x) = f x.1
not-told P m rest f g (inr x) = g x.1

not-store : (P : Type 0) (rest : Telling) → P → (rest 17 → ⊥) → must P 17 rest 17 → ⊥
not-store P rest p g (inl x) = x.0 p
not-store P rest p g (inr x) = g x.1

module _ (w : Wanted) (t : Store) (formed : well_formed t ≡ true) where
  no_room : (a : Node) → room_for t a 17 → ⊥
  no_room a = not-told (There t a ⊎ Room t a) 13 never (λ d. omega arith) (λ n. n)

  not-formed : (rest : Telling) → (rest 17 → ⊥) → must (well_formed t ≡ true) 17 rest 17 → ⊥
  not-formed rest = not-store (well_formed t ≡ true) rest formed

  not_valid : (n : List ℕ) (rest : Telling) → (rest 17 → ⊥) → must (valid n ≡ true) 4 rest 17 → ⊥
  not_valid n rest = not-told (valid n ≡ true) 4 rest (λ d. omega arith)

  not-value : (e : ℕ) → asks_value w t e 17 → ⊥
  not-value e =
      let a : Node = literal (get_or w.values e (pos 0)) in
      not-told (e < length w.values) 1 (asks_literal t (room_for t a)) (λ d. omega arith)
      (not-formed (room_for t a) (no_room a))

  not-label : (k : ℕ) (rest : List ℕ → Telling) → ((n : List ℕ) → rest n 17 → ⊥) → asks_label w k rest 17 → ⊥
  not-label k rest h =
      let n : List ℕ = name_at w.labels k in
      not-told (k < entry_room (length w.labels)) 1 (must (length_at w.labels k ≤ 31) 4 (rest n))
      (λ d. omega arith)
      (not-told (length_at w.labels k ≤ 31) 4 (rest n) (λ d. omega arith) (h n))

  not_named : (n : List ℕ) → asks_named t n 17 → ⊥
  not_named n =
      not-formed (must (valid n ≡ true) 4 (room_for t (variable n)))
      (not_valid n (room_for t (variable n)) (no_room (variable n)))

  not-applied : (ks n : List ℕ) → asks_applied t ks n 17 → ⊥
  not-applied ks n =
      let a : Node = application n ks in
      let terms : Telling = must (AllIn t ks) 14 (room_for t a) in
      let size : Telling = must (length ks ≤ 8) 3 terms in
      not-formed (must (valid n ≡ true) 4 size)
      (not_valid n size
      (not-told (length ks ≤ 8) 3 terms (λ d. omega arith)
      (not-told (AllIn t ks) 14 (room_for t a) (λ d. omega arith) (no_room a))))

  module _ (got : List ℕ) (e : ℕ) where
    not-kind : asks_by_kind w t got e 17 → ⊥
    not-kind (inl x) = not-value e x.1
    not-kind (inr (inl x)) = not-label (symbol_no w.adds e) (asks_named t) not_named x.1
    not-kind (inr (inr x)) =
        let ks : List ℕ = map (child_number got) (kids_of w.adds e) in
        not-label (symbol_no w.adds e) (asks_applied t ks) (not-applied ks) x.1

    pub add-formed : (add_one t got (asked_at w e)).0 ≡ refused 17 → ⊥
    add-formed d =
        not-told (kind_at w.adds e ≤ 2) 8 (asks_by_kind w t got e) (λ z. omega arith) not-kind
        ((add-asks w t got e 17).0 d)
