-- The tests `same`, `same_int`, `same_term` and `same_node` say yes exactly of equal values. Assumes nothing.
use Prim.Native.Nat.{ℕ}
use mathlib.Core.Path.{◌≡◌, refl, ap}
use mathlib.Core.Bool.{Bool, true, false}
use mathlib.Core.List.{List, [], ◌∷◌}
use borrow.Author.Tests.{eqb-true, eq-eqb}
use lib.Dec.{eqb}
use lib.IntN.{ℤ, pos, negsuc}
use Rattle.name.specs.Name.{same}
use Rattle.term_rules.specs.declared.Term.{Term}
use Rattle.term_rules.specs.WellFormed.{same_int, same_term}
use Rattle.term_rules.specs.Nodes.{Node, literal, variable, application, same_node}
use Rattle.term_rules.proofs.TestLaws.{cases, no_both, and_first, and_second, and_both}

-- A test that says yes exactly of equal values.
pub record Tells {A : Type 0} (test : A → A → Bool) : Type 0 where
  pub eq : (a b : A) → test a b ≡ true → a ≡ b
  pub self : (a : A) → test a a ≡ true

module _ {A : Type 0} (test : A → A → Bool) (tells : Tells test) where
  pub tells-yes : (a b : A) → a ≡ b → test a b ≡ true
  tells-yes a b e = rw e (tells.self b)

  pub tells-no : (a b : A) → (a ≡ b → ⊥) → test a b ≡ false
  tells-no a b n = cases (test a b) (λ e. absurd (n (tells.eq a b e))) (λ e. e)

  pub tells-apart : (a b : A) → test a b ≡ false → a ≡ b → ⊥
  tells-apart a b f e = no_both (test a b) (tells-yes a b e) f

same-eq : (a b : List ℕ) → same a b ≡ true → a ≡ b
unfolding same
same-eq [] [] e = refl
same-eq [] (y ∷ b) e = no_both false e refl
same-eq (x ∷ a) [] e = no_both false e refl
same-eq (x ∷ a) (y ∷ b) e =
    let h : x ≡ y = eqb-true x y (and_first (eqb x y) (same a b) e) in
    let t : a ≡ b = same-eq a b (and_second (eqb x y) (same a b) e) in
    cc

same_self : (a : List ℕ) → same a a ≡ true
unfolding same
same_self [] = refl
same_self (x ∷ a) = and_both (eqb x x) (same a a) (eq-eqb x x refl) (same_self a)

pub same-tells : Tells same
same-tells = record { eq = same-eq; self = same_self }

same_int-eq : (a b : ℤ) → same_int a b ≡ true → a ≡ b
unfolding same_int
same_int-eq (pos m) (pos n) e = ap pos (eqb-true m n e)
same_int-eq (pos m) (negsuc n) e = no_both false e refl
same_int-eq (negsuc m) (pos n) e = no_both false e refl
same_int-eq (negsuc m) (negsuc n) e = ap negsuc (eqb-true m n e)

same_int-self : (a : ℤ) → same_int a a ≡ true
unfolding same_int
same_int-self (pos m) = eq-eqb m m refl
same_int-self (negsuc m) = eq-eqb m m refl

pub same_int-tells : Tells same_int
same_int-tells = record { eq = same_int-eq; self = same_int-self }

-- records that agree in every field are equal
pub term-same :
    (a b : Term) →
    a.kind ≡ b.kind →
    a.symbol ≡ b.symbol →
    a.count ≡ b.count →
    a.literal ≡ b.literal →
    a.children ≡ b.children →
    a ≡ b
term-same a b k s c l h = λ i. record {
  kind = k i;
  symbol = s i;
  count = c i;
  literal = l i;
  children = h i;
}

same_term-eq : (a b : Term) → same_term a b ≡ true → a ≡ b
unfolding same_term
same_term-eq a b e =
    let k = and_first (eqb a.kind b.kind) _ e in
    let e₁ = and_second (eqb a.kind b.kind) _ e in
    let s = and_first (eqb a.symbol b.symbol) _ e₁ in
    let e₂ = and_second (eqb a.symbol b.symbol) _ e₁ in
    let c = and_first (eqb a.count b.count) _ e₂ in
    let e₃ = and_second (eqb a.count b.count) _ e₂ in
    let l = and_first (same_int a.literal b.literal) _ e₃ in
    let h = and_second (same_int a.literal b.literal) _ e₃ in
    term-same a b (eqb-true _ _ k) (eqb-true _ _ s) (eqb-true _ _ c) (same_int-eq _ _ l) (same-eq _ _ h)

same_term-self : (a : Term) → same_term a a ≡ true
unfolding same_term
same_term-self a =
    rw (
      eq-eqb a.kind a.kind refl,
      eq-eqb a.symbol a.symbol refl,
      eq-eqb a.count a.count refl,
      same_int-self a.literal,
      same_self a.children,
    )

pub same_term-tells : Tells same_term
same_term-tells = record { eq = same_term-eq; self = same_term-self }

same_node-eq : (a b : Node) → same_node a b ≡ true → a ≡ b
unfolding same_node
same_node-eq (literal y) (literal z) e = ap literal (same_int-eq y z e)
same_node-eq (literal y) (variable n) e = no_both false e refl
same_node-eq (literal y) (application n ks) e = no_both false e refl
same_node-eq (variable m) (literal z) e = no_both false e refl
same_node-eq (variable m) (variable n) e = ap variable (same-eq m n e)
same_node-eq (variable m) (application n ks) e = no_both false e refl
same_node-eq (application m js) (literal z) e = no_both false e refl
same_node-eq (application m js) (variable n) e = no_both false e refl
same_node-eq (application m js) (application n ks) e =
    let h : m ≡ n = same-eq m n (and_first (same m n) (same js ks) e) in
    let t : js ≡ ks = same-eq js ks (and_second (same m n) (same js ks) e) in
    cc

same_node-self : (a : Node) → same_node a a ≡ true
unfolding same_node
same_node-self (literal z) = same_int-self z
same_node-self (variable n) = same_self n
same_node-self (application n ks) = and_both (same n n) (same ks ks) (same_self n) (same_self ks)

pub same_node-tells : Tells same_node
same_node-tells = record { eq = same_node-eq; self = same_node-self }
