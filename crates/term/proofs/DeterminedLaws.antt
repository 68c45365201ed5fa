-- What is seen the same is the same: refusals have different numbers, and so have answers. Assumes nothing.
use Prim.Native.Nat.{ℕ}
use mathlib.Core.Path.{◌≡◌, ap, sym}
use mathlib.Core.List.{List}
use native.Mathlib.Omega.{arith}
use lib.IntN.{ℤ}
use Rattle.std.specs.Prelude.{Result, Ok, Err}
use Rattle.refusal.specs.declared.Refusal.{Refusal}
use Rattle.refusal.proofs.NumberLaws.{number-once}
use Rattle.term_rules.specs.declared.Term.{Term}
use Rattle.term_rules.specs.Lent.{Store, store}
use Rattle.term_add.specs.declared.Added.{Added}
use Rattle.term.specs.Answers.{Answer, given, refused, seen, seen_added, seen_got, seen_sort}

pub given-same : {A : Type 0} {a b : A} → given a ≡ given b → a ≡ b
given-same e = cc

pub refused-same : {A : Type 0} {m n : ℕ} → ◌≡◌ {A = Answer A} (refused m) (refused n) → m ≡ n
refused-same e = cc

pub given-refused : {P A : Type 0} {a : A} {n : ℕ} → given a ≡ refused n → P
given-refused e = let z : ◌≡◌ {A = ℕ} 0 1 = cc in absurd (omega arith)

pub seen-once : {A : Type 0} (r q : Result A Refusal) → seen r ≡ seen q → r ≡ q
seen-once (Ok i) (Ok j) e = ap Ok (given-same e)
seen-once (Ok i) (Err q) e = given-refused e
seen-once (Err r) (Ok j) e = given-refused (sym e)
seen-once (Err r) (Err q) e = ap Err (number-once r q (refused-same e))

pub sorted-once :
    (r q : Result Unit Refusal) (l m : List ℕ) → seen_sort r l ≡ seen_sort q m → (r ≡ q) × (l ≡ m)
sorted-once r q l m e = (seen-once r q (ap (λ x. x.0) e), ap (λ x. x.1) e)

pub got-once : (r q : Result Term Refusal) → seen_got r ≡ seen_got q → r ≡ q
got-once (Ok t) (Ok u) e = ap Ok (ap (λ x. x.1) e)
got-once (Ok t) (Err q) e = given-refused (ap (λ x. x.0) e)
got-once (Err r) (Ok u) e = given-refused (sym (ap (λ x. x.0) e))
got-once (Err r) (Err q) e = ap Err (number-once r q (refused-same (ap (λ x. x.0) e)))

pub added-once :
    (r q : Result Added Refusal) (rs rs' : List ℕ) (ls ls' : List ℤ) (ns ns' : List ℕ) (n m : ℕ) →
    seen_added r rs ls ns n m ≡ seen_added q rs' ls' ns' n m →
    (r ≡ q) × (rs ≡ rs') × (ls ≡ ls') × (ns ≡ ns')
added-once (Ok a) (Ok b) rs rs' ls ls' ns ns' n m e =
    let t : store rs ls ns a.terms a.symbols ≡ store rs' ls' ns' b.terms b.symbols = ap (λ x. x.1) e in
    let p : a.term ≡ b.term = given-same (ap (λ x. x.0) e) in
    let q : a.terms ≡ b.terms = ap (λ (s : Store). s.terms) t in
    let r : a.symbols ≡ b.symbols = ap (λ (s : Store). s.symbols) t in
    let d : a ≡ b = rw (p, q, r) in (
      ap Ok d,
      ap (λ (s : Store). s.records) t,
      ap (λ (s : Store). s.literals) t,
      ap (λ (s : Store). s.names) t,
    )
added-once (Ok a) (Err q) rs rs' ls ls' ns ns' n m e = given-refused (ap (λ x. x.0) e)
added-once (Err r) (Ok b) rs rs' ls ls' ns ns' n m e = given-refused (sym (ap (λ x. x.0) e))
added-once (Err r) (Err q) rs rs' ls ls' ns ns' n m e =
    let t : store rs ls ns n m ≡ store rs' ls' ns' n m = ap (λ x. x.1) e in (
      ap Err (number-once r q (refused-same (ap (λ x. x.0) e))),
      ap (λ (s : Store). s.records) t,
      ap (λ (s : Store). s.literals) t,
      ap (λ (s : Store). s.names) t,
    )

pub adds-once :
    (r q : Result ℕ Refusal) (t u : Store) → ◌≡◌ {A = Answer ℕ × Store} (seen r, t) (seen q, u) → (r ≡ q) × (t ≡ u)
adds-once r q t u e = (seen-once r q (ap (λ x. x.0) e), ap (λ x. x.1) e)
