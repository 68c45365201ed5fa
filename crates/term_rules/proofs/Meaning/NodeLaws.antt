-- Nodes of a sound store: what each kind of record says, that children are lower, and that no two are equal. Assumes
-- nothing.
use Prim.Native.Nat.{ℕ, ◌≤◌, ◌<◌}
use mathlib.Core.Path.{◌≡◌, ap, sym, ◌∙◌}
use mathlib.Core.List.{List}
use native.Mathlib.Omega.{arith}
use borrow.Author.Tests.{ltb-true, ltb-false}
use lib.Dec.{ltb}
use lib.ListN.{length, get_or, take}
use lib.Seq.{get_or-take, length-take-le, ext_get_or}
use lib.IntN.{ℤ}
use Rattle.term_rules.specs.declared.Term.{Term}
use Rattle.term_rules.specs.Lent.{Store, record_in, record_at, symbol_at}
use Rattle.term_rules.specs.Nodes.{literal, variable, application, node_of, node_at}
use Rattle.term_rules.specs.Facts.{IsApplication, SoundRecord, a_literal, a_variable, an_application, Sound}
use Rattle.term_rules.proofs.TestLaws.{cases}
use Rattle.term_rules.proofs.SameLaws.{term-same}
use Rattle.term_rules.proofs.KindLaws.{by_kind-literal, by_kind-variable, by_kind-application}
use Rattle.term_rules.proofs.LayoutLaws.{children-length}

-- what a record says, by its kind
module _ (s : Store) (t : Term) where
  pub node_of-literal : t.kind ≡ 0 → node_of s t ≡ literal t.literal
  unfolding node_of
  node_of-literal e = by_kind-literal _ _ _ _ t.kind e

  pub node_of-variable : t.kind ≡ 1 → node_of s t ≡ variable (symbol_at s t.symbol)
  unfolding node_of
  node_of-variable e = by_kind-variable _ _ _ _ t.kind e

  pub node_of-application :
      t.kind ≡ 2 → node_of s t ≡ application (symbol_at s t.symbol) (take t.count t.children)
  unfolding node_of
  node_of-application e = by_kind-application _ _ _ _ t.kind e

pub literal-variable : {P : Type 0} {z : ℤ} {n : List ℕ} → literal z ≡ variable n → P
literal-variable e = let z : ◌≡◌ {A = ℕ} 0 1 = cc in absurd (omega arith)

pub literal-application : {P : Type 0} {z : ℤ} {n ks : List ℕ} → literal z ≡ application n ks → P
literal-application e = let z : ◌≡◌ {A = ℕ} 0 1 = cc in absurd (omega arith)

pub variable-application : {P : Type 0} {m n ks : List ℕ} → variable m ≡ application n ks → P
variable-application e = let z : ◌≡◌ {A = ℕ} 0 1 = cc in absurd (omega arith)

pub literal-same : {y z : ℤ} → literal y ≡ literal z → y ≡ z
literal-same e = cc

pub variable-same : {m n : List ℕ} → variable m ≡ variable n → m ≡ n
variable-same e = cc

pub name-same : {m n js ks : List ℕ} → application m js ≡ application n ks → m ≡ n
name-same e = cc

pub children-same : {m n js ks : List ℕ} → application m js ≡ application n ks → js ≡ ks
children-same e = cc

module _ (s : Store) (w : Sound s) where
  pub record-long : (i : ℕ) → i < s.terms → length (record_at s i).children ≡ 8
  unfolding record_in
  record-long i h = children-length s.records i (omega (arith, w.records_long))

  -- the children of an application are lower, and at most eight
  module _ (i : ℕ) (h : i < s.terms) (n ks : List ℕ) (e : node_at s i ≡ application n ks) where
    by-record :
        SoundRecord s.symbols i (record_at s i) →
        (length ks ≤ 8) × ((j : ℕ) → j < length ks → get_or ks j 0 < i)
    unfolding node_at
    by-record (a_literal f) = literal-application (sym (node_of-literal s (record_at s i) f.kind) ∙ e)
    by-record (a_variable f) = variable-application (sym (node_of-variable s (record_at s i) f.kind) ∙ e)
    by-record (an_application f) =
        let t = record_at s i in
        let q : take t.count t.children ≡ ks =
        children-same (sym (node_of-application s t f.kind) ∙ e) in
        let l : length (take t.count t.children) ≡ t.count =
        length-take-le t.count t.children (omega (arith, f.count, record-long i h)) in
        let m : length ks ≡ t.count = ap length (sym q) ∙ l in (
          omega (arith, f.count),
          λ j b.
              let a : j < t.count = omega arith in
              rw (← q) (rw (get_or-take t.count t.children j 0 a) (f.lower j a)),
        )

    pub node-few : length ks ≤ 8
    node-few = (by-record (w.term i h)).0

    pub node-lower : (j : ℕ) → j < length ks → get_or ks j 0 < i
    node-lower = (by-record (w.term i h)).1

  -- equal nodes are equal records
  module _ (i j : ℕ) (h : i < s.terms) (k : j < s.terms) where
    unused-same :
        (t u : Term) →
        length t.children ≡ 8 →
        length u.children ≡ 8 →
        ((a : ℕ) → get_or t.children a 0 ≡ 0) →
        ((a : ℕ) → get_or u.children a 0 ≡ 0) →
        t.children ≡ u.children
    unused-same t u a b p q =
        ext_get_or 0 t.children u.children (a ∙ sym b) (λ m l. p m ∙ sym (q m))

    children-all :
        (t u : Term) →
        length t.children ≡ 8 →
        length u.children ≡ 8 →
        IsApplication s.symbols i t →
        IsApplication s.symbols j u →
        take t.count t.children ≡ take u.count u.children →
        (t.count ≡ u.count) × (t.children ≡ u.children)
    children-all t u a b f g e =
        let p = length-take-le t.count t.children (omega (arith, f.count)) in
        let q = length-take-le u.count u.children (omega (arith, g.count)) in
        let d : t.count ≡ u.count = sym p ∙ ap length e ∙ q in (
          d,
          ext_get_or 0 t.children u.children (a ∙ sym b)
              (λ m l.
              cases (ltb m t.count)
              (λ y.
              let c = ltb-true m t.count y in
              sym (get_or-take t.count t.children m 0 c)
              ∙ ap (λ (x : List ℕ). get_or x m 0) e
              ∙ get_or-take u.count u.children m 0 (omega arith))
              (λ y.
              let c = ltb-false m t.count y in
              f.unused m c ∙ sym (g.unused m (omega arith)))),
        )

    records-same :
        (t u : Term) →
        length t.children ≡ 8 →
        length u.children ≡ 8 →
        node_of s t ≡ node_of s u →
        SoundRecord s.symbols i t →
        SoundRecord s.symbols j u →
        t ≡ u
    records-same t u a b e (a_literal f) (a_literal g) =
        term-same t u (f.kind ∙ sym g.kind) (f.symbol ∙ sym g.symbol) (f.count ∙ sym g.count)
        (literal-same (sym (node_of-literal s t f.kind) ∙ e ∙ node_of-literal s u g.kind))
        (unused-same t u a b f.unused g.unused)
    records-same t u a b e (a_literal f) (a_variable g) =
        literal-variable (sym (node_of-literal s t f.kind) ∙ e ∙ node_of-variable s u g.kind)
    records-same t u a b e (a_literal f) (an_application g) =
        literal-application (sym (node_of-literal s t f.kind) ∙ e ∙ node_of-application s u g.kind)
    records-same t u a b e (a_variable f) (a_literal g) =
        literal-variable (sym (node_of-literal s u g.kind) ∙ sym e ∙ node_of-variable s t f.kind)
    records-same t u a b e (a_variable f) (a_variable g) =
        term-same t u (f.kind ∙ sym g.kind)
        (w.name_once t.symbol u.symbol f.symbol g.symbol
        (variable-same (sym (node_of-variable s t f.kind) ∙ e ∙ node_of-variable s u g.kind)))
        (f.count ∙ sym g.count) (f.literal ∙ sym g.literal) (unused-same t u a b f.unused g.unused)
    records-same t u a b e (a_variable f) (an_application g) =
        variable-application (sym (node_of-variable s t f.kind) ∙ e ∙ node_of-application s u g.kind)
    records-same t u a b e (an_application f) (a_literal g) =
        literal-application (sym (node_of-literal s u g.kind) ∙ sym e ∙ node_of-application s t f.kind)
    records-same t u a b e (an_application f) (a_variable g) =
        variable-application (sym (node_of-variable s u g.kind) ∙ sym e ∙ node_of-application s t f.kind)
    records-same t u a b e (an_application f) (an_application g) =
        let d = sym (node_of-application s t f.kind) ∙ e ∙ node_of-application s u g.kind in
        let r = children-all t u a b f g (children-same d) in
        term-same t u (f.kind ∙ sym g.kind)
        (w.name_once t.symbol u.symbol f.symbol g.symbol (name-same d)) r.0
        (f.literal ∙ sym g.literal) r.1

    pub node-once : node_at s i ≡ node_at s j → i ≡ j
    unfolding node_at
    node-once e =
        w.term_once i j h k
        (records-same (record_at s i) (record_at s j) (record-long i h) (record-long j k) e (w.term i h) (w.term j k))
