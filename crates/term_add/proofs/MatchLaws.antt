-- A search for a record of the right parts is a search for the term. Assumes nothing.
use Prim.Native.Nat.{ℕ, ◌≤◌, ◌<◌}
use mathlib.Core.Path.{◌≡◌, refl, ap, sym, ◌∙◌}
use mathlib.Core.Bool.{Bool, true, false, ◌&&◌}
use mathlib.Core.List.{List, []}
use native.Mathlib.Omega.{arith}
use borrow.Author.Tests.{eq-eqb, ne_eqb, eqb-true}
use lib.Dec.{eqb}
use lib.ListN.{length, get_or, take}
use lib.Seq.{length-take-le}
use lib.IntN.{ℤ, pos}
use Rattle.std.specs.Prelude.{Some, None}
use Rattle.name.specs.Name.{same}
use Rattle.name.specs.Entries.{Entries, name_at}
use Rattle.term_rules.specs.declared.Term.{Term}
use Rattle.term_rules.specs.Lent.{Store, kind_at, symbol_no, arity_at, kids_at, record_in, record_at, symbol_at}
use Rattle.term_rules.specs.WellFormed.{same_int}
use Rattle.term_rules.specs.Nodes.{literal, variable, application, node_of, node_at, same_node}
use Rattle.term_rules.specs.Adding.{first_from, find_term, find_symbol}
use Rattle.term_rules.specs.Facts.{
  IsLiteral,
  IsVariable,
  IsApplication,
  SoundRecord,
  a_literal,
  a_variable,
  an_application,
  Sound,
}
use Rattle.term_rules.proofs.TestLaws.{same_test, and_first, and_second, and_both}
use Rattle.term_rules.proofs.SameLaws.{same-tells, same_int-tells, tells-yes, tells-no}
use Rattle.term_rules.proofs.KindLaws.{by_kind-literal, by_kind-variable, by_kind-application}
use Rattle.term_rules.proofs.LayoutLaws.{children-length}
use Rattle.term_rules.proofs.SearchLaws.{first-at, first-missing, first-same, first-none, find_name-first}
use Rattle.term_add.specs.Interning.{has, has_at}

-- what a record says, by its kind
module _ (s : Store) (t : Term) where
  pub node_of-literal : t.kind ≡ 0 → node_of s t ≡ literal t.literal
  unfolding node_of
  node_of-literal e = by_kind-literal _ _ _ _ t.kind e

  pub node_of-variable : t.kind ≡ 1 → node_of s t ≡ variable (symbol_at s t.symbol)
  unfolding node_of
  node_of-variable e = by_kind-variable _ _ _ _ t.kind e

  pub node_of-application : t.kind ≡ 2
      → node_of s t ≡ application (symbol_at s t.symbol) (take t.count t.children)
  unfolding node_of
  node_of-application e = by_kind-application _ _ _ _ t.kind e

and-true : (b : Bool) → (b && true) ≡ b
and-true true = refl
and-true false = refl

-- a record of another kind does not match
has-kind : (t : Term) (kind symbol : ℕ) (z : ℤ) (ks : List ℕ) → (t.kind ≡ kind → ⊥) → has t kind symbol z ks ≡ false
unfolding has
has-kind t kind symbol z ks n = rw (ne_eqb t.kind kind n)

-- of a record with its kind, its symbol and its children decide
has-literal : (t : Term) (z : ℤ) → IsLiteral t → has t 0 0 z [] ≡ same_int t.literal z
unfolding has same
has-literal t z f = rw (f.kind, f.symbol, f.count) (and-true (same_int t.literal z))

has-variable : (m : ℕ) (t : Term) (k : ℕ) → IsVariable m t → has t 1 k (pos 0) [] ≡ eqb t.symbol k
unfolding has same
has-variable m t k f =
    rw (f.kind, f.count, tells-yes same_int same_int-tells t.literal (pos 0) f.literal)
    (and-true (eqb t.symbol k))

-- the children are compared with their count
children-test :
    (c : ℕ) (l ks : List ℕ) →
    c ≤ length l →
    (eqb c (length ks) && same (take (length ks) l) ks) ≡ same (take c l) ks
children-test c l ks h =
    same_test (eqb c (length ks) && same (take (length ks) l) ks) (same (take c l) ks)
    (λ e.
    let d : c ≡ length ks = eqb-true c (length ks) (and_first (eqb c (length ks)) _ e) in
    rw d (and_second (eqb c (length ks)) _ e))
    (λ e.
    let q : take c l ≡ ks = same-tells.eq (take c l) ks e in
    let d : c ≡ length ks = sym (length-take-le c l h) ∙ ap length q in
    and_both (eqb c (length ks)) _ (eq-eqb c (length ks) d) (rw d at e))

has-application :
    (m i : ℕ) (t : Term) (k : ℕ) (ks : List ℕ) →
    IsApplication m i t →
    length t.children ≡ 8 →
    has t 2 k (pos 0) ks ≡ (eqb t.symbol k && same (take t.count t.children) ks)
unfolding has
has-application m i t k ks f long =
    rw (
      f.kind,
      tells-yes same_int same_int-tells t.literal (pos 0) f.literal,
      children-test t.count t.children ks (omega (arith, f.count)),
    )

module _ (s : Store) (w : Sound s) where
  -- a symbol number is the name's exactly when it names it
  symbol-test :
      (name : List ℕ) (k a : ℕ) → find_symbol s name ≡ Some k → a < s.symbols → eqb a k ≡ same (symbol_at s a) name
  symbol-test name k a e h =
      let r =
      first-at (λ (j : ℕ). same (name_at s.names j) name) s.symbols 0 k
      (sym (find_name-first s.names name s.symbols) ∙ e) in
      let n : symbol_at s k ≡ name = same-tells.eq (symbol_at s k) name r.2 in
      same_test (eqb a k) (same (symbol_at s a) name)
      (λ d. let q : a ≡ k = eqb-true a k d in rw q r.2)
      (λ d. eq-eqb a k (w.name_once a k h (omega (arith, r.1)) (same-tells.eq (symbol_at s a) name d ∙ sym n)))

  no_symbol : (name : List ℕ) (a : ℕ) → find_symbol s name ≡ None → a < s.symbols → same (symbol_at s a) name ≡ false
  no_symbol name a e h =
      first-missing (λ (j : ℕ). same (name_at s.names j) name) s.symbols 0
      (sym (find_name-first s.names name s.symbols) ∙ e) a (omega arith) (omega arith)

  module _ (i : ℕ) (t : Term) (long : length t.children ≡ 8) where
    literal-match : (z : ℤ) → SoundRecord s.symbols i t → has t 0 0 z [] ≡ same_node (node_of s t) (literal z)
    unfolding same_node
    literal-match z (a_literal f) = has-literal t z f ∙ sym (rw (node_of-literal s t f.kind))
    literal-match z (a_variable f) =
        has-kind t 0 0 z [] (λ e. omega (arith, f.kind)) ∙ sym (rw (node_of-variable s t f.kind))
    literal-match z (an_application f) =
        has-kind t 0 0 z [] (λ e. omega (arith, f.kind)) ∙ sym (rw (node_of-application s t f.kind))

    module _ (name : List ℕ) where
      variable-match :
          (k : ℕ) → find_symbol s name ≡ Some k → SoundRecord s.symbols i t
          → has t 1 k (pos 0) [] ≡ same_node (node_of s t) (variable name)
      unfolding same_node
      variable-match k e (a_literal f) =
          has-kind t 1 k (pos 0) [] (λ d. omega (arith, f.kind)) ∙ sym (rw (node_of-literal s t f.kind))
      variable-match k e (a_variable f) =
          has-variable s.symbols t k f
          ∙ symbol-test name k t.symbol e f.symbol
          ∙ sym (rw (node_of-variable s t f.kind))
      variable-match k e (an_application f) =
          has-kind t 1 k (pos 0) [] (λ d. omega (arith, f.kind)) ∙ sym (rw (node_of-application s t f.kind))

      variable-none : find_symbol s name ≡ None → SoundRecord s.symbols i t
          → same_node (node_of s t) (variable name) ≡ false
      unfolding same_node
      variable-none e (a_literal f) = rw (node_of-literal s t f.kind)
      variable-none e (a_variable f) = rw (node_of-variable s t f.kind) (no_symbol name t.symbol e f.symbol)
      variable-none e (an_application f) = rw (node_of-application s t f.kind)

      module _ (ks : List ℕ) where
        application-match :
            (k : ℕ) →
            find_symbol s name ≡ Some k →
            SoundRecord s.symbols i t →
            has t 2 k (pos 0) ks ≡ same_node (node_of s t) (application name ks)
        unfolding same_node
        application-match k e (a_literal f) =
            has-kind t 2 k (pos 0) ks (λ d. omega (arith, f.kind)) ∙ sym (rw (node_of-literal s t f.kind))
        application-match k e (a_variable f) =
            has-kind t 2 k (pos 0) ks (λ d. omega (arith, f.kind)) ∙ sym (rw (node_of-variable s t f.kind))
        application-match k e (an_application f) =
            has-application s.symbols i t k ks f long
            ∙ ap (λ (b : Bool). b && same (take t.count t.children) ks)
            (symbol-test name k t.symbol e f.symbol)
            ∙ sym (rw (node_of-application s t f.kind))

        application-none :
            find_symbol s name ≡ None → SoundRecord s.symbols i t
            → same_node (node_of s t) (application name ks) ≡ false
        unfolding same_node
        application-none e (a_literal f) = rw (node_of-literal s t f.kind)
        application-none e (a_variable f) = rw (node_of-variable s t f.kind)
        application-none e (an_application f) =
            rw (node_of-application s t f.kind, no_symbol name t.symbol e f.symbol)

-- the steps of a record's test
module _ (rs : List ℕ) (ls : List ℤ) (i kind symbol : ℕ) (z : ℤ) (ks : List ℕ) where
  pub kind-refuses : (kind_at rs i ≡ kind → ⊥) → has_at rs ls kind symbol z ks i ≡ false
  unfolding has record_in
  kind-refuses n = rw (ne_eqb (kind_at rs i) kind n)

  module _ (a : kind_at rs i ≡ kind) where
    pub symbol-refuses : (symbol_no rs i ≡ symbol → ⊥) → has_at rs ls kind symbol z ks i ≡ false
    unfolding has record_in
    symbol-refuses n = rw (eq-eqb (kind_at rs i) kind a, ne_eqb (symbol_no rs i) symbol n)

    module _ (b : symbol_no rs i ≡ symbol) where
      pub count-refuses : (arity_at rs i ≡ length ks → ⊥) → has_at rs ls kind symbol z ks i ≡ false
      unfolding has record_in
      count-refuses n =
          rw (
            eq-eqb (kind_at rs i) kind a,
            eq-eqb (symbol_no rs i) symbol b,
            ne_eqb (arity_at rs i) (length ks) n,
          )

      module _ (c : arity_at rs i ≡ length ks) where
        pub literal-refuses : (get_or ls i (pos 0) ≡ z → ⊥) → has_at rs ls kind symbol z ks i ≡ false
        unfolding has record_in
        literal-refuses n =
            rw (
              eq-eqb (kind_at rs i) kind a,
              eq-eqb (symbol_no rs i) symbol b,
              eq-eqb (arity_at rs i) (length ks) c,
              tells-no same_int same_int-tells (get_or ls i (pos 0)) z n,
            )

        pub children-rest :
            get_or ls i (pos 0) ≡ z →
            same (kids_at rs i) ks ≡ has_at rs ls kind symbol z ks i
        unfolding has record_in
        children-rest d =
            rw (
              c,
              eq-eqb (kind_at rs i) kind a,
              eq-eqb (symbol_no rs i) symbol b,
              eq-eqb (length ks) (length ks) refl,
              tells-yes same_int same_int-tells (get_or ls i (pos 0)) z d,
            )

-- the search for a record is the search for the term
module _ (s : Store) (w : Sound s) where
  record-long : (i : ℕ) → i < s.terms → length (record_at s i).children ≡ 8
  unfolding record_in
  record-long i h = children-length s.records i (omega (arith, w.records_long))

  pub find_term-literal : (z : ℤ)
      → first_from (has_at s.records s.literals 0 0 z []) 0 s.terms ≡ find_term s (literal z)
  unfolding find_term node_at
  find_term-literal z =
      first-same (has_at s.records s.literals 0 0 z [])
      (λ (i : ℕ). same_node (node_of s (record_at s i)) (literal z))
      s.terms 0
      (λ i h l.
      let b : i < s.terms = omega arith in
      literal-match s w i (record_at s i) (record-long i b) z (w.term i b))

  module _ (name : List ℕ) where
    pub find_term-variable :
        (k : ℕ) →
        find_symbol s name ≡ Some k →
        first_from (has_at s.records s.literals 1 k (pos 0) []) 0 s.terms ≡ find_term s (variable name)
    unfolding find_term node_at
    find_term-variable k e =
        first-same (has_at s.records s.literals 1 k (pos 0) [])
        (λ (i : ℕ). same_node (node_of s (record_at s i)) (variable name)) s.terms 0
        (λ i h l.
        let b : i < s.terms = omega arith in
        variable-match s w i (record_at s i) (record-long i b) name k e (w.term i b))

    pub find_term-variable-none : find_symbol s name ≡ None → None ≡ find_term s (variable name)
    unfolding find_term node_at
    find_term-variable-none e =
        sym
        (first-none (λ (i : ℕ). same_node (node_of s (record_at s i)) (variable name)) s.terms 0
        (λ i h l.
        let b : i < s.terms = omega arith in
        variable-none s w i (record_at s i) (record-long i b) name e (w.term i b)))

    module _ (ks : List ℕ) where
      pub find_term-application :
          (k : ℕ) →
          find_symbol s name ≡ Some k →
          first_from (has_at s.records s.literals 2 k (pos 0) ks) 0 s.terms ≡ find_term s (application name ks)
      unfolding find_term node_at
      find_term-application k e =
          first-same (has_at s.records s.literals 2 k (pos 0) ks)
          (λ (i : ℕ). same_node (node_of s (record_at s i)) (application name ks)) s.terms 0
          (λ i h l.
          let b : i < s.terms = omega arith in
          application-match s w i (record_at s i) (record-long i b) name ks k e (w.term i b))

      pub find_term-application-none : find_symbol s name ≡ None → None ≡ find_term s (application name ks)
      unfolding find_term node_at
      find_term-application-none e =
          sym
          (first-none (λ (i : ℕ). same_node (node_of s (record_at s i)) (application name ks)) s.terms 0
          (λ i h l.
          let b : i < s.terms = omega arith in
          application-none s w i (record_at s i) (record-long i b) name ks e (w.term i b)))

-- the names of a sound store can be searched
pub entries-sound : (s : Store) → Sound s → Entries s.names s.symbols
entries-sound s w = record { long = w.names_long; short = λ k h. (w.name k h).short }
