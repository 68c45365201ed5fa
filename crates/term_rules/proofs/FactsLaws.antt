-- A store is well formed exactly when it has the published facts. Assumes nothing.
use Prim.Native.Nat.{ℕ, ◌+◌, ◌-◌, ◌≤◌, ◌<◌, min}
use mathlib.Core.Path.{◌≡◌, refl, sym, ap, ◌∙◌}
use mathlib.Core.Bool.{Bool, true, false, not}
use mathlib.Core.List.{List}
use native.Mathlib.Omega.{arith}
use borrow.Author.Tests.{eqb-true, eq-eqb, ltb-true, ltb-false, lt-ltb, leb-true, le-leb, not-true}
use lib.Dec.{eqb, ltb, leb}
use lib.ListN.{length, take, drop, length-take, length-drop}
use lib.Seq.{get_or-take, get_or-drop, length-take-le}
use lib.IntN.{pos}
use Rattle.name.specs.Name.{valid, same}
use Rattle.name.specs.Entries.{entries_length, entry_room, length_at, name_at, padding_at, byte_at}
use Rattle.name.proofs.PutLaws.{padding-get, padding-length}
use Rattle.term_rules.specs.declared.Term.{Term}
use Rattle.term_rules.specs.Lent.{
  Store,
  records_length,
  record_room,
  record_in,
  record_at,
  symbol_at,
  term_room,
  symbol_room,
}
use Rattle.term_rules.specs.WellFormed.{
  every,
  all_below,
  same_int,
  sound_name,
  sound_literal,
  sound_variable,
  sound_application,
  sound_record,
  same_term,
  new_name,
  new_term,
  well_formed,
}
use Rattle.term_rules.specs.Facts.{
  SoundName,
  IsLiteral,
  IsVariable,
  IsApplication,
  SoundRecord,
  a_literal,
  a_variable,
  an_application,
  Sound,
}
use Rattle.term_rules.proofs.TestLaws.{cases, no_both, and_first, and_second, and_both, every_get, every_of}
use Rattle.term_rules.proofs.SameLaws.{same-tells, same_int-tells, same_term-tells, tells-yes, tells-no}
use Rattle.term_rules.proofs.LayoutLaws.{children-length}
use Rattle.term_rules.proofs.KindLaws.{by_kind-literal, by_kind-variable, by_kind-application, by_kind-other}
use Rattle.term_rules.proofs.ListLaws.{all_zero-get, all_zero-of, all_below-get, all_below-of, get_d-take-past}

-- a name's entry: the name, and the zeros past it
module _ (ns : List ℕ) (k : ℕ) where
  pub sound_name-get : sound_name ns k ≡ true → SoundName ns k
  unfolding sound_name
  sound_name-get e =
      let n : ℕ = length_at ns k in
      let a = leb-true n 31 (and_first (leb n 31) _ e) in
      let e₁ = and_second (leb n 31) _ e in
      let v = and_first (valid (name_at ns k)) _ e₁ in
      let z = and_second (valid (name_at ns k)) _ e₁ in
      record {
        short = a;
        allowed = v;
        unused = λ j h l.
            let d : j ≡ length_at ns k + (j - length_at ns k) = omega arith in
            ap (byte_at ns k) d
            ∙ sym (padding-get ns k (j - length_at ns k) (omega arith))
            ∙ all_zero-get (padding_at ns k) z (j - length_at ns k);
      }

  pub sound_name-of : SoundName ns k → sound_name ns k ≡ true
  unfolding sound_name
  sound_name-of f =
      let n : ℕ = length_at ns k in
      and_both (leb n 31) _ (le-leb n 31 f.short)
      (and_both (valid (name_at ns k)) _ f.allowed
      (all_zero-of (padding_at ns k)
      (λ j h.
      let b : length_at ns k + j < 31 = omega (arith, padding-length ns k) in
      padding-get ns k j b ∙ f.unused (length_at ns k + j) (omega arith) b)))

module _ (symbols i : ℕ) (t : Term) where
  literal-get : t.kind ≡ 0 → sound_literal t ≡ true → SoundRecord symbols i t
  unfolding sound_literal
  literal-get k e =
      let e₁ = and_second (eqb t.symbol 0) _ e in
      a_literal
      (record {
        kind = k;
        symbol = eqb-true t.symbol 0 (and_first (eqb t.symbol 0) _ e);
        count = eqb-true t.count 0 (and_first (eqb t.count 0) _ e₁);
        unused = all_zero-get t.children (and_second (eqb t.count 0) _ e₁);
      })

  literal-of : IsLiteral t → sound_literal t ≡ true
  unfolding sound_literal
  literal-of f =
      and_both (eqb t.symbol 0) _ (eq-eqb t.symbol 0 f.symbol)
      (and_both (eqb t.count 0) _ (eq-eqb t.count 0 f.count) (all_zero-of t.children (λ j h. f.unused j)))

  variable-get : t.kind ≡ 1 → sound_variable symbols t ≡ true → SoundRecord symbols i t
  unfolding sound_variable
  variable-get k e =
      let e₁ = and_second (ltb t.symbol symbols) _ e in
      let e₂ = and_second (eqb t.count 0) _ e₁ in
      a_variable
      (record {
        kind = k;
        symbol = ltb-true t.symbol symbols (and_first (ltb t.symbol symbols) _ e);
        count = eqb-true t.count 0 (and_first (eqb t.count 0) _ e₁);
        literal = same_int-tells.eq t.literal (pos 0) (and_first (same_int t.literal (pos 0)) _ e₂);
        unused = all_zero-get t.children (and_second (same_int t.literal (pos 0)) _ e₂);
      })

  variable-of : IsVariable symbols t → sound_variable symbols t ≡ true
  unfolding sound_variable
  variable-of f =
      and_both (ltb t.symbol symbols) _ (lt-ltb t.symbol symbols f.symbol)
      (and_both (eqb t.count 0) _ (eq-eqb t.count 0 f.count)
      (and_both (same_int t.literal (pos 0)) _ (tells-yes same_int same_int-tells t.literal (pos 0) f.literal)
      (all_zero-of t.children (λ j h. f.unused j))))

  application-get : t.kind ≡ 2 → length t.children ≡ 8 → sound_application symbols i t ≡ true
      → SoundRecord symbols i t
  unfolding sound_application
  application-get k long e =
      let e₁ = and_second (ltb t.symbol symbols) _ e in
      let c = leb-true t.count 8 (and_first (leb t.count 8) _ e₁) in
      let e₂ = and_second (leb t.count 8) _ e₁ in
      let e₃ = and_second (same_int t.literal (pos 0)) _ e₂ in
      let below = and_first (all_below i (take t.count t.children)) _ e₃ in
      let zeros = and_second (all_below i (take t.count t.children)) _ e₃ in
      an_application
      (record {
        kind = k;
        symbol = ltb-true t.symbol symbols (and_first (ltb t.symbol symbols) _ e);
        count = c;
        literal = same_int-tells.eq t.literal (pos 0) (and_first (same_int t.literal (pos 0)) _ e₂);
        lower = λ j h.
            rw (get_or-take t.count t.children j 0 h) at
            (all_below-get i (take t.count t.children) below j
            (omega (arith, length-take-le t.count t.children (omega arith))));
        unused = λ j h.
            let d : j ≡ t.count + (j - t.count) = omega arith in
            rw d (sym (get_or-drop t.count t.children (j - t.count) 0) ∙ all_zero-get
            (drop t.count t.children) zeros (j - t.count));
      })

  application-of : IsApplication symbols i t → length t.children ≡ 8 → sound_application symbols i t ≡ true
  unfolding sound_application
  application-of f long =
      let n : ℕ = t.count in
      let l : List ℕ = t.children in
      and_both (ltb t.symbol symbols) _ (lt-ltb t.symbol symbols f.symbol)
      (and_both (leb n 8) _ (le-leb n 8 f.count)
      (and_both (same_int t.literal (pos 0)) _ (tells-yes same_int same_int-tells t.literal (pos 0) f.literal)
      (and_both (all_below i (take n l)) _
      (all_below-of i (take n l)
      (λ j h.
      let b : j < n = omega (arith, length-take n l) in
      rw (get_or-take n l j 0 b) (f.lower j b)))
      (all_zero-of (drop n l) (λ j h. get_or-drop n l j 0 ∙ f.unused (n + j) (omega arith))))))

  pub sound_record-get : length t.children ≡ 8 → sound_record symbols i t ≡ true → SoundRecord symbols i t
  unfolding sound_record
  sound_record-get long e =
      let l = sound_literal t in
      let v = sound_variable symbols t in
      let a = sound_application symbols i t in
      cases (eqb t.kind 0)
      (λ p. let q = eqb-true t.kind 0 p in literal-get q (sym (by_kind-literal l v a false t.kind q) ∙ e))
      (λ p.
      cases (eqb t.kind 1)
      (λ p₁. let q = eqb-true t.kind 1 p₁ in variable-get q (sym (by_kind-variable l v a false t.kind q) ∙ e))
      (λ p₁.
      cases (eqb t.kind 2)
      (λ p₂.
      let q = eqb-true t.kind 2 p₂ in
      application-get q long (sym (by_kind-application l v a false t.kind q) ∙ e))
      (λ p₂. no_both false (sym (by_kind-other l v a false t.kind p p₁ p₂) ∙ e) refl)))

  pub sound_record-of : length t.children ≡ 8 → SoundRecord symbols i t → sound_record symbols i t ≡ true
  unfolding sound_record
  sound_record-of long (a_literal f) = by_kind-literal _ _ _ _ t.kind f.kind ∙ literal-of f
  sound_record-of long (a_variable f) = by_kind-variable _ _ _ _ t.kind f.kind ∙ variable-of f
  sound_record-of long (an_application f) = by_kind-application _ _ _ _ t.kind f.kind ∙ application-of f long

module _ (s : Store) where
  -- the counts are within limits and lent lengths
  term_room-get : leb s.terms (term_room s) ≡ true
      → (s.terms ≤ 1024) × (records_length s.terms ≤ length s.records) × (s.terms ≤ length s.literals)
  unfolding term_room
  term_room-get e =
      let h = leb-true s.terms (min 1024 (min (record_room (length s.records)) (length s.literals))) e in
      (omega arith, omega arith, omega arith)

  term_room-of : s.terms ≤ 1024 → records_length s.terms ≤ length s.records → s.terms ≤ length s.literals
      → leb s.terms (term_room s) ≡ true
  unfolding term_room
  term_room-of a b c =
      le-leb s.terms (min 1024 (min (record_room (length s.records)) (length s.literals))) (omega arith)

  symbol_room-get : leb s.symbols (symbol_room s) ≡ true → (s.symbols ≤ 128) × (entries_length s.symbols ≤ length s.names)
  unfolding symbol_room
  symbol_room-get e = let h = leb-true s.symbols (min 128 (entry_room (length s.names))) e in (omega arith, omega arith)

  symbol_room-of : s.symbols ≤ 128 → entries_length s.symbols ≤ length s.names → leb s.symbols (symbol_room s) ≡ true
  unfolding symbol_room
  symbol_room-of a b = le-leb s.symbols (min 128 (entry_room (length s.names))) (omega arith)

  -- a test for the newness of each is one for the distinctness of all
  new_name-get : every s.symbols (new_name s) ≡ true → (j k : ℕ) → j < k → k < s.symbols
      → symbol_at s j ≡ symbol_at s k → ⊥
  unfolding new_name
  new_name-get e j k h l q =
      let f = every_get (new_name s) s.symbols e k l in
      let g = every_get (λ (j : ℕ). not (same (symbol_at s j) (symbol_at s k))) k f j h in
      no_both (same (symbol_at s j) (symbol_at s k)) (tells-yes same same-tells (symbol_at s j) (symbol_at s k) q)
      (not-true (same (symbol_at s j) (symbol_at s k)) g)

  new_term-get : every s.terms (new_term s) ≡ true → (j i : ℕ) → j < i → i < s.terms → record_at s j ≡ record_at s i
      → ⊥
  unfolding new_term
  new_term-get e j i h l q =
      let f = every_get (new_term s) s.terms e i l in
      let g = every_get (λ (j : ℕ). not (same_term (record_at s j) (record_at s i))) i f j h in
      no_both (same_term (record_at s j) (record_at s i))
      (tells-yes same_term same_term-tells (record_at s j) (record_at s i) q)
      (not-true (same_term (record_at s j) (record_at s i)) g)

  new_name-of : ((j k : ℕ) → j < s.symbols → k < s.symbols → symbol_at s j ≡ symbol_at s k → j ≡ k)
      → every s.symbols (new_name s) ≡ true
  unfolding new_name
  new_name-of f =
      every_of (new_name s) s.symbols
      (λ k l.
      every_of (λ (j : ℕ). not (same (symbol_at s j) (symbol_at s k))) k
      (λ j h.
      rw
      (tells-no same same-tells (symbol_at s j) (symbol_at s k) (λ q. let z = f j k (omega arith) l q in omega arith))))

  new_term-of : ((i j : ℕ) → i < s.terms → j < s.terms → record_at s i ≡ record_at s j → i ≡ j)
      → every s.terms (new_term s) ≡ true
  unfolding new_term
  new_term-of f =
      every_of (new_term s) s.terms
      (λ i l.
      every_of (λ (j : ℕ). not (same_term (record_at s j) (record_at s i))) i
      (λ j h.
      rw
      (tells-no same_term same_term-tells (record_at s j) (record_at s i)
      (λ q. let z = f j i (omega arith) l q in omega arith))))

-- what holds of no two in order makes numbers equal
once : (P : ℕ → ℕ → Type 0) (n : ℕ) → ((a b : ℕ) → P a b → P b a) → ((a b : ℕ) → a < b → b < n → P a b → ⊥) → (a b : ℕ)
    → a < n → b < n → P a b → a ≡ b
once P n turn f a b h k p =
    cases (ltb a b) (λ l. absurd (f a b (ltb-true a b l) k p))
    (λ l.
    cases (ltb b a) (λ m. absurd (f b a (ltb-true b a m) h (turn a b p)))
    (λ m. omega (arith, ltb-false a b l, ltb-false b a m)))

module _ (s : Store) where
  pub sound-of-well_formed : well_formed s ≡ true → Sound s
  unfolding well_formed record_in
  sound-of-well_formed e =
      let room = leb s.terms (term_room s) in
      let a = term_room-get s (and_first room _ e) in
      let e₁ = and_second room _ e in
      let b = symbol_room-get s (and_first (leb s.symbols (symbol_room s)) _ e₁) in
      let e₂ = and_second (leb s.symbols (symbol_room s)) _ e₁ in
      let c = and_first (every s.symbols (sound_name s.names)) _ e₂ in
      let e₃ = and_second (every s.symbols (sound_name s.names)) _ e₂ in
      let d = and_first (every s.symbols (new_name s)) _ e₃ in
      let e₄ = and_second (every s.symbols (new_name s)) _ e₃ in
      let p : ℕ → Bool = λ i. sound_record s.symbols i (record_at s i) in
      let f = and_first (every s.terms p) _ e₄ in
      let g = and_second (every s.terms p) _ e₄ in
      record {
        term_limit = a.0;
        records_long = a.1;
        literals_long = a.2;
        symbol_limit = b.0;
        names_long = b.1;
        name = λ k h. sound_name-get s.names k (every_get (sound_name s.names) s.symbols c k h);
        name_once = once (λ j k. symbol_at s j ≡ symbol_at s k) s.symbols (λ j k q. sym q) (new_name-get s d);
        term = λ i h.
            sound_record-get s.symbols i (record_at s i) (children-length s.records i (omega arith))
            (every_get p s.terms f i h);
        term_once = once (λ j k. record_at s j ≡ record_at s k) s.terms (λ j k q. sym q) (new_term-get s g);
      }

  pub well_formed-of-sound : Sound s → well_formed s ≡ true
  unfolding well_formed record_in
  well_formed-of-sound f =
      let p : ℕ → Bool = λ i. sound_record s.symbols i (record_at s i) in
      and_both (leb s.terms (term_room s)) _ (term_room-of s f.term_limit f.records_long f.literals_long)
      (and_both (leb s.symbols (symbol_room s)) _ (symbol_room-of s f.symbol_limit f.names_long)
      (and_both (every s.symbols (sound_name s.names)) _
      (every_of (sound_name s.names) s.symbols (λ k h. sound_name-of s.names k (f.name k h)))
      (and_both (every s.symbols (new_name s)) _ (new_name-of s f.name_once)
      (and_both (every s.terms p) _
      (every_of p s.terms
      (λ i h.
      let r = f.records_long in
      sound_record-of s.symbols i (record_at s i) (children-length s.records i (omega arith)) (f.term i h)))
      (new_term-of s f.term_once)))))
