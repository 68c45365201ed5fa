-- What each test of a record or of a name's entry decides. Assumes nothing.
use Prim.Native.Nat.{ℕ, ◌≤◌, ◌<◌, min}
use mathlib.Core.Path.{◌≡◌, refl, sym, ◌∙◌}
use mathlib.Core.Bool.{Bool, true, false, ◌&&◌, not}
use mathlib.Core.List.{List}
use native.Mathlib.Omega.{arith}
use borrow.Author.Tests.{eq-eqb, ne_eqb, lt-ltb, le-ltb, le-leb, lt-leb, leb-true}
use lib.Dec.{leb}
use lib.ListN.{length, get_or, drop}
use lib.IntN.{ℤ, pos}
use Rattle.std.specs.Option.{is_some}
use Rattle.std.specs.Prelude.{Option, Some, None}
use Rattle.name.specs.Name.{valid, same}
use Rattle.name.specs.Entries.{entries_length, entry_room, length_at, name_at, padding_at, find_name, Entries}
use Rattle.term_rules.specs.Lent.{
  store,
  records_length,
  record_room,
  kind_at,
  symbol_no,
  arity_at,
  places_at,
  kids_at,
  record_in,
  term_room,
  symbol_room,
}
use Rattle.term_rules.specs.WellFormed.{
  every,
  all_zero,
  all_below,
  same_int,
  sound_name,
  sound_literal,
  sound_variable,
  sound_application,
  sound_record,
  same_term,
  new_name,
  new_term,
  well_formed,
}
use Rattle.term_rules.proofs.TestLaws.{and_first, and_second, every_get, every_of, every-fails, every-same, no_both}
use Rattle.term_rules.proofs.SearchLaws.{first-at, first-missing, find_name-first}
use Rattle.term_rules.proofs.FactsLaws.{sound_name-get}
use Rattle.term_rules.proofs.SameLaws.{same_int-tells, tells-yes, tells-no}
use Rattle.term_rules.proofs.KindLaws.{by_kind-literal, by_kind-variable, by_kind-application, by_kind-other}
use Rattle.term_record.specs.Flat.{within, fresh_name, fresh_record, sound_record_at}

-- a name's entry
module _ (ns : List ℕ) (k : ℕ) where
  pub name-long-refuses : 31 < length_at ns k → sound_name ns k ≡ false
  unfolding sound_name
  name-long-refuses h = rw (lt-leb (length_at ns k) 31 h)

  module _ (h : length_at ns k ≤ 31) where
    pub name-bad-refuses : valid (name_at ns k) ≡ false → sound_name ns k ≡ false
    unfolding sound_name
    name-bad-refuses e = rw (le-leb (length_at ns k) 31 h, e)

    pub name-rest : valid (name_at ns k) ≡ true → all_zero (padding_at ns k) ≡ sound_name ns k
    unfolding sound_name
    name-rest e = rw (le-leb (length_at ns k) 31 h, e)

-- a record
module _ (rs : List ℕ) (ls : List ℤ) (i : ℕ) where
  module _ (m : ℕ) where
    pub variable-symbol-refuses : m ≤ symbol_no rs i → sound_variable m (record_in rs ls i) ≡ false
    unfolding sound_variable record_in
    variable-symbol-refuses h = rw (le-ltb (symbol_no rs i) m h)

    pub application-symbol-refuses : m ≤ symbol_no rs i → sound_application m i (record_in rs ls i) ≡ false
    unfolding sound_application record_in
    application-symbol-refuses h = rw (le-ltb (symbol_no rs i) m h)

    module _ (a : symbol_no rs i < m) where
      pub variable-count-refuses : (arity_at rs i ≡ 0 → ⊥) → sound_variable m (record_in rs ls i) ≡ false
      unfolding sound_variable record_in
      variable-count-refuses n = rw (lt-ltb (symbol_no rs i) m a, ne_eqb (arity_at rs i) 0 n)

      pub variable-literal-refuses :
          arity_at rs i ≡ 0 →
          (get_or ls i (pos 0) ≡ pos 0 → ⊥) →
          sound_variable m (record_in rs ls i) ≡ false
      unfolding sound_variable record_in
      variable-literal-refuses b n =
          rw (lt-ltb (symbol_no rs i) m a, b, tells-no same_int same_int-tells (get_or ls i (pos 0)) (pos 0) n)

      pub variable-rest :
          arity_at rs i ≡ 0 →
          get_or ls i (pos 0) ≡ pos 0 →
          all_zero (places_at rs i) ≡ sound_variable m (record_in rs ls i)
      unfolding sound_variable record_in
      variable-rest b c =
          rw (
            lt-ltb (symbol_no rs i) m a,
            b,
            tells-yes same_int same_int-tells (get_or ls i (pos 0)) (pos 0) c,
          )

      pub application-count-refuses : 8 < arity_at rs i → sound_application m i (record_in rs ls i) ≡ false
      unfolding sound_application record_in
      application-count-refuses h =
          rw (lt-ltb (symbol_no rs i) m a, lt-leb (arity_at rs i) 8 h)

      module _ (b : arity_at rs i ≤ 8) where
        pub application-literal-refuses :
            (get_or ls i (pos 0) ≡ pos 0 → ⊥) → sound_application m i (record_in rs ls i) ≡ false
        unfolding sound_application record_in
        application-literal-refuses n =
            rw (
              lt-ltb (symbol_no rs i) m a,
              le-leb (arity_at rs i) 8 b,
              tells-no same_int same_int-tells (get_or ls i (pos 0)) (pos 0) n,
            )

        module _ (c : get_or ls i (pos 0) ≡ pos 0) where
          pub application-child-refuses :
              all_below i (kids_at rs i) ≡ false →
              sound_application m i (record_in rs ls i) ≡ false
          unfolding sound_application record_in
          application-child-refuses e =
              rw (
                lt-ltb (symbol_no rs i) m a,
                le-leb (arity_at rs i) 8 b,
                tells-yes same_int same_int-tells (get_or ls i (pos 0)) (pos 0) c,
                e,
              )

          pub application-rest :
              all_below i (kids_at rs i) ≡ true →
              all_zero (drop (arity_at rs i) (places_at rs i))
              ≡ sound_application m i (record_in rs ls i)
          unfolding sound_application record_in
          application-rest e =
              rw (
                lt-ltb (symbol_no rs i) m a,
                le-leb (arity_at rs i) 8 b,
                tells-yes same_int same_int-tells (get_or ls i (pos 0)) (pos 0) c,
                e,
              )

    -- by its kind
    pub record-literal : kind_at rs i ≡ 0 → sound_literal (record_in rs ls i) ≡ sound_record_at rs ls m i
    unfolding sound_record record_in
    record-literal e = sym (by_kind-literal _ _ _ _ (kind_at rs i) e)

    pub record-variable : kind_at rs i ≡ 1 → sound_variable m (record_in rs ls i) ≡ sound_record_at rs ls m i
    unfolding sound_record record_in
    record-variable e = sym (by_kind-variable _ _ _ _ (kind_at rs i) e)

    pub record-application : kind_at rs i ≡ 2 → sound_application m i (record_in rs ls i) ≡ sound_record_at rs ls m i
    unfolding sound_record record_in
    record-application e = sym (by_kind-application _ _ _ _ (kind_at rs i) e)

    pub record-other-refuses :
        (kind_at rs i ≡ 0 → ⊥) →
        (kind_at rs i ≡ 1 → ⊥) →
        (kind_at rs i ≡ 2 → ⊥) →
        sound_record_at rs ls m i ≡ false
    unfolding sound_record record_in
    record-other-refuses a b c =
        by_kind-other _ _ _ _ (kind_at rs i) (ne_eqb _ 0 a) (ne_eqb _ 1 b) (ne_eqb _ 2 c)

-- two records
module _ (rs : List ℕ) (ls : List ℤ) (j i : ℕ) where
  pub same-kind-refuses :
      (kind_at rs j ≡ kind_at rs i → ⊥) → same_term (record_in rs ls j) (record_in rs ls i) ≡ false
  unfolding same_term record_in
  same-kind-refuses n = rw (ne_eqb (kind_at rs j) (kind_at rs i) n)

  module _ (a : kind_at rs j ≡ kind_at rs i) where
    pub same-symbol-refuses :
        (symbol_no rs j ≡ symbol_no rs i → ⊥) → same_term (record_in rs ls j) (record_in rs ls i) ≡ false
    unfolding same_term record_in
    same-symbol-refuses n = rw (eq-eqb _ _ a, ne_eqb (symbol_no rs j) (symbol_no rs i) n)

    module _ (b : symbol_no rs j ≡ symbol_no rs i) where
      pub same-count-refuses :
          (arity_at rs j ≡ arity_at rs i → ⊥) →
          same_term (record_in rs ls j) (record_in rs ls i) ≡ false
      unfolding same_term record_in
      same-count-refuses n =
          rw (eq-eqb _ _ a, eq-eqb _ _ b, ne_eqb (arity_at rs j) (arity_at rs i) n)

      module _ (c : arity_at rs j ≡ arity_at rs i) where
        pub same-literal-refuses :
            (get_or ls j (pos 0) ≡ get_or ls i (pos 0) → ⊥) → same_term (record_in rs ls j) (record_in rs ls i) ≡ false
        unfolding same_term record_in
        same-literal-refuses n =
            rw (
              eq-eqb _ _ a,
              eq-eqb _ _ b,
              eq-eqb _ _ c,
              tells-no same_int same_int-tells (get_or ls j (pos 0)) (get_or ls i (pos 0)) n,
            )

        pub same_rest :
            get_or ls j (pos 0) ≡ get_or ls i (pos 0) →
            same (places_at rs j)
            (places_at rs i)
            ≡ same_term (record_in rs ls j) (record_in rs ls i)
        unfolding same_term record_in
        same_rest d =
            rw (
              eq-eqb _ _ a,
              eq-eqb _ _ b,
              eq-eqb _ _ c,
              tells-yes same_int same_int-tells (get_or ls j (pos 0)) (get_or ls i (pos 0)) d,
            )

-- names and records that are new
module _ (ns : List ℕ) (k : ℕ) where
  pub name_new : find_name ns k (name_at ns k) ≡ None → fresh_name ns k ≡ true
  unfolding fresh_name
  name_new e =
      let p : ℕ → Bool = λ j. same (name_at ns j) (name_at ns k) in
      every_of (λ (j : ℕ). not (p j)) k
      (λ j h. rw (first-missing p k 0 (sym (find_name-first ns (name_at ns k) k) ∙ e) j (omega arith) (omega arith)))

  pub name-old : (j : ℕ) → find_name ns k (name_at ns k) ≡ Some j → fresh_name ns k ≡ false
  unfolding fresh_name
  name-old j e =
      let p : ℕ → Bool = λ j. same (name_at ns j) (name_at ns k) in
      let r = first-at p k 0 j (sym (find_name-first ns (name_at ns k) k) ∙ e) in
      every-fails (λ (j : ℕ). not (p j)) k j (omega (arith, r.1)) (rw r.2)

  -- whether a search found none
  pub name_none :
      (f : Option ℕ) (b : Bool) → find_name ns k (name_at ns k) ≡ f → is_some f ≡ not b → b ≡ fresh_name ns k
  name_none None true e h = sym (name_new e)
  name_none (Some j) false e h = sym (name-old j e)
  name_none None false e h = absurd (no_both true refl (sym h))
  name_none (Some j) true e h = absurd (no_both true refl h)

pub entries-of : (ns : List ℕ) (m : ℕ) → entries_length m ≤ length ns → every m (sound_name ns) ≡ true → Entries ns m
entries-of ns m h e =
    record { long = h; short = λ k l. (sound_name-get ns k (every_get (sound_name ns) m e k l)).short }

pub within-get :
    (r l n t m : ℕ) → within r l n t m ≡ true → (records_length t ≤ r) × (t ≤ l) × (entries_length m ≤ n)
unfolding within
within-get r l n t m e =
    let a = leb-true t (min 1024 (min (record_room r) l)) (and_first (leb t (min 1024 (min (record_room r) l))) _ e) in
    let b = leb-true m (min 128 (entry_room n)) (and_second (leb t (min 1024 (min (record_room r) l))) _ e) in
    (omega arith, omega arith, omega arith)

pub within-limit : (r l n t m : ℕ) → within r l n t m ≡ true → t ≤ 1024
unfolding within
within-limit r l n t m e =
    let a = leb-true t (min 1024 (min (record_room r) l)) (and_first (leb t (min 1024 (min (record_room r) l))) _ e) in
    omega arith

new_name-is : (rs : List ℕ) (ls : List ℤ) (ns : List ℕ) (n m k : ℕ) → new_name (store rs ls ns n m) k ≡ fresh_name ns k
unfolding new_name fresh_name
new_name-is rs ls ns n m k = refl

new_term-is :
    (rs : List ℕ) (ls : List ℤ) (ns : List ℕ) (n m i : ℕ) → new_term (store rs ls ns n m) i ≡ fresh_record rs ls i
unfolding new_term fresh_record
new_term-is rs ls ns n m i = refl

-- the whole test, in the order in which it is made
and_assoc : (a b c : Bool) → (a && b && c) ≡ (a && (b && c))
and_assoc true b c = refl
and_assoc false b c = refl

module _ (rs : List ℕ) (ls : List ℤ) (ns : List ℕ) (n m : ℕ) where
  check-is :
      (within (length rs) (length ls) (length ns) n m
      && (every m (sound_name ns)
      && (every m (fresh_name ns) && (every n (sound_record_at rs ls m) && every n (fresh_record rs ls)))))
      ≡ well_formed (store rs ls ns n m)
  unfolding well_formed within term_room symbol_room
  check-is =
      let s = store rs ls ns n m in
      rw (
        every-same m (new_name s) (fresh_name ns) (λ k h. new_name-is rs ls ns n m k),
        every-same n (new_term s) (fresh_record rs ls) (λ i h. new_term-is rs ls ns n m i),
      )
      (and_assoc (leb n (min 1024 (min (record_room (length rs)) (length ls)))) (leb m (min 128 (entry_room (length ns))))
      (every m (sound_name ns)
      && (every m (fresh_name ns) && (every n (sound_record_at rs ls m) && every n (fresh_record rs ls)))))

  module _ (a : within (length rs) (length ls) (length ns) n m ≡ true) where
    pub check-names-refuses : every m (sound_name ns) ≡ false → false ≡ well_formed (store rs ls ns n m)
    check-names-refuses e = rw (a, e) at check-is

    module _ (b : every m (sound_name ns) ≡ true) where
      pub check-new-names-refuses : every m (fresh_name ns) ≡ false → false ≡ well_formed (store rs ls ns n m)
      check-new-names-refuses e = rw (a, b, e) at check-is

      module _ (c : every m (fresh_name ns) ≡ true) where
        pub check-records-refuses : every n (sound_record_at rs ls m) ≡ false → false ≡ well_formed (store rs ls ns n m)
        check-records-refuses e = rw (a, b, c, e) at check-is

        pub check-rest :
            every n (sound_record_at rs ls m) ≡ true → every n (fresh_record rs ls) ≡ well_formed (store rs ls ns n m)
        check-rest e = rw (a, b, c, e) at check-is

  pub check-counts-refuses : within (length rs) (length ls) (length ns) n m ≡ false
      → false ≡ well_formed (store rs ls ns n m)
  check-counts-refuses e = rw e at check-is
