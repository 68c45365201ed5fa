-- What adding a term gives and leaves: the old number and the same store, or one record more and its name if that is
-- new. Assumes nothing.
use Prim.Native.Nat.{ℕ, ◌+◌, ◌≤◌, ◌<◌, min}
use mathlib.Core.Path.{◌≡◌, refl, sym, ap, subst, ◌∙◌}
use mathlib.Core.Bool.{true, false, ◌&&◌}
use mathlib.Core.List.{List}
use mathlib.Core.Logic.{inl, inr}
use native.Mathlib.Omega.{arith}
use borrow.Author.Tests.{ltb-true, lt-ltb}
use lib.Dec.{ltb}
use lib.ListN.{length, length-set}
use lib.Seq.{paste, length-paste, drop-paste, take-set-le, drop-set-lt}
use Rattle.std.specs.Prelude.{Some, None}
use Rattle.name.specs.Name.{valid, same}
use Rattle.name.specs.Entries.{entry_width, entries_length, entry_room, HasEntry, name_at, entry, put_name}
use Rattle.name.proofs.EntryLaws.{entry_length}
use Rattle.term_rules.specs.declared.Term.{Term}
use Rattle.term_rules.specs.Lent.{Store, store, width, records_length, numbers, symbol_at, term_room, symbol_room}
use Rattle.term_rules.specs.WellFormed.{well_formed}
use Rattle.term_rules.specs.Nodes.{Node, literal, variable, application, node_at, same_node, record_of}
use Rattle.term_rules.specs.Adding.{
  find_term,
  find_symbol,
  symbol_for,
  with_name,
  with_record,
  append,
  room_for_name,
  room_for,
  at,
  no_room,
  add,
}
use Rattle.term_rules.specs.Growing.{Fit}
use Rattle.term_rules.proofs.TestLaws.{and_first, and_second, and_both}
use Rattle.term_rules.proofs.SameLaws.{same-tells, same_node-tells, tells-apart}
use Rattle.term_rules.proofs.SearchLaws.{found-cases, first-at, first-missing, find_name-first}
use Rattle.term_rules.proofs.FactsLaws.{sound-of-well_formed}
use Rattle.name.proofs.PasteLaws.{part-paste-before}
use Rattle.term_rules.proofs.Adding.NamingLaws.{valid-short}
use Rattle.term_rules.proofs.Adding.WithNameLaws.{with_name-named}
use Rattle.term_rules.proofs.Adding.AppendLaws.{room-of-terms}
use Rattle.term_rules.proofs.Adding.NodeLaws.{record_of-wide}
use Rattle.term.specs.Outcomes.{
  IsTerm,
  There,
  Knows,
  NameRoom,
  Room,
  OnlyWithin,
  SameNames,
  OneName,
  NameAfter,
  NamesAfter,
  Appended,
}

-- the search for a term and for a name finds what is there, and nothing else
module _ (s : Store) where
  module _ (node : Node) where
    pub there-of-found : (i : ℕ) → find_term s node ≡ Some i → IsTerm s node i
    unfolding find_term
    there-of-found i e =
        let r = first-at (λ (j : ℕ). same_node (node_at s j) node) s.terms 0 i e in
        (omega (arith, r.1), same_node-tells.eq (node_at s i) node r.2)

    pub absent-of-missing : find_term s node ≡ None → There s node → ⊥
    unfolding find_term
    absent-of-missing e t =
        tells-apart same_node same_node-tells (node_at s t.0) node
        (first-missing (λ (j : ℕ). same_node (node_at s j) node) s.terms 0 e t.0 (omega arith) (omega (
          arith,
          t.1.0,
        )))
        t.1.1

  module _ (n : List ℕ) where
    knows-of-found : (k : ℕ) → find_symbol s n ≡ Some k → Knows s n
    knows-of-found k e =
        let r =
        first-at (λ (j : ℕ). same (name_at s.names j) n) s.symbols 0 k
        (sym (find_name-first s.names n s.symbols) ∙ e) in
        (k, (omega (arith, r.1), same-tells.eq (name_at s.names k) n r.2))

    unknown-of-missing : find_symbol s n ≡ None → Knows s n → ⊥
    unknown-of-missing e t =
        tells-apart same same-tells (name_at s.names t.0) n
        (first-missing (λ (j : ℕ). same (name_at s.names j) n) s.symbols 0
        (sym (find_name-first s.names n s.symbols) ∙ e) t.0 (omega arith) (omega (arith, t.1.0)))
        t.1.1

    -- what becomes of the name
    room-known : (k : ℕ) → find_symbol s n ≡ Some k → room_for_name s n ≡ true
    unfolding room_for_name
    room-known k e = rw (e, room_for_name)

    room-new : find_symbol s n ≡ None → room_for_name s n ≡ ltb s.symbols (symbol_room s)
    unfolding room_for_name
    room-new e = rw (e, room_for_name)

    name-room : room_for_name s n ≡ true → NameRoom s n
    name-room r =
        found-cases (find_symbol s n) (λ k e. inl (knows-of-found k e))
        (λ e. inr (ltb-true s.symbols (symbol_room s) (sym (room-new e) ∙ r)))

    room-name : NameRoom s n → room_for_name s n ≡ true
    room-name (inl t) =
        found-cases (find_symbol s n) room-known (λ e. absurd (unknown-of-missing e t))
    room-name (inr l) =
        found-cases (find_symbol s n) room-known (λ e. room-new e ∙ lt-ltb s.symbols (symbol_room s) l)

    with-known : (k : ℕ) → find_symbol s n ≡ Some k → with_name s n ≡ s
    unfolding with_name
    with-known k e = rw (e, with_name)

    abbrev named : Store
    named = store s.records s.literals (put_name s.names s.symbols n) s.terms (s.symbols + 1)

    with-new : find_symbol s n ≡ None → with_name s n ≡ named
    unfolding with_name
    with-new e = rw (e, with_name)

    symbol-new : find_symbol s n ≡ None → symbol_for s n ≡ s.symbols
    unfolding symbol_for
    symbol-new e = rw (e, symbol_for)

    with-records : (with_name s n).records ≡ s.records
    with-records =
        found-cases (find_symbol s n) (λ k e. ap (λ (x : Store). x.records) (with-known k e))
        (λ e. ap (λ (x : Store). x.records) (with-new e))

    with-literals : (with_name s n).literals ≡ s.literals
    with-literals =
        found-cases (find_symbol s n) (λ k e. ap (λ (x : Store). x.literals) (with-known k e))
        (λ e. ap (λ (x : Store). x.literals) (with-new e))

    with-terms : (with_name s n).terms ≡ s.terms
    with-terms =
        found-cases (find_symbol s n) (λ k e. ap (λ (x : Store). x.terms) (with-known k e))
        (λ e. ap (λ (x : Store). x.terms) (with-new e))

  -- the test of room is the room
  pub room-told : (node : Node) → room_for s node ≡ true → Room s node
  unfolding room_for
  room-told (literal z) r = ltb-true s.terms (term_room s) r
  room-told (variable n) r = (
    ltb-true s.terms (term_room s) (and_first (ltb s.terms (term_room s)) (room_for_name s n) r),
    name-room n (and_second (ltb s.terms (term_room s)) (room_for_name s n) r),
  )
  room-told (application n ks) r = (
    ltb-true s.terms (term_room s) (and_first (ltb s.terms (term_room s)) (room_for_name s n) r),
    name-room n (and_second (ltb s.terms (term_room s)) (room_for_name s n) r),
  )

  pub told-room : (node : Node) → Room s node → room_for s node ≡ true
  unfolding room_for
  told-room (literal z) r = lt-ltb s.terms (term_room s) r
  told-room (variable n) r =
      and_both (ltb s.terms (term_room s)) (room_for_name s n) (lt-ltb s.terms (term_room s) r.0)
      (room-name n r.1)
  told-room (application n ks) r =
      and_both (ltb s.terms (term_room s)) (room_for_name s n) (lt-ltb s.terms (term_room s) r.0)
      (room-name n r.1)

-- a pasted part
within-paste :
    (l : List ℕ) (a : ℕ) (v : List ℕ) (k : ℕ) →
    a + k ≤ length l →
    k ≤ length v →
    OnlyWithin a (a + k) l (paste l a v k)
within-paste l a v k h w = record {
  long = length-paste l a v k h w;
  before = part-paste-before l a v k (omega arith) w 0 a (omega arith);
  past = drop-paste l a v k (omega arith) w;
}

-- a record that is put behind those of a store
module _ (s b : Store) (t : Term) (room : ltb s.terms (term_room s) ≡ true) (wide : length t.children ≡ 8)
    (rs : b.records ≡ s.records) (ls : b.literals ≡ s.literals) (ts : b.terms ≡ s.terms) where
  record-one : (with_record b t).terms ≡ s.terms + 1
  unfolding with_record
  record-one = ap (λ (n : ℕ). n + 1) ts

  record-within : OnlyWithin (records_length s.terms) (records_length s.terms + width) s.records (with_record b t).records
  unfolding with_record
  record-within =
      rw (rs, ts) (within-paste s.records (records_length s.terms) (numbers t) width (room-of-terms s room).records
      (omega (arith, wide)))

  literal-within : OnlyWithin s.terms (s.terms + 1) s.literals (with_record b t).literals
  unfolding with_record
  literal-within =
      rw (ls, ts)
      (record {
        long = length-set s.literals s.terms t.literal;
        before = take-set-le s.terms s.literals s.terms t.literal (omega arith);
        past = drop-set-lt (s.terms + 1) s.literals s.terms t.literal (omega arith);
      })

  names-kept : SameNames s b → SameNames s (with_record b t)
  unfolding with_record
  names-kept h = record { none_more = h.none_more; names = h.names }

  name-kept : (n : List ℕ) → OneName s n b → OneName s n (with_record b t)
  unfolding with_record
  name-kept n h = record { one_more = h.one_more; is = h.is; names = h.names }

-- "with its name if new"
module _ (s : Store) (n : List ℕ) where
  known-names : Knows s n → SameNames s (with_name s n)
  known-names t =
      found-cases (find_symbol s n)
      (λ k e.
      subst (SameNames s) (sym (with-known s n k e)) (record { none_more = refl; names = refl }))
      (λ e. absurd (unknown-of-missing s n e t))

  module _ (formed : well_formed s ≡ true) (v : valid n ≡ true) (room : room_for_name s n ≡ true) where
    symbol-fits : find_symbol s n ≡ None → HasEntry s.names s.symbols
    unfolding symbol_room
    symbol-fits e =
        let l : s.symbols < min 128 (entry_room (length s.names)) =
        ltb-true s.symbols (min 128 (entry_room (length s.names))) (sym (room-new s n e) ∙ room) in
        omega arith

    put-within :
        find_symbol s n ≡ None →
        OnlyWithin (entries_length s.symbols) (entries_length s.symbols + entry_width) s.names (put_name s.names s.symbols n)
    unfolding put_name
    put-within e =
        within-paste s.names (entries_length s.symbols) (entry n) entry_width (symbol-fits e)
        (omega (arith, entry_length n (valid-short n v)))

    new-name : (Knows s n → ⊥) → OneName s n (with_name s n)
    new-name u =
        found-cases (find_symbol s n) (λ k e. absurd (u (knows-of-found s n k e)))
        (λ e.
        record {
          one_more = ap (λ (x : Store). x.symbols) (with-new s n e);
          is =
              ap (symbol_at (with_name s n)) (sym (symbol-new s n e))
              ∙ (with_name-named s n (sound-of-well_formed s formed) v room).is;
          names =
              subst (OnlyWithin (entries_length s.symbols) (entries_length s.symbols + entry_width) s.names)
              (sym (ap (λ (x : Store). x.names) (with-new s n e))) (put-within e);
        })

-- the store with the node
module _ (s : Store) (formed : well_formed s ≡ true) where
  named-appended :
      (n : List ℕ) (t : Term) →
      valid n ≡ true →
      length t.children ≡ 8 →
      (ltb s.terms (term_room s) && room_for_name s n) ≡ true →
      (node : Node) →
      (NameAfter s n (with_record (with_name s n) t) → NamesAfter s node (with_record (with_name s n) t)) →
      Appended s node (with_record (with_name s n) t)
  named-appended n t v wide r node has =
      let room : ltb s.terms (term_room s) ≡ true = and_first (ltb s.terms (term_room s)) (room_for_name s n) r in
      let name : room_for_name s n ≡ true = and_second (ltb s.terms (term_room s)) (room_for_name s n) r in
      let rs = with-records s n in
      let ls = with-literals s n in
      let ts = with-terms s n in
      record {
        one_more = record-one s (with_name s n) t room wide rs ls ts;
        records = record-within s (with_name s n) t room wide rs ls ts;
        literals = literal-within s (with_name s n) t room wide rs ls ts;
        names = has (
          (λ k. names-kept s (with_name s n) t room wide rs ls ts (known-names s n k)),
          (λ u. name-kept s (with_name s n) t room wide rs ls ts n (new-name s n formed v name u)),
        );
      }

  append-appended :
      (node : Node) →
      Fit s node →
      room_for s node ≡ true →
      Appended s node (append s node)
  unfolding append room_for
  append-appended (literal z) fit r =
      let t : Term = record_of 0 (literal z) in
      let wide : length t.children ≡ 8 = record_of-wide s 0 (literal z) fit in
      record {
        one_more = record-one s s t r wide refl refl refl;
        records = record-within s s t r wide refl refl refl;
        literals = literal-within s s t r wide refl refl refl;
        names = names-kept s s t r wide refl refl refl (record { none_more = refl; names = refl });
      }
  append-appended (variable n) fit r =
      named-appended n (record_of (symbol_for s n) (variable n)) fit (record_of-wide s (symbol_for s n) (variable n) fit) r
      (variable n) (λ h. h)
  append-appended (application n ks) fit r =
      named-appended n (record_of (symbol_for s n) (application n ks)) fit.0
      (record_of-wide s (symbol_for s n) (application n ks) fit) r (application n ks) (λ h. h)

-- what adding answers
module _ (s : Store) (node : Node) where
  pub add-there : (i : ℕ) → find_term s node ≡ Some i → add s node ≡ at i s
  unfolding add
  add-there i e = rw (e, add)

  module _ (e : find_term s node ≡ None) where
    pub add-new : room_for s node ≡ true → add s node ≡ at s.terms (append s node)
    unfolding add
    add-new r = rw (e, r, add)

    pub add-full : room_for s node ≡ false → add s node ≡ no_room
    unfolding add
    add-full r = rw (e, r, add)

    pub new-appended :
        well_formed s ≡ true → Fit s node → room_for s node ≡ true → Appended s node (append s node)
    new-appended w fit r = append-appended s w node fit r
