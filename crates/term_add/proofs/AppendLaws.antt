-- What appending writes is what adding asks for. Assumes nothing.
use Prim.Native.Nat.{ℕ, ◌+◌, ◌≤◌, ◌<◌, min}
use mathlib.Core.Path.{◌≡◌, refl, sym, ◌∙◌}
use mathlib.Core.Bool.{true, false}
use mathlib.Core.List.{List, []}
use native.Mathlib.Omega.{arith}
use borrow.Author.Tests.{lt-ltb, le-ltb, ltb-true, leb-true}
use lib.Dec.{leb}
use lib.ListN.{length, set}
use lib.IntN.{ℤ, pos}
use Rattle.std.specs.Prelude.{Option, Some, None}
use Rattle.name.specs.Name.{valid}
use Rattle.name.specs.Entries.{entries_length, entry_room, find_name, put_name}
use Rattle.term_rules.specs.Lent.{Store, store, records_length, record_room, put_record, term_room, symbol_room}
use Rattle.term_rules.specs.Nodes.{Node, literal, variable, application, record_of}
use Rattle.term_rules.specs.Adding.{
  find_term,
  symbol_for,
  with_name,
  with_record,
  append,
  room_for_name,
  room_for,
  Adds,
  at,
  no_room,
  add,
}
use Rattle.term_record.specs.Flat.{filled}
use Rattle.term_rules.proofs.TestLaws.{and_first, and_second}
use Rattle.term_rules.proofs.StepLaws.{
  symbol_for-old,
  with_name-old,
  room_for_name-old,
  symbol_for-new,
  with_name-new,
  room_for_name-new,
}
use Rattle.term_add.specs.Interning.{room_in, name_room_in, Leaves, append_named, append_literal}
use Rattle.term_add.specs.declared.Added.{Added}

pub room-refuses : (r l n : ℕ) → min 1024 (min (record_room r) l) ≤ n → false ≡ room_in r l n
room-refuses r l n h = sym (le-ltb n (min 1024 (min (record_room r) l)) h)

pub room-holds : (r l n : ℕ) → n < min 1024 (min (record_room r) l) → true ≡ room_in r l n
room-holds r l n h = sym (lt-ltb n (min 1024 (min (record_room r) l)) h)

pub room-get : (r l n : ℕ) → room_in r l n ≡ true → (n < 1024) × (records_length (n + 1) ≤ r) × (n < l)
room-get r l n e = let h = ltb-true n (min 1024 (min (record_room r) l)) e in (omega arith, omega arith, omega arith)

pub name-room-refuses : (r m : ℕ) → min 128 (entry_room r) ≤ m → false ≡ name_room_in r m
name-room-refuses r m h = sym (le-ltb m (min 128 (entry_room r)) h)

pub name-room-holds : (r m : ℕ) → m < min 128 (entry_room r) → true ≡ name_room_in r m
name-room-holds r m h = sym (lt-ltb m (min 128 (entry_room r)) h)

pub name-room-get : (r m : ℕ) → name_room_in r m ≡ true → (m < 128) × (entries_length (m + 1) ≤ r)
name-room-get r m e = let h = ltb-true m (min 128 (entry_room r)) e in (omega arith, omega arith)

-- a valid name is short
pub valid-short : (name : List ℕ) → valid name ≡ true → length name ≤ 31
unfolding valid
valid-short name e =
    leb-true (length name) 31 (and_first (leb (length name) 31) _ (and_second (leb 1 (length name)) _ e))

-- the answer of a call that gives the number i, with the counts n and m
abbrev term : ℕ → ℕ → ℕ → Option Added
term i n m = Some (record { term = i; terms = n; symbols = m })

term-room : {P : Type 0} {i n m : ℕ} → term i n m ≡ None → P
term-room e = let z : ◌≡◌ {A = ℕ} 0 1 = cc in absurd (omega arith)

module _ (rs : List ℕ) (ls : List ℤ) (ns : List ℕ) (n m : ℕ) where
  -- an answer with a number
  leaves-term :
      (w : Adds) (i n' m' : ℕ) (rs' : List ℕ) (ls' : List ℤ) (ns' : List ℕ) →
      at i (store rs' ls' ns' n' m') ≡ w →
      Leaves (store rs ls ns n m) w (term i n' m') rs' ls' ns'
  leaves-term w i n' m' rs' ls' ns' e = record { answer = e; kept = λ d. term-room d }

  -- an answer without
  leaves-no_room : (w : Adds) → no_room ≡ w → Leaves (store rs ls ns n m) w None rs ls ns
  leaves-no_room w e = record { answer = e; kept = λ d. refl }

  module _ (z : ℤ) where
    pub literal-full :
        room_in (length rs) (length ls) n ≡ false →
        Leaves (store rs ls ns n m) (append_literal (store rs ls ns n m) z) None rs ls ns
    unfolding append_literal term_room
    literal-full e = leaves-no_room (append_literal (store rs ls ns n m) z) (rw (e, append_literal))

    pub literal-put :
        (rs' : List ℕ) (ls' : List ℤ) →
        room_in (length rs) (length ls) n ≡ true →
        rs' ≡ put_record rs n (filled 0 0 z []) →
        ls' ≡ set ls n z →
        Leaves (store rs ls ns n m) (append_literal (store rs ls ns n m) z) (term n (n + 1) m) rs' ls' ns
    unfolding append_literal term_room with_record
    literal-put rs' ls' e p q =
        leaves-term (append_literal (store rs ls ns n m) z) n (n + 1) m rs' ls' ns (rw (p, q) (rw (e, append_literal)))

  module _ (kind : ℕ) (name ks : List ℕ) where
    named_put :
        (s' : Store) (k' : ℕ) (t : Store) (k : ℕ) →
        s' ≡ t →
        k' ≡ k →
        at n (with_record s' (filled kind k' (pos 0) ks))
        ≡ at n
        (store (put_record t.records t.terms (filled kind k (pos 0) ks))
        (set t.literals t.terms (pos 0))
        t.names (t.terms + 1) t.symbols)
    unfolding with_record
    named_put s' k' t k d f = rw (d, f)

    pub named-full :
        room_in (length rs) (length ls) n ≡ false →
        Leaves (store rs ls ns n m) (append_named (store rs ls ns n m) kind name ks) None rs ls ns
    unfolding append_named term_room
    named-full e = leaves-no_room (append_named (store rs ls ns n m) kind name ks) (rw (e, append_named))

    module _ (e : room_in (length rs) (length ls) n ≡ true) where
      named-yes :
          room_for_name (store rs ls ns n m) name ≡ true →
          at n
          (with_record (with_name (store rs ls ns n m) name)
          (filled kind (symbol_for (store rs ls ns n m) name) (pos 0) ks))
          ≡ append_named (store rs ls ns n m) kind name ks
      unfolding append_named term_room
      named-yes h = rw (e, h, append_named)

      pub named-name-full :
          find_name ns m name ≡ None →
          name_room_in (length ns) m ≡ false →
          Leaves (store rs ls ns n m) (append_named (store rs ls ns n m) kind name ks) None rs ls ns
      unfolding append_named term_room symbol_room
      named-name-full f h =
          let r : room_for_name (store rs ls ns n m) name ≡ false = room_for_name-new (store rs ls ns n m) name f ∙ h in
          leaves-no_room (append_named (store rs ls ns n m) kind name ks) (rw (e, r, append_named))

      module _ (rs' : List ℕ) (ls' : List ℤ) (q : ls' ≡ set ls n (pos 0)) where
        pub named_new :
            (ns' : List ℕ) →
            find_name ns m name ≡ None →
            name_room_in (length ns) m ≡ true →
            ns' ≡ put_name ns m name →
            rs' ≡ put_record rs n (filled kind m (pos 0) ks) →
            Leaves (store rs ls ns n m) (append_named (store rs ls ns n m) kind name ks)
            (term n (n + 1) (m + 1)) rs' ls'
            ns'
        unfolding symbol_room
        named_new ns' f h o p =
            let s = store rs ls ns n m in
            leaves-term (append_named s kind name ks) n (n + 1) (m + 1) rs' ls' ns'
            (rw (p, q, o)
            (sym (named_put (with_name s name) (symbol_for s name) _ m (with_name-new s name f) (symbol_for-new s name f))
            ∙ named-yes (room_for_name-new s name f ∙ h)))

        pub named-old :
            (k : ℕ) →
            find_name ns m name ≡ Some k →
            rs' ≡ put_record rs n (filled kind k (pos 0) ks) →
            Leaves (store rs ls ns n m) (append_named (store rs ls ns n m) kind name ks) (term n (n + 1) m) rs' ls' ns
        named-old k f p =
            let s = store rs ls ns n m in
            leaves-term (append_named s kind name ks) n (n + 1) m rs' ls' ns
            (rw (p, q)
            (sym (named_put (with_name s name) (symbol_for s name) s k (with_name-old s name k f)
            (symbol_for-old s name k f))
            ∙ named-yes (room_for_name-old s name k f)))

  -- a term that is there
  pub add-there :
      (node : Node) (i : ℕ) →
      find_term (store rs ls ns n m) node ≡ Some i →
      Leaves (store rs ls ns n m) (add (store rs ls ns n m) node) (term i n m) rs ls ns
  unfolding add
  add-there node i e = leaves-term (add (store rs ls ns n m) node) i n m rs ls ns (rw (e, add))

-- a term that is not
module _ (s : Store) where
  pub add-new-literal : (z : ℤ) → find_term s (literal z) ≡ None → append_literal s z ≡ add s (literal z)
  unfolding add append room_for append_literal record_of
  add-new-literal z e = rw (e, add)

  pub add-new-variable : (name : List ℕ) → find_term s (variable name) ≡ None
      → append_named s 1 name [] ≡ add s (variable name)
  unfolding add append room_for append_named record_of
  add-new-variable name e = rw (e, add)

  pub add-new-application :
      (name ks : List ℕ) → find_term s (application name ks) ≡ None
      → append_named s 2 name ks ≡ add s (application name ks)
  unfolding add append room_for append_named record_of
  add-new-application name ks e = rw (e, add)

-- the same wish
pub leaves-as :
    (s : Store) (v w : Adds) (r : Option Added) (rs : List ℕ) (ls : List ℤ) (ns : List ℕ) →
    v ≡ w →
    Leaves s v r rs ls ns →
    Leaves s w r rs ls ns
leaves-as s v w r rs ls ns e l = record { answer = l.answer ∙ e; kept = l.kept }
