-- What is put into a lent store is what adding asks for. Assumes nothing.
use Prim.Native.Nat.{ℕ, ◌+◌, ◌≤◌, ◌<◌, min}
use mathlib.Core.Path.{◌≡◌, refl, sym, ap, ◌∙◌}
use mathlib.Core.Bool.{Bool, true, false}
use mathlib.Core.List.{List, []}
use native.Mathlib.Omega.{arith}
use borrow.Author.Tests.{lt-ltb, le-ltb, ltb-true, leb-true}
use lib.Dec.{leb, ltb}
use lib.ListN.{length, set}
use lib.IntN.{ℤ, pos}
use Rattle.std.specs.Prelude.{Option, Some, None, cond}
use Rattle.name.specs.Entries.{find_name, put_name}
use Rattle.term_rules.specs.Lent.{Store, store, term_room, symbol_room}
use Rattle.term_rules.specs.Nodes.{Node, literal, record_of}
use Rattle.term_rules.specs.Adding.{
  find_symbol,
  find_term,
  symbol_for,
  with_name,
  with_record,
  room_for_name,
  Adds,
  at,
  no_room,
  add,
}
use Rattle.term_record.specs.Flat.{filled}
use Rattle.term_rules.proofs.StepLaws.{
  symbol_for-old,
  with_name-old,
  room_for_name-old,
  symbol_for-new,
  with_name-new,
  room_for_name-new,
}
use Rattle.term_add.specs.Interning.{room_in, name_room_in, append_named, append_literal}
use Rattle.term_add.specs.Held.{seen_gain, Gains, Names}

module _ (s : Store) (name : List ℕ) where
  -- a name that is there
  pub names-old : (k : ℕ) → find_symbol s name ≡ Some k → Names s name (Some k) s
  names-old k e = record {
    answer = rw (room_for_name-old s name k e, symbol_for-old s name k e) refl;
    left = rw (room_for_name-old s name k e, with_name-old s name k e) refl;
  }

  -- one for which there is no room
  pub names-full : find_symbol s name ≡ None → name_room_in (length s.names) s.symbols ≡ false → Names s name None s
  unfolding symbol_room
  names-full e h =
      let f : room_for_name s name ≡ false = room_for_name-new s name e ∙ h in
      record { answer = rw f refl; left = rw f refl }

  -- a new one
  pub names-new : find_symbol s name ≡ None → name_room_in (length s.names) s.symbols ≡ true
      → Names s name (Some s.symbols)
      (store s.records s.literals (put_name s.names s.symbols name) s.terms (s.symbols + 1))
  unfolding symbol_room
  names-new e h =
      let f : room_for_name s name ≡ true = room_for_name-new s name e ∙ h in
      record {
        answer = rw (f, symbol_for-new s name e) refl;
        left = rw (f, with_name-new s name e) refl;
      }

  -- putting a name leaves the records
  pub record Kept (t : Store) : Type 0 where
    pub records : t.records ≡ s.records
    pub literals : t.literals ≡ s.literals
    pub terms : t.terms ≡ s.terms

  kept_by : (o : Option ℕ) → find_symbol s name ≡ o → Kept (with_name s name)
  kept_by (Some k) e = rw (with_name-old s name k e) (record { records = refl; literals = refl; terms = refl })
  kept_by None e = rw (with_name-new s name e) (record { records = refl; literals = refl; terms = refl })

  pub with_name-kept : Kept (with_name s name)
  with_name-kept = kept_by (find_symbol s name) refl

-- an answer with a number, and one without
gains-some : (s : Store) {w : Adds} {i : ℕ} {t : Store} → at i t ≡ w → Gains s w (Some i) t
gains-some s e = record { answer = e; kept = λ d. (let z : ◌≡◌ {A = ℕ} 0 1 = cc in absurd (omega arith)) }

gains-none : (s : Store) {w : Adds} → no_room ≡ w → Gains s w None s
gains-none s e = record { answer = e; kept = λ d. refl }

-- the same wish
pub gains-as : {s : Store} {v w : Adds} {r : Option ℕ} {t : Store} → v ≡ w → Gains s v r t → Gains s w r t
gains-as e l = record { answer = l.answer ∙ e; kept = l.kept }

-- a term that is there
pub gains-there : (s : Store) (node : Node) {i : ℕ} → find_term s node ≡ Some i → Gains s (add s node) (Some i) s
unfolding add
gains-there s node e = gains-some s (rw (e, add))

module _ (s : Store) (z : ℤ) where
  pub literal-gains-none : room_in (length s.records) (length s.literals) s.terms ≡ false
      → Gains s (append_literal s z) None s
  unfolding append_literal term_room
  literal-gains-none e = gains-none s (rw (e, append_literal))

  pub literal-gains : {i : ℕ} {t : Store} → room_in (length s.records) (length s.literals) s.terms ≡ true
      → i ≡ s.terms → t ≡ with_record s (filled 0 0 z []) → Gains s (append_literal s z) (Some i) t
  unfolding append_literal term_room
  literal-gains e n h = gains-some s (rw (n, h) (rw (e, append_literal)))

module _ (s : Store) (kind : ℕ) (name ks : List ℕ) where
  pub named-gains-none : room_in (length s.records) (length s.literals) s.terms ≡ false
      → Gains s (append_named s kind name ks) None s
  unfolding append_named term_room
  named-gains-none e = gains-none s (rw (e, append_named))

  module _ (e : room_in (length s.records) (length s.literals) s.terms ≡ true) where
    no_name_by : {t : Store} (b : Bool) → room_for_name s name ≡ b
        → None ≡ cond b (Some (symbol_for s name)) None → t ≡ cond b (with_name s name) s
        → Gains s (append_named s kind name ks) None t
    unfolding append_named term_room
    no_name_by true f h d = (let z : ◌≡◌ {A = ℕ} 0 1 = cc in absurd (omega arith))
    no_name_by false f h d = rw d (gains-none s (rw (e, f, append_named)))

    pub no-name-gains : {t : Store} → Names s name None t → Gains s (append_named s kind name ks) None t
    no-name-gains n = no_name_by (room_for_name s name) refl n.answer n.left

    named_by : {k i : ℕ} {t u : Store} (b : Bool) → room_for_name s name ≡ b
        → Some k ≡ cond b (Some (symbol_for s name)) None → t ≡ cond b (with_name s name) s
        → i ≡ t.terms → u ≡ with_record t (filled kind k (pos 0) ks)
        → Gains s (append_named s kind name ks) (Some i) u
    unfolding append_named term_room with_name
    named_by {k} true f h d n p =
        let a : k ≡ symbol_for s name = cc in
        let o = (with_name-kept s name).terms in
        gains-some s (rw (n, p, d, a, o, e, f, append_named) refl)
    named_by false f h d n p = (let z : ◌≡◌ {A = ℕ} 0 1 = cc in absurd (omega arith))

    pub named-gains : {k i : ℕ} {t u : Store} → Names s name (Some k) t → i ≡ t.terms
        → u ≡ with_record t (filled kind k (pos 0) ks) → Gains s (append_named s kind name ks) (Some i) u
    named-gains n = named_by (room_for_name s name) refl n.answer n.left

    -- there is still room for the record
    room_by : {t : Store} (b : Bool) → t ≡ cond b (with_name s name) s
        → room_in (length t.records) (length t.literals) t.terms ≡ true
    room_by true d =
        let k = with_name-kept s name in
        rw d (rw (k.records, k.literals, k.terms) e)
    room_by false d = rw d e

    pub names-room : {r : Option ℕ} {t : Store} → Names s name r t
        → room_in (length t.records) (length t.literals) t.terms ≡ true
    names-room n = room_by (room_for_name s name) n.left
