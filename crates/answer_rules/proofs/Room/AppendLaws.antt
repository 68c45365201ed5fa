-- What appending a node leaves: one term more, the names that were there, at most the node's own name besides, and the
-- lent lengths. Assumes nothing.
use Prim.Native.Nat.{ℕ, ◌+◌, ◌≤◌, ◌<◌, min}
use mathlib.Core.Path.{◌≡◌, refl, ap, ◌∙◌}
use mathlib.Core.Bool.{Bool, true}
use mathlib.Core.List.{List}
use mathlib.Core.Logic.{◌⊎◌, inl, inr}
use native.Mathlib.Omega.{arith}
use lib.ListN.{length, length-set}
use lib.Dec.{ltb}
use borrow.Author.Tests.{ltb-true, ltb-false}
use Rattle.name.specs.Name.{valid}
use Rattle.name.specs.Entries.{entries_length, entry_room, HasEntry, put_name}
use Rattle.std.specs.Prelude.{Option, Some, None}
use Rattle.term_rules.specs.declared.Term.{Term}
use Rattle.term_rules.specs.Lent.{Store, store, symbol_at, term_room, symbol_room}
use Rattle.term_rules.specs.Facts.{Sound}
use Rattle.term_rules.specs.Nodes.{Node, literal, variable, application, record_of}
use Rattle.term_rules.specs.Adding.{find_symbol, symbol_for, with_name, with_record, append, room_for_name, room_for}
use Rattle.term_rules.proofs.TestLaws.{cases, and_first, and_second}
use Rattle.term_rules.specs.Growing.{Fit}
use Rattle.term_rules.proofs.Adding.AppendLaws.{Room, room-of-terms}
use Rattle.name.proofs.PutLaws.{name_at-kept, name_at-put, put_name-length}
use Rattle.term_rules.proofs.LayoutLaws.{put-length}
use Rattle.term_rules.proofs.Adding.NamingLaws.{valid-short}
use Rattle.term_rules.proofs.Adding.NodeLaws.{record_of-wide}

-- the name is the node's
abbrev pub NameOf : Node → List ℕ → Type 0
NameOf (literal z) m = ⊥
NameOf (variable n) m = m ≡ n
NameOf (application n ks) m = m ≡ n

-- the second store has the names of the first, maybe some besides of which Q holds, and the first's lengths
pub record Renamed (s : Store) (Q : List ℕ → Type 0) (s' : Store) : Type 0 where
  pub records : length s'.records ≡ length s.records
  pub literals : length s'.literals ≡ length s.literals
  pub long : length s'.names ≡ length s.names
  pub more : s.symbols ≤ s'.symbols
  pub old : (k : ℕ) → k < s.symbols → symbol_at s' k ≡ symbol_at s k
  pub new : (k : ℕ) → k < s'.symbols → (k < s.symbols) ⊎ Q (symbol_at s' k)

renamed-self : (s : Store) (Q : List ℕ → Type 0) → Renamed s Q s
renamed-self s Q = record {
  records = refl;
  literals = refl;
  long = refl;
  more = omega arith;
  old = λ k l. refl;
  new = λ k l. inl l;
}

module _ (s : Store) (sound : Sound s) (name : List ℕ) (v : valid name ≡ true) where
  module _ (room : ltb s.symbols (symbol_room s) ≡ true) where
    fits : HasEntry s.names s.symbols
    unfolding symbol_room
    fits =
        let l : s.symbols < min 128 (entry_room (length s.names)) =
        ltb-true s.symbols (min 128 (entry_room (length s.names))) room in
        omega arith

    abbrev named : Store
    named = store s.records s.literals (put_name s.names s.symbols name) s.terms (s.symbols + 1)

    renamed-new : Renamed s (λ (m : List ℕ). m ≡ name) named
    renamed-new =
        let long : entries_length s.symbols ≤ length s.names = omega (arith, fits) in
        let short : length name ≤ 31 = valid-short name v in
        record {
          records = refl;
          literals = refl;
          long = put_name-length s.names s.symbols name long short fits;
          more = omega arith;
          old = λ k l. name_at-kept s.names s.symbols name long short k l (sound.name k l).short;
          new = λ k l.
              cases (ltb k s.symbols) (λ e. inl (ltb-true k s.symbols e))
              (λ e.
              let d : k ≡ s.symbols = omega (arith, l, ltb-false k s.symbols e) in
              inr (ap (symbol_at named) d ∙ name_at-put s.names s.symbols name long short));
        }

  renamed_by :
      (f : Option ℕ) →
      elim f as (λ _. Bool) [ Some k ↦ true | None ↦ ltb s.symbols (symbol_room s) ] ≡ true →
      Renamed s (λ (m : List ℕ). m ≡ name)
      (elim f as (λ _. Store) [
        | Some k ↦ s
        | None ↦
            store s.records s.literals (put_name s.names s.symbols name) s.terms (s.symbols + 1)
      ])
  renamed_by (Some k) r = renamed-self s (λ (m : List ℕ). m ≡ name)
  renamed_by None r = renamed-new r

  renamed-of : room_for_name s name ≡ true → Renamed s (λ (m : List ℕ). m ≡ name) (with_name s name)
  unfolding room_for_name with_name
  renamed-of r = renamed_by (find_symbol s name) r

  same_by :
      (f : Option ℕ) →
      (elim f as (λ _. Store) [
        | Some k ↦ s
        | None ↦
            store s.records s.literals (put_name s.names s.symbols name) s.terms (s.symbols + 1)
      ]).terms ≡ s.terms
  same_by (Some k) = refl
  same_by None = refl

  room_by :
      (f : Option ℕ) → Room s →
      Room
      (elim f as (λ _. Store) [
        | Some k ↦ s
        | None ↦
            store s.records s.literals (put_name s.names s.symbols name) s.terms (s.symbols + 1)
      ])
  room_by (Some k) r = r
  room_by None r = record { limit = r.limit; records = r.records; literals = r.literals }

  named-terms : (with_name s name).terms ≡ s.terms
  unfolding with_name
  named-terms = same_by (find_symbol s name)

  named-room : Room s → Room (with_name s name)
  unfolding with_name
  named-room r = room_by (find_symbol s name) r

-- what appending the node leaves
pub record Appended (s : Store) (node : Node) (s' : Store) : Type 0 where
  pub count : s'.terms ≡ s.terms + 1
  pub renamed : Renamed s (NameOf node) s'

module _ (s : Store) (Q : List ℕ → Type 0) (b : Store) (t : Term) where
  record-renamed : Renamed s Q b → Room b → length t.children ≡ 8 → Renamed s Q (with_record b t)
  unfolding with_record
  record-renamed r room wide = record {
    records =
        put-length b.records b.terms t (omega (arith, room.records)) wide room.records ∙ r.records;
    literals = length-set b.literals b.terms t.literal ∙ r.literals;
    long = r.long;
    more = r.more;
    old = r.old;
    new = r.new;
  }

  record-count : b.terms ≡ s.terms → (with_record b t).terms ≡ s.terms + 1
  unfolding with_record
  record-count e = ap (λ (n : ℕ). n + 1) e

module _ (s : Store) (sound : Sound s) where
  pub append-leaves : (node : Node) → Fit s node → room_for s node ≡ true → Appended s node (append s node)
  unfolding append room_for
  append-leaves (literal z) fit r = record {
    count = record-count s (NameOf (literal z)) s (record_of 0 (literal z)) refl;
    renamed =
        record-renamed s (NameOf (literal z)) s (record_of 0 (literal z)) (renamed-self s (NameOf (literal z)))
        (room-of-terms s r) (record_of-wide s 0 (literal z) fit);
  }
  append-leaves (variable n) fit r =
      let k : ℕ = symbol_for s n in
      let t : Term = record_of k (variable n) in
      record {
        count = record-count s (NameOf (variable n)) (with_name s n) t (named-terms s sound n fit);
        renamed =
            record-renamed s (NameOf (variable n)) (with_name s n) t
            (renamed-of s sound n fit (and_second (ltb s.terms (term_room s)) _ r))
            (named-room s sound n fit (room-of-terms s (and_first (ltb s.terms (term_room s)) _ r)))
            (record_of-wide s k (variable n) fit);
      }
  append-leaves (application n ks) fit r =
      let k : ℕ = symbol_for s n in
      let t : Term = record_of k (application n ks) in
      record {
        count = record-count s (NameOf (application n ks)) (with_name s n) t (named-terms s sound n fit.0);
        renamed =
            record-renamed s (NameOf (application n ks)) (with_name s n) t
            (renamed-of s sound n fit.0 (and_second (ltb s.terms (term_room s)) _ r))
            (named-room s sound n fit.0 (room-of-terms s (and_first (ltb s.terms (term_room s)) _ r)))
            (record_of-wide s k (application n ks) fit);
      }

-- lengths give the room
module _ (s : Store) (Q : List ℕ → Type 0) (s' : Store) (r : Renamed s Q s') where
  pub same-term-room : term_room s' ≡ term_room s
  unfolding term_room
  same-term-room = rw (r.records, r.literals)

  pub same-symbol-room : symbol_room s' ≡ symbol_room s
  unfolding symbol_room
  same-symbol-room = rw r.long
