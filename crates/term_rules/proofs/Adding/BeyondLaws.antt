-- Adding a term writes only the places of 1,024 records and 128 names. Assumes nothing.
use Prim.Native.Nat.{ℕ, ◌+◌, ◌≤◌, ◌<◌, min}
use mathlib.Core.Path.{◌≡◌, refl, sym, ap, subst, ◌∙◌}
use mathlib.Core.Bool.{Bool, true, false}
use mathlib.Core.List.{List}
use native.Mathlib.Omega.{arith}
use lib.ListN.{length, drop, length-append, length-replicate}
use lib.Seq.{drop-set-lt}
use lib.Dec.{ltb}
use borrow.Author.Tests.{ltb-true}
use Rattle.name.specs.Entries.{entries_length, entry_room, put_name}
use Rattle.name.proofs.PutLaws.{put_name-past}
use Rattle.std.specs.Prelude.{Option, Some, None}
use Rattle.term_rules.specs.declared.Term.{Term}
use Rattle.term_rules.proofs.TestLaws.{and_first, and_second}
use Rattle.term_rules.specs.Lent.{Store, store, records_length, record_room, term_room, symbol_room}
use Rattle.term_rules.specs.Nodes.{Node, literal, variable, application, record_of}
use Rattle.term_rules.specs.Adding.{
  find_symbol,
  find_term,
  with_name,
  with_record,
  symbol_for,
  append,
  room_for_name,
  room_for,
  Adds,
  at,
  no_room,
  add,
}
use Rattle.term_rules.specs.Growing.{Beyond}
use Rattle.term_rules.proofs.LayoutLaws.{put-past}

abbrev Same : Store → Store → Type 0
Same s s' = Beyond s s'.records s'.literals s'.names

module _ (s : Store) where
  record-beyond :
      (b : Store) (t : Term) →
      Same s b →
      b.terms < 1024 →
      records_length b.terms ≤ length b.records →
      8 ≤ length t.children →
      Same s (with_record b t)
  unfolding with_record
  record-beyond b t h l long wide = record {
    records = put-past b.records b.terms t 1024 long wide l ∙ h.records;
    literals = drop-set-lt 1024 b.literals b.terms t.literal l ∙ h.literals;
    names = h.names;
  }

  room-symbols : ltb s.symbols (symbol_room s) ≡ true → (s.symbols < 128) × (entries_length s.symbols ≤ length s.names)
  unfolding symbol_room
  room-symbols e =
      let l : s.symbols < min 128 (entry_room (length s.names)) =
      ltb-true s.symbols (min 128 (entry_room (length s.names))) e in
      (omega arith, omega arith)

  room-terms : ltb s.terms (term_room s) ≡ true → (s.terms < 1024) × (records_length s.terms ≤ length s.records)
  unfolding term_room
  room-terms e =
      let room : ℕ = min 1024 (min (record_room (length s.records)) (length s.literals)) in
      let l : s.terms < room = ltb-true s.terms room e in
      (omega arith, omega arith)

  put-beyond :
      (name : List ℕ) →
      ltb s.symbols (symbol_room s) ≡ true →
      drop (entries_length 128) (put_name s.names s.symbols name) ≡ drop (entries_length 128) s.names
  put-beyond name e =
      put_name-past s.names s.symbols name 128 (room-symbols e).1 (room-symbols e).0

  -- a record of the node, after its name
  named-beyond :
      (name : List ℕ) (t : Term) →
      room_for_name s name ≡ true →
      ltb s.terms (term_room s) ≡ true →
      8 ≤ length t.children →
      Same s (with_record (with_name s name) t)
  unfolding room_for_name with_name
  named-beyond name t r e wide = by (find_symbol s name) r
    where
      by :
          (f : Option ℕ) →
          elim f as (λ _. Bool) [ Some k ↦ true | None ↦ ltb s.symbols (symbol_room s) ] ≡ true →
          Same s
          (with_record
          (elim f as (λ _. Store) [
            | Some k ↦ s
            | None ↦ store s.records s.literals (put_name s.names s.symbols name)
                s.terms (s.symbols + 1)
          ])
          t)
      by (Some k) r =
          record-beyond s t (record { records = refl; literals = refl; names = refl }) (room-terms e).0
          (room-terms e).1 wide
      by None r =
          record-beyond (store s.records s.literals (put_name s.names s.symbols name)
          s.terms (s.symbols + 1)) t
          (record { records = refl; literals = refl; names = put-beyond name r }) (room-terms e).0
          (room-terms e).1 wide

  append-beyond : (node : Node) → room_for s node ≡ true → Same s (append s node)
  unfolding room_for append record_of
  append-beyond (literal z) r =
      record-beyond s (record_of 0 (literal z))
      (record { records = refl; literals = refl; names = refl }) (room-terms r).0
      (room-terms r).1 (omega arith)
  append-beyond (variable n) r =
      named-beyond n (record_of (symbol_for s n) (variable n)) (and_second (ltb s.terms (term_room s)) _ r)
      (and_first (ltb s.terms (term_room s)) _ r) (omega arith)
  append-beyond (application n ks) r =
      named-beyond n (record_of (symbol_for s n) (application n ks)) (and_second (ltb s.terms (term_room s)) _ r)
      (and_first (ltb s.terms (term_room s)) _ r) (simp (length-append, length-replicate) (omega arith))

  abbrev SameAfter : Adds → Type 0
  SameAfter (at t s') = Same s s'
  SameAfter no_room = Unit

  room-beyond :
      (node : Node) (b : Bool) →
      room_for s node ≡ b →
      SameAfter (elim b as (λ _. Adds) [ true ↦ at s.terms (append s node) | false ↦ no_room ])
  room-beyond node true e = append-beyond node e
  room-beyond node false e = tt

  found-beyond :
      (node : Node) (f : Option ℕ) →
      SameAfter
      (elim f as (λ _. Adds) [
        | Some i ↦ at i s
        | None ↦ elim (room_for s node) [ true ↦ at s.terms (append s node) | false ↦ no_room ]
      ])
  found-beyond node (Some i) = record { records = refl; literals = refl; names = refl }
  found-beyond node None = room-beyond node (room_for s node) refl

  pub add-beyond : (node : Node) (t : ℕ) (s' : Store) → add s node ≡ at t s' → Same s s'
  unfolding add
  add-beyond node t s' e = subst SameAfter e (found-beyond node (find_term s node))
