-- What a list of adds promises: it equals the adds made one by one, all or nothing. R-term-18 of docs/RULES.md. Assumes
-- nothing: a record, with one field for each theorem.
use Rattle.std.specs.Prelude.{ℕ, ◌≤◌, ◌<◌, ◌≡◌, true, false, List, [], ◌∷◌, ◌++◌, map, ◌↔◌, ◌⊎◌}
use Rattle.std.specs.Prelude.{pos, length, get_or, take, drop, Result}
use Rattle.name.specs.Entries.{entry_room, length_at, name_at}
use Rattle.refusal.specs.declared.Refusal.{Refusal}
use Rattle.term_rules.specs.Lent.{Store, kind_at, symbol_no}
use Rattle.term_rules.specs.WellFormed.{well_formed}
use Rattle.term_rules.specs.Nodes.{Node, literal, variable, application}
use Rattle.term_rules.specs.Growing.{Grows}
use Rattle.term.specs.Answers.{given, refused}
use Rattle.term.specs.Orders.{Telling, never, must, Refuses}
use Rattle.term.specs.Outcomes.{IsTerm, There, Room, asks_literal, asks_variable, asks_application}
use Rattle.term_one.specs.Wanted.{Wanted, add_count, node, kids_of, asked_at, child_number, settled}
use Rattle.term_one.specs.One.{single, add_one}
use Rattle.term_many.specs.Many.{number_room, add_many, seen_many}

-- Adds were made one by one, from store s on: they got these numbers, and the last left store t.
pub data OneByOne (w : Wanted) (s : Store) : List ℕ → Store → Type 0 where
  none : {got : List ℕ} {t : Store} → got ≡ [] → t ≡ s → OneByOne w s got t
  more :
      {got : List ℕ} {t : Store} (before : List ℕ) (u : Store) (i : ℕ) →
      OneByOne w s before u →
      add_one u before (asked_at w (length before)) ≡ (given i, t) →
      got ≡ before ++ (i ∷ []) →
      OneByOne w s got t

-- Number k stops the next add: it is the add's own refusal, or NoRoom where its number has no place.
pub data Stops (w : Wanted) (room : ℕ) (t : Store) (got : List ℕ) (k : ℕ) : Type 0 where
  own : (add_one t got (asked_at w (length got))).0 ≡ refused k → Stops w room t got k
  no_place :
      (i : ℕ) →
      (add_one t got (asked_at w (length got))).0 ≡ given i →
      room ≤ length got →
      k ≡ 13 →
      Stops w room t got k

-- "The first add in order that has a fault decides": the adds before it got their numbers, and places for them.
pub record FirstFault (w : Wanted) (s : Store) (room k : ℕ) : Type 0 where
  pub got : List ℕ
  pub at : Store
  pub before : OneByOne w s got at
  pub places : length got ≤ room
  pub one : length got < add_count w
  pub stops : Stops w room at got k

-- All adds made one by one got numbers, and these have places.
pub record AllMade (w : Wanted) (s : Store) (room : ℕ) (got : List ℕ) (t : Store) : Type 0 where
  pub made : OneByOne w s got t
  pub all : length got ≡ add_count w
  pub places : add_count w ≤ room

-- What is asked of add e on store t, in its order: a known kind, else 8; its literal or its name's entry in the lent
-- lists, else 1; a length that a name may have, else 4; and then all that the store's own call asks.
abbrev pub room_for : Store → Node → Telling
room_for t a = must (There t a ⊎ Room t a) 13 never

abbrev pub asks_value : Wanted → Store → ℕ → Telling
asks_value w t e =
    must (e < length w.values) 1 (asks_literal t (room_for t (literal (get_or w.values e (pos 0)))))

abbrev pub asks_label : Wanted → ℕ → (List ℕ → Telling) → Telling
asks_label w k rest =
    must (k < entry_room (length w.labels)) 1
    (must (length_at w.labels k ≤ 31) 4
    (rest (name_at w.labels k)))

abbrev pub asks_named : Store → List ℕ → Telling
asks_named t n = asks_variable t n (room_for t (variable n))

abbrev pub asks_applied : Store → List ℕ → List ℕ → Telling
asks_applied t ks n = asks_application t n ks (room_for t (application n ks))

abbrev pub asks_by_kind : Wanted → Store → List ℕ → ℕ → Telling
asks_by_kind w t got e k =
    ((kind_at w.adds e ≡ 0) × asks_value w t e k)
    ⊎ (((kind_at w.adds e ≡ 1) × asks_label w (symbol_no w.adds e) (asks_named t) k)
    ⊎ ((kind_at w.adds e ≡ 2)
    × asks_label w (symbol_no w.adds e) (asks_applied t (map (child_number got) (kids_of w.adds e))) k))

abbrev pub asks_add : Wanted → Store → List ℕ → ℕ → Telling
asks_add w t got e = must (kind_at w.adds e ≤ 2) 8 (asks_by_kind w t got e)

-- Add e stands in the store under number i: the node that it asks for, with the numbers that earlier adds got.
pub record Stands (w : Wanted) (t : Store) (got : List ℕ) (e : ℕ) : Type 0 where
  pub asked : Node
  pub is : asked_at w e ≡ node asked
  pub stands : IsTerm t (settled (take e got) asked) (get_or got e 0)

pub record Promises : Type 0 where
  -- BadStore exactly where the store is not well formed; it comes first.
  pub bad_store :
      (w : Wanted) (s : Store) (out : List ℕ) → ((add_many w s out).answer ≡ refused 17) ↔ (well_formed s ≡ false)
  -- In a well-formed store, number k exactly where it is that of the first add with a fault,
  pub refusals :
      (w : Wanted) (s : Store) (out : List ℕ) (k : ℕ) →
      well_formed s ≡ true →
      ((add_many w s out).answer ≡ refused k) ↔ FirstFault w s (number_room out) k
  -- each of which comes exactly when, in the order of its add,
  pub each_refusal :
      (w : Wanted) (t : Store) (got : List ℕ) (e : ℕ) →
      Refuses (add_one t got (asked_at w e)).0 (asks_add w t got e)
  -- and nothing lent is changed by it.
  pub unchanged :
      (w : Wanted) (s : Store) (out : List ℕ) (k : ℕ) →
      (add_many w s out).answer ≡ refused k →
      ((add_many w s out).lent ≡ s) × ((add_many w s out).numbers ≡ out)
  -- "The call equals the adds .. made one by one": where all of them get numbers and places, the call gives these
  -- numbers and leaves the last store; the rest of the list stays,
  pub one_by_one :
      (w : Wanted) (s : Store) (out got : List ℕ) (t : Store) →
      well_formed s ≡ true →
      AllMade w s (number_room out) got t →
      add_many w s out ≡ record { answer = given tt; lent = t; numbers = got ++ drop (add_count w) out }
  -- and where it gives numbers, they are those of the adds made one by one.
  pub made_so :
      (w : Wanted) (s : Store) (out : List ℕ) →
      (add_many w s out).answer ≡ given tt →
      AllMade w s (number_room out) (take (add_count w) (add_many w s out).numbers) (add_many w s out).lent
  -- What was there stays, and each number is that of its add's term.
  pub grows :
      (w : Wanted) (s : Store) (out : List ℕ) →
      (add_many w s out).answer ≡ given tt →
      Grows s (add_many w s out).lent
  pub stands :
      (w : Wanted) (s : Store) (out : List ℕ) (e : ℕ) →
      (add_many w s out).answer ≡ given tt →
      e < add_count w →
      Stands w (add_many w s out).lent (add_many w s out).numbers e
  -- A list of one add is the store's own call.
  pub one_given :
      (w : Wanted) (s t : Store) (out : List ℕ) (a : Node) (i : ℕ) →
      add_count w ≡ 1 →
      asked_at w 0 ≡ node a →
      1 ≤ length out →
      single s (settled [] a) ≡ (given i, t) →
      add_many w s out ≡ record { answer = given tt; lent = t; numbers = i ∷ drop 1 out }
  pub one_refused :
      (w : Wanted) (s t : Store) (out : List ℕ) (a : Node) (k : ℕ) →
      add_count w ≡ 1 →
      asked_at w 0 ≡ node a →
      single s (settled [] a) ≡ (refused k, t) →
      add_many w s out ≡ record { answer = refused k; lent = s; numbers = out }
  -- The answer, the store and the list that are left are determined: what is seen the same is the same.
  pub determined :
      (r r' : Result Unit Refusal) (t t' : Store) (out out' : List ℕ) →
      seen_many r t out ≡ seen_many r' t' out' →
      (r ≡ r') × (t ≡ t') × (out ≡ out')
