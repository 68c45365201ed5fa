-- A list of three adds by computing: the literal 5, the variable `x`, and `f` of both, which names the adds before it.
-- Assumes nothing.
use Prim.Native.Nat.{ℕ}
use mathlib.Core.Path.{◌≡◌, refl}
use mathlib.Core.List.{List, [], ◌∷◌, ◌++◌}
use lib.ListN.{replicate}
use lib.IntN.{pos}
use Rattle.name.specs.Name.{allowed, all_allowed, valid, same}
use Rattle.name.specs.Entries.{entries_length, name_at, entry, put_name, find_from, find_name}
use Rattle.term_rules.specs.Lent.{
  Store,
  store,
  numbers,
  records_length,
  record_in,
  term_room,
  symbol_room,
  by_kind,
}
use Rattle.term_rules.specs.WellFormed.{
  every,
  all_zero,
  all_below,
  same_int,
  sound_name,
  sound_literal,
  sound_variable,
  sound_application,
  sound_record,
  same_term,
  new_name,
  new_term,
  well_formed,
}
use Rattle.term_rules.specs.Nodes.{literal, variable, application, node_of, node_at, same_node, record_of}
use Rattle.term_rules.specs.Adding.{
  first_from,
  find_term,
  symbol_for,
  with_name,
  with_record,
  append,
  room_for_name,
  room_for,
  add,
}
use Rattle.term.specs.Answers.{refused}
use Rattle.term.specs.Calls.{
  unless,
  literal_faults,
  variable_faults,
  application_faults,
  added,
  adding,
  add_literal,
  add_variable,
  add_application,
}
use Rattle.term_one.specs.Wanted.{Wanted, wanted, valued, named, kids_of, asked_at, child_number, settled}
use Rattle.term_one.specs.One.{single, add_one}
use Rattle.term_many.specs.Many.{add_from, left, add_many}

-- the third add is `f` of these children
abbrev three : List ℕ → Wanted
three ks =
    wanted
    (numbers (record_of 0 (literal (pos 5))) ++ numbers (record_of 0 (variable []))
    ++ numbers (record_of 1 (application [] ks)))
    (pos 5 ∷ []) (entry (120 ∷ []) ++ entry (102 ∷ []))

-- an empty store with room for n terms and two names
abbrev empty : ℕ → Store
empty n = store (replicate (records_length n) 0) (replicate n (pos 0)) (replicate (entries_length 2) 0) 0 0

-- all three are added, and the rest of the list for the numbers stays
all_three : (add_many (three (1024 ∷ 1025 ∷ [])) (empty 3) (9 ∷ 9 ∷ 9 ∷ 9 ∷ [])).numbers ≡ 0 ∷ 1 ∷ 2 ∷ 9 ∷ []
unfolding add_many left add_from add_one single settled child_number asked_at valued named kids_of add_literal add_variable
    add_application adding added literal_faults variable_faults application_faults unless well_formed every all_zero all_below
    same_int sound_name sound_literal sound_variable sound_application sound_record same_term new_name new_term valid all_allowed
    allowed same add room_for room_for_name append with_record with_name symbol_for find_term first_from record_of same_node
    node_at node_of by_kind symbol_room term_room record_in find_name find_from put_name entry name_at
all_three = refl

-- two places are one too few: the store is as it was
no_room :
    add_many (three (1024 ∷ 1025 ∷ [])) (empty 2) (9 ∷ 9 ∷ 9 ∷ [])
    ≡ record { answer = refused 13; lent = empty 2; numbers = 9 ∷ 9 ∷ 9 ∷ [] }
unfolding add_many left add_from add_one single settled child_number asked_at valued named kids_of add_literal add_variable
    add_application adding added literal_faults variable_faults application_faults unless well_formed every all_zero all_below
    same_int sound_name sound_literal sound_variable sound_application sound_record same_term new_name new_term valid all_allowed
    allowed same add room_for room_for_name append with_record with_name symbol_for find_term first_from record_of same_node
    node_at node_of by_kind symbol_room term_room record_in find_name find_from put_name entry name_at
no_room = refl

-- an add that names itself is BadTerm
names-itself : (add_many (three (1024 ∷ 1026 ∷ [])) (empty 3) (9 ∷ 9 ∷ 9 ∷ [])).answer ≡ refused 14
unfolding add_many left add_from add_one single settled child_number asked_at valued named kids_of add_literal add_variable
    add_application adding added literal_faults variable_faults application_faults unless well_formed every all_zero all_below
    same_int sound_name sound_literal sound_variable sound_application sound_record same_term new_name new_term valid all_allowed
    allowed same add room_for room_for_name append with_record with_name symbol_for find_term first_from record_of same_node
    node_at node_of by_kind symbol_room term_room record_in find_name find_from put_name entry name_at
names-itself = refl
