-- Building in a store that has no room for the last term, by computing: Num(5) is class 0, Add(0, 0) class 1, Add(1, 1)
-- class 2. Assumes nothing.
use Prim.Native.Nat.{ℕ}
use mathlib.Core.Path.{◌≡◌, refl}
use mathlib.Core.List.{List, [], ◌∷◌, ◌++◌}
use lib.ListN.{replicate}
use lib.IntN.{pos}
use Rattle.name.specs.Name.{same}
use Rattle.name.specs.Entries.{name_at, entry, put_name, find_from, find_name}
use Rattle.term_rules.specs.Lent.{Store, store, record_in, term_room, symbol_room, by_kind, records_length}
use Rattle.term_rules.specs.WellFormed.{same_int}
use Rattle.term_rules.specs.Nodes.{node_of, node_at, same_node, record_of}
use Rattle.term_rules.specs.Adding.{first_from, find_term, symbol_for, with_name, with_record, append, room_for_name, room_for, add}
use Rattle.build.specs.Plan.{child_of, plan_of}
use Rattle.build.specs.Building.{added, kept, child_in, children_in, own_in, build_in}
use Rattle.build.specs.Whole.{left, whole}
use Rattle.std.specs.Prelude.{None}

-- `Num` is function 0, `Add` function 1
abbrev labels : List ℕ
labels = entry (78 ∷ 117 ∷ 109 ∷ []) ++ entry (65 ∷ 100 ∷ 100 ∷ [])

-- the rows in scan order, each row of the file in its place, and the edges of classes 0, 1 and 2
abbrev rows : List ℕ
rows =
    (0 ∷ 0 ∷ 0 ∷ 1 ∷ 512 ∷ replicate 7 0) ++ (1 ∷ 1 ∷ 1 ∷ 2 ∷ 0 ∷ 0 ∷ replicate 6 0)
    ++ (2 ∷ 1 ∷ 2 ∷ 2 ∷ 1 ∷ 1 ∷ replicate 6 0)

abbrev edges : List ℕ
edges = 0 ∷ 1 ∷ 2 ∷ []

-- an empty store with room for n terms and two names
abbrev empty : ℕ → Store
empty n = store (replicate (records_length n) 0) (replicate n (pos 0)) (replicate 64 0) 0 0

-- three places are one too few
no_room : (whole (plan_of rows edges labels (pos 5 ∷ [])) 3 (empty 3) 2).answer ≡ None
unfolding whole left build_in own_in children_in child_in kept added add room_for room_for_name append with_record with_name
    symbol_for find_term first_from record_of same_node node_at node_of same_int by_kind symbol_room term_room record_in find_name
    find_from put_name entry name_at same child_of
no_room = refl
