-- A list of adds as it is lent, and what each of its adds asks for: R-term-18 of docs/RULES.md. Assumes nothing: these
-- are definitions.
use Rattle.std.specs.Prelude.{ℕ, ◌-◌, true, false, List, ◌++◌, map, leb, ltb, ℤ, pos, length, get_or, take, replicate}
use Rattle.name.specs.Entries.{entry_room, length_at, name_at}
use Rattle.refusal.specs.declared.Refusal.{Refusal}
use Rattle.refusal.specs.declared.Refusal.TheVariants.{Short, BadName, BadValue}
use Rattle.term_rules.specs.Lent.{record_room, kind_at, symbol_no, arity_at, places_at, by_kind}
use Rattle.term_rules.specs.Nodes.{Node, literal, variable, application}
use Rattle.term_one.specs.declared.adds.Adds.{Adds}

-- "a record of the flat form for each add; .. its literal at place e; .. entries of names"
pub record Wanted : Type 0 where
  pub adds : List ℕ
  pub values : List ℤ
  pub labels : List ℕ

abbrev pub wanted : List ℕ → List ℤ → List ℕ → Wanted
wanted rs zs ns = record { adds = rs; values = zs; labels = ns }

-- the list that is lent
abbrev pub wanted_of : Adds → Wanted
wanted_of l = wanted l.adds.now l.values.now l.labels.now

-- "There are as many adds as `adds` has whole records."
abbrev pub add_count : Wanted → ℕ
add_count w = record_room (length w.adds)

-- what an add asks for: a literal, a variable or an application, with its children as the list tells them; or why it
-- asks for nothing
pub data Asked : Type 0 where
  node : Node → Asked
  fault : Refusal → Asked

-- "Short, if `values` ends before its literal"
unfoldable pub valued : List ℤ → ℕ → Asked
valued zs e = elim (ltb e (length zs)) [ true ↦ node (literal (get_or zs e (pos 0))) | false ↦ fault Short ]

-- what is made of the name at entry k: "Short, if .. `labels` [ends] before its name's entry; BadName, if the entry
-- tells a length over 31"
unfoldable pub named : List ℕ → ℕ → (List ℕ → Node) → Asked
named ns k make =
    elim (ltb k (entry_room (length ns))) [
      | true ↦ elim (leb (length_at ns k) 31) [ true ↦ node (make (name_at ns k)) | false ↦ fault BadName ]
      | false ↦ fault Short
    ]

-- the children of add e, as many as it counts. A record has eight places; what is counted past them is 0, and an add of
-- more than eight children is refused, whatever they are.
unfoldable pub kids_of : List ℕ → ℕ → List ℕ
kids_of rs e = take (arity_at rs e) (places_at rs e ++ replicate (arity_at rs e) 0)

-- add e, by its kind: "BadValue, if its kind is not below 3"
unfoldable pub asked_at : Wanted → ℕ → Asked
asked_at w e =
    by_kind (kind_at w.adds e)
    (valued w.values e)
    (named w.labels (symbol_no w.adds e) variable)
    (named w.labels (symbol_no w.adds e) (λ (n : List ℕ). application n (kids_of w.adds e)))
    (fault BadValue)

-- "A child below 1,024 is a term of the store at that moment; 1,024 + d is the number that add d got, an earlier one;
-- any other number is unknown": it stays, and is the number of no term, since a store has at most 1,024.
unfoldable pub child_number : List ℕ → ℕ → ℕ
child_number got x = elim (ltb x 1024) [ true ↦ x | false ↦ get_or got (x - 1024) x ]

-- the node with the numbers of its children, once the adds before got these
unfoldable pub settled : List ℕ → Node → Node
settled got (literal z) = literal z
settled got (variable n) = variable n
settled got (application n ks) = application n (map (child_number got) ks)
