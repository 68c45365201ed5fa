-- `term_one::label_of` meets its contract. The name's entry is checked, then its name is read. Assumes nothing.
use Prim.Native.Nat.{ℕ, ◌≤◌, ◌<◌}
use mathlib.Core.Path.{◌≡◌, sym, ap, ◌∙◌}
use mathlib.Core.List.{List}
use lib.ListN.{length}
use Rattle.name.specs.Entries.{entry_room, length_at, name_at}
use Rattle.term_rules.specs.Lent.{symbol_no}
use Rattle.term_one.specs.Wanted.{node}
use Rattle.term_one.proofs.AskedLaws.{named-short, named-long, named-node}
use Rattle.term_one.proofs.label_of.Goals as goal

pub returns-then-entry_room-k : goal.returns-then-entry_room-k
returns-then-entry_room-k c =
    let g = c.args in
    let h : entry_room (length g.list.now.labels.now) ≤ symbol_no g.list.now.adds.now g.e =
    rw (c.entry_room.ensures, c.symbol_of-k.ensures) at c.if-entry_room-k.true in
    λ make. named-short g.list.now.labels.now (symbol_no g.list.now.adds.now g.e) make h

pub returns-then-length_of-gt31 : goal.returns-then-length_of-gt31
returns-then-length_of-gt31 c =
    let g = c.args in
    let h : symbol_no g.list.now.adds.now g.e < entry_room (length g.list.now.labels.now) =
    rw (c.entry_room.ensures, c.symbol_of-k.ensures) at c.if-entry_room-k.false in
    let l : 31 < length_at g.list.now.labels.now (symbol_no g.list.now.adds.now g.e) =
    rw (c.length_of.ensures, c.symbol_of-k.ensures) at c.if-length_of-gt31.true in
    λ make. named-long g.list.now.labels.now (symbol_no g.list.now.adds.now g.e) make h l

pub returns : goal.returns
returns c =
    let g = c.args in
    let h : symbol_no g.list.now.adds.now g.e < entry_room (length g.list.now.labels.now) =
    rw (c.entry_room.ensures, c.symbol_of-k.ensures) at c.if-entry_room-k.false in
    let l : length_at g.list.now.labels.now (symbol_no g.list.now.adds.now g.e) ≤ 31 =
    rw (c.length_of.ensures, c.symbol_of-k.ensures) at c.if-length_of-gt31.false in
    let n : c.name_of.result.now ≡ name_at g.list.now.labels.now (symbol_no g.list.now.adds.now g.e) =
    c.name_of.ensures ∙ ap (name_at g.list.now.labels.now) c.symbol_of-k.ensures in
    λ make.
    named-node g.list.now.labels.now (symbol_no g.list.now.adds.now g.e) make h l
    ∙ sym (ap (λ (x : List ℕ). node (make x)) n)
