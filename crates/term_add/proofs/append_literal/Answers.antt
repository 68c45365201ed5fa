-- `term_add::append_literal` meets its contract. If there is room, the record is written. Assumes nothing.
use mathlib.Core.Path.{sym, ◌∙◌}
use lib.ListN.{length}
use borrow.Author.Tests.{not-true, not-false}
use mir.Syntax.{w64}
use mir.ValLaws.{to_z-of_z}
use Rattle.term_add.proofs.AppendLaws.{room-get, literal-full, literal-put}
use native.Mathlib.Omega.{arith}
use Rattle.term_add.proofs.append_literal.Goals as goal

pub returns-then-not-has_room : goal.returns-then-not-has_room
returns-then-not-has_room c =
    let g = c.args in
    literal-full g.records.now g.literals.now g.names.now g.terms g.symbols g.literal
    (sym c.has_room.ensures ∙ not-true _ c.if-not-has_room.true-raw)

pub put_record-requires : goal.put_record-requires
put_record-requires c =
    let g = c.args in
    let r = room-get (length g.records.now) (length g.literals.now) g.terms
    (sym c.has_room.ensures ∙ not-false _
    c.if-not-has_room.false-raw) in
    record {
      in_records = record { numbers = omega (arith, r.1); literal = r.2 };
      children_len_bound = omega arith;
    }

pub overflow_add-result : goal.overflow_add-result
overflow_add-result c =
    let g = c.args in
    omega (
      arith,
      (room-get (length g.records.now) (length
          g.literals.now) g.terms
          (sym c.has_room.ensures ∙ not-false _
          c.if-not-has_room.false-raw)).0,
    )

pub returns : goal.returns
returns c =
    let g = c.args in
    literal-put g.records.now g.literals.now g.names.now g.terms g.symbols g.literal _ _
    (sym c.has_room.ensures ∙ not-false _
    c.if-not-has_room.false-raw)
    c.put_record.ensures.records_after
    (rw (to_z-of_z w64 g.literal
    c.ranges.literal) at c.put_record.ensures.literals_after)
