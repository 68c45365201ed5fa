-- `term_many::add_many` meets its contract. Where an add is refused, the three lists are put back from what was saved:
-- past the saved places nothing can have changed. Assumes nothing.
use Prim.Native.Nat.{ℕ, min}
use mathlib.Core.Path.{◌≡◌, sym, ap, ◌∙◌}
use mathlib.Core.Bool.{Bool}
use native.Mathlib.Omega.{arith}
use lib.IntN.{pos}
use lib.ListN.{length, length-replicate}
use lib.Seq.{length-take-le}
use Rattle.name.specs.Entries.{table_length}
use Rattle.copies.proofs.CopiedLaws.{saved-back}
use Rattle.term_rules.specs.Lent.{Store, records_length}
use Rattle.term_rules.specs.WellFormed.{well_formed}
use Rattle.term_add.specs.Held.{held}
use Rattle.term_one.specs.Wanted.{wanted_of}
use Rattle.term_many.proofs.ManyLaws.{many-bad, many-refused, many-places, many-added}
use Rattle.term_many.proofs.add_many.Goals as goal

-- what was found of the store that was read
read-as : {b v : Bool} {t u : Store} → b ≡ well_formed t → t ≡ u → b ≡ v → well_formed u ≡ v
read-as e d h = sym (e ∙ ap well_formed d) ∙ h

pub returns-then-not-check-clause-added : goal.returns-then-not-check-clause-added
returns-then-not-check-clause-added c =
    let g = c.args in
    many-bad (wanted_of g.list.now) (held g.store.now) g.numbers.now
    (read-as c.check.ensures c.lent-old.ensures c.if-not-check.true)

pub slice_bounds-got-end : goal.slice_bounds-got-end
slice_bounds-got-end c =
    let g = c.args in
    let b = c.add_all-r in
    let fit : c.min-room.result ≡ min 1024 (length g.numbers.now) = omega (arith, c.min-room.ensures) in
    let made = rw fit at c.in-Ok.ensures.made in
    let places =
    many-places (wanted_of g.list.now) (held g.store.now) g.numbers.now
    (read-as c.check.ensures c.lent-old.ensures c.if-not-check.false) _ _ made.same in
    omega (
      arith,
      places,
      c.record_room-count.ensures,
      b.auto.got,
      length-replicate {A = ℕ} 1024 0,
    )

pub slice_bounds-over-end-in-Ok : goal.slice_bounds-over-end-in-Ok
slice_bounds-over-end-in-Ok c =
    let g = c.args in
    let b = c.add_all-r in
    let fit : c.min-room.result ≡ min 1024 (length g.numbers.now) = omega (arith, c.min-room.ensures) in
    let made = rw fit at c.in-Ok.ensures.made in
    let places =
    many-places (wanted_of g.list.now) (held g.store.now) g.numbers.now
    (read-as c.check.ensures c.lent-old.ensures c.if-not-check.false) _ _ made.same in
    sym (length-take-le c.record_room-count.result b.new.got (omega (
      arith,
      places,
      c.record_room-count.ensures,
      b.auto.got,
      length-replicate {A = ℕ} 1024 0,
    )))

pub returns-in-Err-clause-added : goal.returns-in-Err-clause-added
returns-in-Err-clause-added c =
    let g = c.args in
    let s = g.store.now in
    let b = c.add_all-r.new.store in
    let fit : c.min-room.result ≡ min 1024 (length g.numbers.now) = omega (arith, c.min-room.ensures) in
    let made = rw fit at c.in-Err.ensures.made in
    let er =
    rw (c.over.ensures, ap (λ (x : Store). x.records) c.lent-old.ensures) at c.over-in-Err.ensures
    ∙ saved-back (records_length 1024) 0 s.records.now b.records.now made.long.records made.beyond.records in
    let el =
    rw (c.over-2.ensures, ap (λ (x : Store). x.literals) c.lent-old.ensures) at c.over-in-Err-2.ensures
    ∙ saved-back 1024 (pos 0) s.literals.now b.literals.now made.long.literals made.beyond.literals in
    let en =
    rw (c.over-3.ensures, ap (λ (x : Store). x.names) c.lent-old.ensures) at c.over-in-Err-3.ensures
    ∙ saved-back table_length 0 s.names.now b.names.now made.long.names made.beyond.names in
    many-refused (wanted_of g.list.now) (held s) g.numbers.now
    (read-as c.check.ensures c.lent-old.ensures c.if-not-check.false) c.in-Err.why made.same _ _ _ er el en

pub returns-in-Ok-clause-added : goal.returns-in-Ok-clause-added
returns-in-Ok-clause-added c =
    let g = c.args in
    let b = c.add_all-r in
    let fit : c.min-room.result ≡ min 1024 (length g.numbers.now) = omega (arith, c.min-room.ensures) in
    let made = rw fit at c.in-Ok.ensures.made in
    many-added (wanted_of g.list.now) (held g.store.now) g.numbers.now
    (read-as c.check.ensures c.lent-old.ensures c.if-not-check.false) _ _ made.same
    c.record_room-count.result _ c.record_room-count.ensures c.over-in-Ok.ensures
