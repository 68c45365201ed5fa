-- `term_add::find_record` meets its contract. The records are passed in order. Assumes nothing.
use mathlib.Core.Path.{sym, ◌∙◌}
use mir.Syntax.{w64}
use mir.Val.{of_z, to_z}
use mir.ValLaws.{to_z-of_z}
use Rattle.term_rules.proofs.SearchLaws.{first-here, first_more, first-end, first-start}
use Rattle.term_add.specs.Interning.{has_at}
use native.Mathlib.Omega.{arith}
use Rattle.term_rules.proofs.FactsLaws.{sound-of-well_formed}
use Rattle.term_layout.specs.Sound.{store_of}
use Rattle.term_add.proofs.find_record.Goals as goal

pub loop-i-init : goal.loop-i-init
loop-i-init c =
    let g = c.args in
    first-start (has_at g.store.now.records.now g.store.now.literals.now g.kind g.symbol
    (to_z w64 (of_z w64 g.literal)) g.children.now) g.store.now.terms

pub returns-then-is_record : goal.returns-then-is_record
returns-then-is_record c =
    let g = c.args in
    let l = c.loop-i in
    let p =
    has_at g.store.now.records.now g.store.now.literals.now g.kind g.symbol (to_z w64 (of_z w64 g.literal))
    g.children.now in
    let found =
    sym (first-here p l.i g.store.now.terms (omega arith) (sym c.is_record.ensures ∙ c.if-is_record.true))
    ∙ l.invariant in
    rw (to_z-of_z w64 g.literal c.ranges.literal) at found

pub loop-i-preserved : goal.loop-i-preserved
loop-i-preserved c =
    let g = c.args in
    let l = c.loop-i in
    let p =
    has_at g.store.now.records.now g.store.now.literals.now g.kind g.symbol (to_z w64 (of_z w64 g.literal))
    g.children.now in
    first_more p l.i g.store.now.terms (omega arith) (sym c.is_record.ensures ∙
    c.if-is_record.false) ∙ l.invariant

pub returns : goal.returns
returns c =
    let g = c.args in
    let l = c.loop-i in
    let p =
    has_at g.store.now.records.now g.store.now.literals.now g.kind g.symbol (to_z w64 (of_z w64 g.literal))
    g.children.now in
    let found = sym (first-end p l.i g.store.now.terms (omega arith)) ∙ l.invariant in
    rw (to_z-of_z w64 g.literal c.ranges.literal) at found

pub is_record-requires : goal.is_record-requires
is_record-requires c =
    let w = sound-of-well_formed (store_of c.args.store.now) c.args.store.now.sound in
    record {
      in_records = record { numbers = omega (arith, w.records_long); literal = omega (arith, w.literals_long) };
      children_len_bound = c.requires;
    }
