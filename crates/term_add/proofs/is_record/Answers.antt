-- `term_add::is_record` meets its contract. Part by part. Assumes nothing.
use mathlib.Core.Path.{sym, ◌∙◌}
use lib.ListN.{get_or}
use lib.IntN.{pos}
use Rattle.term_rules.proofs.SignLaws.{bits-same, bits-apart}
use Rattle.name.proofs.NameLaws.{same-eq}
use Rattle.term_add.proofs.MatchLaws.{kind-refuses, symbol-refuses, count-refuses, literal-refuses, children-rest}
use native.Mathlib.Omega.{arith}
use Rattle.term_add.proofs.is_record.Goals as goal

pub returns-then-kind_of-kind : goal.returns-then-kind_of-kind
returns-then-kind_of-kind c =
    let g = c.args in
    sym
    (kind-refuses g.records.now g.literals.now g.i g.kind g.symbol g.literal g.children.now
    (λ e. c.if-kind_of-kind.true (c.kind_of.ensures ∙ e)))

pub returns-then-symbol_of-symbol : goal.returns-then-symbol_of-symbol
returns-then-symbol_of-symbol c =
    let g = c.args in
    sym
    (symbol-refuses g.records.now g.literals.now g.i g.kind g.symbol g.literal g.children.now
    (sym c.kind_of.ensures ∙ c.if-kind_of-kind.false) (λ e. c.if-symbol_of-symbol.true (c.symbol_of.ensures ∙ e)))

pub returns-then-count_of-children : goal.returns-then-count_of-children
returns-then-count_of-children c =
    let g = c.args in
    sym
    (count-refuses g.records.now g.literals.now g.i g.kind g.symbol g.literal g.children.now
    (sym c.kind_of.ensures ∙ c.if-kind_of-kind.false) (sym c.symbol_of.ensures ∙ c.if-symbol_of-symbol.false) (λ e. c.if-count_of-children.true (c.count_of.ensures ∙ e)))

pub returns-then-literals-i : goal.returns-then-literals-i
returns-then-literals-i c =
    let g = c.args in
    sym
    (literal-refuses g.records.now g.literals.now g.i g.kind g.symbol g.literal g.children.now
    (sym c.kind_of.ensures ∙ c.if-kind_of-kind.false) (sym c.symbol_of.ensures ∙ c.if-symbol_of-symbol.false)
    (sym c.count_of.ensures ∙ c.if-count_of-children.false)
    (bits-apart (get_or g.literals.now g.i (pos 0)) g.literal c.if-literals-i.true))

pub children_of-requires : goal.children_of-requires
children_of-requires c =
    record {
      has_record = c.requires.in_records.numbers;
      i_bound = omega (arith, c.if-count_of-children.false, c.count_of.ensures, c.requires.children_len_bound);
    }

pub returns : goal.returns
returns c =
    let g = c.args in
    let e =
    bits-same (get_or g.literals.now g.i (pos 0)) g.literal
    (record { sfits = c.t14-1.given })
    c.ranges.literal
    c.if-literals-i.false in
    rw c.children_of.ensures at (c.eq.ensures ∙ same-eq c.children_of.result.now g.children.now)
    ∙ children-rest g.records.now g.literals.now g.i g.kind g.symbol g.literal g.children.now
    (sym c.kind_of.ensures ∙ c.if-kind_of-kind.false)
    (sym c.symbol_of.ensures ∙ c.if-symbol_of-symbol.false) (sym c.count_of.ensures ∙ c.if-count_of-children.false)
    e
