-- `term_record::is_sound_name` meets its contract. Each test is one of the definition. Assumes nothing.
use mathlib.Core.Path.{sym, ◌∙◌}
use borrow.Author.Tests.{not-true, not-false}
use Rattle.std.proofs.Common.{rules, tests}
use Rattle.std.proofs.lemmas.Iterator.{YieldsList-from_slice}
use Rattle.std.proofs.lemmas.Iterator.Search.{all_from_yields_List}
use Rattle.name.specs.Entries.{padding_at}
use Rattle.term_record.proofs.WalkLaws.{all_zero-all}
use Rattle.term_record.proofs.CheckLaws.{name-long-refuses, name-bad-refuses, name-rest}
use native.Mathlib.Omega.{arith}
use Rattle.term_record.proofs.is_sound_name.Goals as goal

pub returns-then-length_of-gt31 : goal.returns-then-length_of-gt31
returns-then-length_of-gt31 c =
    let g = c.args in
    sym (name-long-refuses g.names.now g.k (omega (arith, c.if-length_of-gt31.true, c.length_of.ensures)))

pub name_of-requires : goal.name_of-requires
name_of-requires c =
    record { long = c.requires; short = omega (arith, c.if-length_of-gt31.false, c.length_of.ensures) }

pub returns-then-not-is_valid : goal.returns-then-not-is_valid
returns-then-not-is_valid c =
    let g = c.args in
    sym
    (name-bad-refuses g.names.now g.k (omega (arith, c.if-length_of-gt31.false, c.length_of.ensures))
    (sym ((rw c.name_of.ensures at c.is_valid.ensures)) ∙ not-true _ c.if-not-is_valid.true-raw))

pub padding_of-requires : goal.padding_of-requires
padding_of-requires c =
    record { long = c.requires; short = omega (arith, c.if-length_of-gt31.false, c.length_of.ensures) }

pub returns : goal.returns
returns c =
    let g = c.args in
    all_from_yields_List _ _ _ _ c.all.ensures.ran (YieldsList-from_slice (padding_at g.names.now g.k) (c.iter.ensures.rest ∙ c.padding_of.ensures))
    (λ x b q k. search (rules, tests))
    ∙ all_zero-all (padding_at g.names.now g.k)
    ∙ name-rest g.names.now g.k (omega (arith, c.if-length_of-gt31.false, c.length_of.ensures))
    (sym ((rw c.name_of.ensures at c.is_valid.ensures)) ∙ not-false _ c.if-not-is_valid.false-raw)
