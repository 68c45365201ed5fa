-- `file_reader::read_parts` meets its contract: the parts in order; a refusal is passed on. Assumes nothing.
use mathlib.Core.Path.{ap}
use native.Mathlib.Omega.{arith}
use Rattle.file_rules.specs.declared.Table.{Table}
use Rattle.file_rules.proofs.ReadingLaws.{reads-done, reads-not, counts-done, counts-not}
use Rattle.file_rules.proofs.TableLaws.{tight-of}
use Rattle.file_reader.proofs.SoundLaws.{sound-of}
use Rattle.file_reader.proofs.TableSteps.{take-kinds, kinds-length, kinds-few, version-near, sorts-near, literals-near, functions-near, table-stops-1, table-stops-2, table-stops-3, table-stops-4, table-stops-5, table-ends, functions-over, answers-got, answers-exit}
use Rattle.file_reader.proofs.read_parts.Goals as goal

pub returns-in_err-version : goal.returns-in_err-version
returns-in_err-version c =
    answers-exit _ c.from_residual.ensures.1 (table-stops-1 _ (reads-not c.read_version.ensures c.in_err-version.was))

pub read_sorts-requires-clause-at_bound : goal.read_sorts-requires-clause-at_bound
read_sorts-requires-clause-at_bound c =
    let v = reads-done c.read_version.ensures c.in_ok-version.was in
    omega (arith, version-near _ v)

pub returns-in_err-sorted : goal.returns-in_err-sorted
returns-in_err-sorted c =
    let v = reads-done c.read_version.ensures c.in_ok-version.was in
    answers-exit _ c.from_residual-in_err-sorted.ensures.1 (table-stops-2 _ v.is
    (counts-not c.read_sorts.ensures c.in_err-sorted.was))

pub read_literals-requires-clause-at_bound : goal.read_literals-requires-clause-at_bound
read_literals-requires-clause-at_bound c =
    let v = reads-done c.read_version.ensures c.in_ok-version.was in
    let s = counts-done c.read_sorts.ensures c.in_ok-sorted.was in
    omega (arith, version-near _ v, (sorts-near _ _ s.is).1)

pub returns-in_err-constants : goal.returns-in_err-constants
returns-in_err-constants c =
    let v = reads-done c.read_version.ensures c.in_ok-version.was in
    let s = counts-done c.read_sorts.ensures c.in_ok-sorted.was in
    answers-exit _ c.from_residual-in_err-constants.ensures.1 (table-stops-3 _ v.is s.is
    (counts-not c.read_literals.ensures c.in_err-constants.was))

pub read_functions-requires : goal.read_functions-requires
read_functions-requires c =
    let v = reads-done c.read_version.ensures c.in_ok-version.was in
    let s = counts-done c.read_sorts.ensures c.in_ok-sorted.was in
    let l = counts-done c.read_literals.ensures c.in_ok-constants.was in
    let n = sorts-near _ _ s.is in
    record {
      at_bound = omega (arith, version-near _ v, n.1, literals-near _ _ l.is);
      n_bound = (omega (arith, n.0, s.size), kinds-length s.has n.0);
      functions_value = ap (λ (x : Table). x.functions) c.requires;
    }

pub returns-in_err-symbols : goal.returns-in_err-symbols
returns-in_err-symbols c =
    let v = reads-done c.read_version.ensures c.in_ok-version.was in
    let s = counts-done c.read_sorts.ensures c.in_ok-sorted.was in
    let l = counts-done c.read_literals.ensures c.in_ok-constants.was in
    let k = take-kinds s.has s.size in
    answers-exit _ c.from_residual-in_err-symbols.ensures.1 (table-stops-4 _ v.is s.is l.is
    (rw k at (counts-not c.read_functions.ensures c.in_err-symbols.was)))

pub read_tail-requires : goal.read_tail-requires
read_tail-requires c =
    let v = reads-done c.read_version.ensures c.in_ok-version.was in
    let s = counts-done c.read_sorts.ensures c.in_ok-sorted.was in
    let l = counts-done c.read_literals.ensures c.in_ok-constants.was in
    let f = counts-done c.read_functions.ensures c.in_ok-symbols.was in
    let n = sorts-near _ _ s.is in
    let g = functions-near _ _ _ (functions-over _ _ (take-kinds s.has s.size) f.is) in
    record {
      at_bound = omega (arith, version-near _ v, n.1, literals-near _ _ l.is, g.near);
      sound = sound-of f.has g.ok (kinds-few s.what n.0);
      rows_value = ap (λ (x : Table). x.rows) c.requires;
    }

pub returns-in_err-read : goal.returns-in_err-read
returns-in_err-read c =
    let v = reads-done c.read_version.ensures c.in_ok-version.was in
    let s = counts-done c.read_sorts.ensures c.in_ok-sorted.was in
    let l = counts-done c.read_literals.ensures c.in_ok-constants.was in
    let f = counts-done c.read_functions.ensures c.in_ok-symbols.was in
    let e = functions-over _ _ (take-kinds s.has s.size) f.is in
    let g = functions-near _ _ _ e in
    answers-exit _ c.from_residual-in_err-read.ensures.1
    (table-stops-5 _ v.is s.is l.is e s.has f.has (tight-of g.ok) l.size f.size
    (counts-not c.read_tail.ensures c.in_err-read.was))

pub returns : goal.returns
returns c =
    let v = reads-done c.read_version.ensures c.in_ok-version.was in
    let s = counts-done c.read_sorts.ensures c.in_ok-sorted.was in
    let l = counts-done c.read_literals.ensures c.in_ok-constants.was in
    let f = counts-done c.read_functions.ensures c.in_ok-symbols.was in
    let t = counts-done c.read_tail.ensures c.in_ok-read.was in
    let e = functions-over _ _ (take-kinds s.has s.size) f.is in
    let g = functions-near _ _ _ e in
    answers-got
    (table-ends _ v.is s.is l.is e s.has f.has (tight-of g.ok) l.size f.size t.is)
    s.size l.size f.size t.size
    (record { sorts_held = s.has; literals_held = l.has; functions_held = f.has; rows_held = t.has })
