-- `file_names::read_text` meets its contract: each `return` is a law of `name_at`. Assumes nothing.
use Prim.Native.Nat.{◌≤◌}
use mathlib.Core.Path.{sym, ap, ◌∙◌}
use native.Mathlib.Omega.{arith}
use lib.ListN.{length}
use lib.Seq.{length-take-le}
use Rattle.name.specs.Name.{all_allowed}
use Rattle.bits.proofs.FieldLaws.{field-read, holds-true}
use Rattle.file_rules.proofs.ReadingLaws.{exit-is}
use Rattle.file_names.proofs.TextLaws.{name_refused, name-empty, name-cut, name-bad, name-good}
use Rattle.file_names.proofs.read_text.Goals as goal

pub returns-in_err-v : goal.returns-in_err-v
returns-in_err-v c =
    rw (exit-is _ c.from_residual.ensures.1)
    (record {
      answer = sym (name_refused _ _ (sym c.in_err-v.ensures));
      short = omega arith;
    })

pub returns-then-v-eq0 : goal.returns-then-v-eq0
returns-then-v-eq0 c =
    record {
      answer = sym (name-empty _ _ (sym c.in_ok-v.ensures)
          c.if-v-eq0.true);
      short = omega arith;
    }

pub overflow_mul-n : goal.overflow_mul-n
overflow_mul-n c =
    let k = field-read _ _ 5 (sym c.in_ok-v.ensures) in
    omega (arith, k.small)

pub has-requires : goal.has-requires
has-requires c =
    let k = field-read _ _ 5 (sym c.in_ok-v.ensures) in
    omega (arith, k.small, k.end, c.requires.at_bound)

pub returns-then-not-has : goal.returns-then-not-has
returns-then-not-has c =
    let d = sym c.has.ensures ∙ c.if-not-has.true in
    record {
      answer =
          sym (name-cut _ _ (sym c.in_ok-v.ensures)
          c.if-v-eq0.false d);
      short = omega arith;
    }

pub read_bytes-requires : goal.read_bytes-requires
read_bytes-requires c =
    let k = field-read _ _ 5 (sym c.in_ok-v.ensures) in
    let d = sym c.has.ensures ∙ c.if-not-has.false in
    record {
      n_bound = omega (arith, k.small, k.end, c.requires.at_bound);
      n_bound_2 = holds-true _ _ _ d;
      n_in_bounds = omega (arith, k.small, c.requires.in_bounds);
    }

pub slice_bounds-all_allowed-end : goal.slice_bounds-all_allowed-end
slice_bounds-all_allowed-end c =
    let k = field-read _ _ 5 (sym c.in_ok-v.ensures) in
    omega (arith, k.small, c.requires.in_bounds)

pub slice_bounds-all_allowed-end-2 : goal.slice_bounds-all_allowed-end-2
slice_bounds-all_allowed-end-2 c =
    let k = field-read _ _ 5 (sym c.in_ok-v.ensures) in
    let h : c.in_ok-v.v ≤ length c.read_bytes.new.buffer =
    omega (arith, k.small, c.requires.in_bounds) in
    sym (length-take-le _ _ h)

pub returns-then-not-all_allowed : goal.returns-then-not-all_allowed
returns-then-not-all_allowed c =
    let h =
    sym c.has.ensures
    ∙ c.if-not-has.false in
    let b =
    ap all_allowed (sym c.read_bytes.ensures)
    ∙ sym c.all_allowed.ensures ∙ c.if-not-all_allowed.true in
    record {
      answer =
          sym (name-bad _ _ (sym c.in_ok-v.ensures)
          c.if-v-eq0.false h b);
      short = omega arith;
    }

pub overflow_mul-result : goal.overflow_mul-result
overflow_mul-result c =
    let k = field-read _ _ 5 (sym c.in_ok-v.ensures) in
    omega (arith, k.small)

pub overflow_add-result : goal.overflow_add-result
overflow_add-result c =
    let k = field-read _ _ 5 (sym c.in_ok-v.ensures) in
    omega (arith, k.small, k.end, c.requires.at_bound)

pub returns : goal.returns
returns c =
    let k = field-read _ _ 5 (sym c.in_ok-v.ensures) in
    let h =
    sym c.has.ensures
    ∙ c.if-not-has.false in
    let b =
    ap all_allowed (sym c.read_bytes.ensures)
    ∙ sym c.all_allowed.ensures ∙ c.if-not-all_allowed.false in
    record {
      answer =
          rw c.read_bytes.ensures
          (sym (name-good _ _ (sym c.in_ok-v.ensures)
          c.if-v-eq0.false h b));
      short = omega (arith, k.small);
    }
