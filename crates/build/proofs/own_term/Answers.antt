-- `build::own_term` meets its contract: the application is added, and the memo names its term. Assumes nothing.
use native.Mathlib.Omega.{arith}
use mathlib.Core.Path.{refl}
use Rattle.name.specs.Entries.{name_at}
use Rattle.term_rules.specs.Lent.{Store}
use Rattle.term_add.specs.Held.{held}
use Rattle.term_rules.specs.Nodes.{application}
use Rattle.build.proofs.OwnLaws.{own-of-term, own-of-no_room, number-limit}
use Rattle.build.proofs.own_term.Goals as goal

pub name_of-name-requires : goal.name_of-name-requires
name_of-name-requires c = record { long = c.requires.entry; short = c.requires.short }

pub intern_application-requires : goal.intern_application-requires
intern_application-requires c =
    let q = c.requires in
    record {
      sound = q.formed;
      named = rw c.name_of-name.ensures q.named;
      children_len_bound = q.few;
    }

pub returns-in_err-term-clause-built : goal.returns-in_err-term-clause-built
returns-in_err-term-clause-built c =
    let a = c.args in
    let s : Store = held a.store.now in
    let w = rw (c.name_of-name.ensures, c.in_err-term.was) at c.intern_application.ensures.gains in
    rw c.from_residual.ensures (own-of-no_room a.memo.now s (name_at a.labels.now a.f) a.c a.children.now
    _ w.answer (w.kept refl))

pub overflow_cast-memo : goal.overflow_cast-memo
overflow_cast-memo c =
    let a = c.args in
    let q = c.requires in
    let w = rw (c.name_of-name.ensures, c.in_ok-term.was) at c.intern_application.ensures.gains in
    let lent : Store = held a.store.now in
    let name = name_at a.labels.now a.f in
    omega (
      arith,
      number-limit lent (application name a.children.now) _ _ q.formed (q.named, q.few, q.below) w.answer,
    )

pub overflow_add-memo : goal.overflow_add-memo
overflow_add-memo c =
    let a = c.args in
    let q = c.requires in
    let w = rw (c.name_of-name.ensures, c.in_ok-term.was) at c.intern_application.ensures.gains in
    let lent : Store = held a.store.now in
    let name = name_at a.labels.now a.f in
    omega (
      arith,
      number-limit lent (application name a.children.now) _ _ q.formed (q.named, q.few, q.below) w.answer,
    )

pub returns-clause-built : goal.returns-clause-built
returns-clause-built c =
    let a = c.args in
    let s : Store = held a.store.now in
    let w = rw (c.name_of-name.ensures, c.in_ok-term.was) at c.intern_application.ensures.gains in
    own-of-term a.memo.now s (name_at a.labels.now a.f) a.c a.children.now
    _ _ w.answer
