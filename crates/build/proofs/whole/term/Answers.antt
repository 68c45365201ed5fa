-- `whole::term` meets its contract. Where there is no room, the store is put back from what was saved: past the
-- saved places nothing can have changed. Assumes nothing.
use Prim.Native.Nat.{ℕ, ◌+◌}
use native.Mathlib.Omega.{arith}
use mathlib.Core.Path.{sym, ap, ◌∙◌}
use lib.ListN.{replicate, length-replicate}
use lib.IntN.{pos}
use Rattle.term_rules.specs.Lent.{Store, records_length}
use Rattle.term_add.specs.Held.{held}
use Rattle.build.specs.Plan.{Plan, plan_in}
use Rattle.build.specs.Building.{state}
use Rattle.build.proofs.PlanLaws.{ranked-of-planned}
use Rattle.copies.proofs.CopiedLaws.{saved-back}
use Rattle.build.proofs.LongLaws.{full-long}
use Rattle.build.proofs.BuildingLaws.{tracks-of-zeros, stuck-beyond, exact-right}
use Rattle.build.proofs.AnswerLaws.{none_when}
use Rattle.build.proofs.whole.WholeLaws.{whole-of-some, whole-of-full}
use Rattle.build.proofs.whole.term.Goals as goal

pub build-built-requires : goal.build-built-requires
build-built-requires c =
    let a = c.args in
    record {
      rank = c.requires.rank;
      planned = c.requires.planned;
      inside = λ k l. rw (length-replicate {A = ℕ} 512 0) (c.requires.inside k l);
      tracks =
          tracks-of-zeros (plan_in a.plan.now) 512 _
          c.requires.formed;
      ranked = c.requires.ranked;
      enough = c.requires.enough;
    }

pub returns-then-is_none-clause-whole : goal.returns-then-is_none-clause-whole
returns-then-is_none-clause-whole c =
    let a = c.args in
    let b = c.build-built in
    let p : Plan = plan_in a.plan.now in
    let lent : Store = held a.store.now in
    let h = none_when b.result c.is_none.ensures c.if-is_none.true in
    let e = rw h at b.ensures.built in
    let k =
    stuck-beyond
    (exact-right p c.requires.rank
    (ranked-of-planned c.requires.rank a.plan.now.rows.now a.plan.now.edges.now a.plan.now.labels.now
    a.plan.now.values.now c.requires.planned)
    (state (replicate 512 0) lent) a.c (tracks-of-zeros p 512 lent c.requires.formed) c.requires.ranked a.level
    c.requires.enough _ e) in
    let long = full-long p (a.level + 1) (state (replicate 512 0) lent) a.c (e (a.level + 1) (omega arith)) in
    let er =
    rw (c.over.ensures, ap (λ (s : Store). s.records) c.lent-old.ensures) at c.over-then-is_none.ensures
    ∙ saved-back (records_length 1024) 0 a.store.now.records.now b.new.store.records.now long.records k.records in
    let el =
    rw (c.over-2.ensures, ap (λ (s : Store). s.literals) c.lent-old.ensures) at c.over-then-is_none-2.ensures
    ∙ saved-back 1024 (pos 0) a.store.now.literals.now b.new.store.literals.now long.literals k.literals in
    let en =
    rw (c.over-3.ensures, ap (λ (s : Store). s.names) c.lent-old.ensures) at c.over-then-is_none-3.ensures
    ∙ saved-back 4096 0 a.store.now.names.now b.new.store.names.now long.names k.names
    in
    rw (h, er, el, en) (sym (whole-of-full p a.level lent a.c _ _ _ _ e))

pub returns-else-is_none-clause-whole : goal.returns-else-is_none-clause-whole
returns-else-is_none-clause-whole c =
    let a = c.args in
    sym
    (whole-of-some (plan_in a.plan.now) a.level
    (held a.store.now) a.c _ _ _ c.is_none.ensures c.if-is_none.false
    c.build-built.ensures.built)
