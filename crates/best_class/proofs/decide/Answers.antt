-- `best_class::decide` meets its contract. Each return is one law on a solved flat table. Assumes nothing.
use Prim.Native.Nat.{ℕ}
use mathlib.Core.Path.{◌≡◌, sym, ◌∙◌, subst}
use lib.ListN.{get_or}
use Rattle.term_add.specs.Held.{held}
use Rattle.price_passes.specs.Flat.{FlatOk}
use Rattle.std.specs.Prelude.{Option, Some, None}
use Rattle.std.proofs.lemmas.Result.{err_from_is_err_and}
use Rattle.build.proofs.AnswerLaws.{refused_of}
use Rattle.build.specs.Plan.{plan_of}
use Rattle.build.specs.Whole.{whole}
use Rattle.price.specs.Solved.{Solved}
use Rattle.best_class.proofs.SolvedLaws.{ready}
use Rattle.best_class.proofs.DecideLaws.{decide-unranked, decide-dear, decide-found, decide-full}
use native.Mathlib.Omega.{arith}
use Rattle.best_class.proofs.decide.Goals as goal

pub solve-run-requires : goal.solve-run-requires
solve-run-requires c =
    let g = c.args in
    record {
      flat_ok = subst (λ (n : ℕ). FlatOk n g.outputs.now g.heads.now g.starts.now g.children.now) (sym c.requires.rows_ready.is.classes) c.requires.rows_ready.is.is.flat;
      blank = c.requires.blank;
    }

pub offset_bounds-ranks-c : goal.offset_bounds-ranks-c
offset_bounds-ranks-c c =
    let a = c.requires.rows_ready.is in
    omega (arith, a.class, a.classes, a.is.flat.few_classes)

pub bounds-ranks-c : goal.bounds-ranks-c
bounds-ranks-c c =
    let a = c.requires.rows_ready.is in
    omega (arith, a.class, c.solve-run.auto.ranks)

pub returns-then-rank-eq0-clause-best : goal.returns-then-rank-eq0-clause-best
returns-then-rank-eq0-clause-best c =
    λ order functions pk t root ft e.
    let g = c.args in
    let q = c.solve-run in
    let w =
    subst
    (λ (n : ℕ).
    Solved n q.result.passes q.result.last g.outputs.now g.heads.now g.starts.now
    g.children.now q.new.costs q.new.ranks q.new.edges)
    e q.ensures in
    let s = held g.store.now in
    decide-unranked t root g.outputs.now g.heads.now g.starts.now g.children.now order functions g.labels.now
    g.values.now ft q.new.costs q.new.ranks q.new.edges q.result.passes q.result.last (q.auto.ranks ∙ e) w
    g.rows.now pk g.c s c.if-rank-eq0.true

pub offset_bounds-costs-c : goal.offset_bounds-costs-c
offset_bounds-costs-c c =
    let a = c.requires.rows_ready.is in
    omega (arith, a.class, a.classes, a.is.flat.few_classes)

pub bounds-costs-c : goal.bounds-costs-c
bounds-costs-c c =
    omega (
      arith,
      c.requires.rows_ready.is.class,
      c.requires.blank.fresh.long,
      c.solve-run.auto.costs,
    )

pub returns-then-cost-ge18446744073709551615-clause-best : goal.returns-then-cost-ge18446744073709551615-clause-best
returns-then-cost-ge18446744073709551615-clause-best c =
    λ order functions pk t root ft e.
    let g = c.args in
    let q = c.solve-run in
    let w =
    subst
    (λ (n : ℕ).
    Solved n q.result.passes q.result.last g.outputs.now g.heads.now g.starts.now
    g.children.now q.new.costs q.new.ranks q.new.edges)
    e q.ensures in
    let s = held g.store.now in
    decide-dear t root g.outputs.now g.heads.now g.starts.now g.children.now order functions g.labels.now
    g.values.now ft q.new.costs q.new.ranks q.new.edges q.result.passes q.result.last (q.auto.ranks ∙ e) w
    g.rows.now pk g.c s (omega (arith, c.if-rank-eq0.false)) c.if-cost-ge18446744073709551615.true

pub term-requires : goal.term-requires
term-requires c =
    let a = c.requires.rows_ready.is in
    let g = c.args in
    let q = c.solve-run in
    let w =
    subst
    (λ (n : ℕ).
    Solved n q.result.passes q.result.last g.outputs.now g.heads.now g.starts.now
    g.children.now q.new.costs q.new.ranks q.new.edges)
    a.classes q.ensures in
    let s = held g.store.now in
    let r = c.requires.rows_ready in
    ready a.table a.root g.outputs.now g.heads.now g.starts.now g.children.now r.order
    r.functions g.labels.now g.values.now a.is q.new.costs q.new.ranks q.new.edges q.result.passes
    q.result.last (q.auto.ranks ∙ a.classes) w g.rows.now r.packed s a.formed g.c
    (record {
      ranked = omega (arith, c.if-rank-eq0.false);
      below = c.if-cost-ge18446744073709551615.false;
    })

pub returns-in_err-term-clause-best : goal.returns-in_err-term-clause-best
returns-in_err-term-clause-best c =
    λ order functions pk t root ft e.
    let g = c.args in
    let q = c.solve-run in
    let w =
    subst
    (λ (n : ℕ).
    Solved n q.result.passes q.result.last g.outputs.now g.heads.now g.starts.now
    g.children.now q.new.costs q.new.ranks q.new.edges)
    e q.ensures in
    let x = c.term in
    let h : ◌≡◌ {A = Option ℕ} x.result None = grind arith in
    let r = err_from_is_err_and c.from_residual.result c.from_residual.ensures.1 in
    let s = held g.store.now in
    rw (refused_of x.result c.ok_or.ensures.value c.in_err-term.was r.1 r.2) (decide-full t root g.outputs.now g.heads.now g.starts.now g.children.now order functions g.labels.now
    g.values.now ft q.new.costs q.new.ranks q.new.edges q.result.passes q.result.last (q.auto.ranks ∙ e) w
    g.rows.now pk g.c s (omega (
      arith,
      c.if-rank-eq0.false,
    )) c.if-cost-ge18446744073709551615.false (held x.new.store)
    (subst
    (λ (b : Option ℕ).
    record { answer = b; store = held x.new.store }
    ≡ whole (plan_of g.rows.now q.new.edges g.labels.now g.values.now) (get_or q.new.ranks g.c 0) s g.c)
    h x.ensures.whole))

pub returns-clause-best : goal.returns-clause-best
returns-clause-best c =
    λ order functions pk t root ft e.
    let g = c.args in
    let q = c.solve-run in
    let w =
    subst
    (λ (n : ℕ).
    Solved n q.result.passes q.result.last g.outputs.now g.heads.now g.starts.now
    g.children.now q.new.costs q.new.ranks q.new.edges)
    e q.ensures in
    let x = c.term in
    let h : ◌≡◌ {A = Option ℕ} x.result (Some c.in_ok-term.term) = grind arith in
    let s = held g.store.now in
    decide-found t root g.outputs.now g.heads.now g.starts.now g.children.now order functions g.labels.now
    g.values.now ft q.new.costs q.new.ranks q.new.edges q.result.passes q.result.last (q.auto.ranks ∙ e) w
    g.rows.now pk g.c s (omega (
      arith,
      c.if-rank-eq0.false,
    )) c.if-cost-ge18446744073709551615.false _ (held x.new.store)
    (subst
    (λ (b : Option ℕ).
    record { answer = b; store = held x.new.store }
    ≡ whole (plan_of g.rows.now q.new.edges g.labels.now g.values.now) (get_or q.new.ranks g.c 0) s g.c)
    h x.ensures.whole)
