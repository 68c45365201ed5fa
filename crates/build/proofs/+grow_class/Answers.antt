-- `build::grow_class` meets its contract. It calls itself on each child class at a level one lower: the level is the
-- measure. The loop's invariant is `Turn`: the children before j are built as the definition builds them. Assumes
-- nothing.
use native.Mathlib.Omega.{arith}
use Rattle.std.proofs.Common.{rules}
use mir.Syntax.{w64}
use mir.ValLaws.{to_z-of_z}
use Prim.Native.Nat.{ℕ, ◌-◌, ◌<◌, ◌≤◌}
use mathlib.Core.Path.{◌≡◌, refl, sym, ap, ◌∙◌}
use mathlib.Core.List.{List}
use lib.ListN.{length, get_or, take}
use lib.Seq.{length-take-le, get_or-take}
use lib.IntN.{pos}
use Rattle.table_layout.specs.Rows.{children_at}
use Rattle.term_add.specs.Held.{held, SameLoans}
use Rattle.build.specs.Plan.{Plan, child_of, plan_in}
use Rattle.build.specs.Building.{State, state}
use Rattle.build.proofs.OwnLaws.{added-of-gains, same-loans}
use Rattle.build.proofs.PlanLaws.{child_of-class, child_of-value, children-few, ranked-of-planned}
use Rattle.build.proofs.TurnLaws.{Arrives, exact-of-kept, made-of-class, made-of-value, turn-go, turn-stop, turn_end}
use Rattle.build.proofs.+grow_class.Goals as goal
use Rattle.build.proofs.+grow_class.Goals.{Joined-x-lt512, then-x-lt512, else-x-lt512}

-- the child came, by either arm
build-child :
    (t : ℕ) (c : Joined-x-lt512 t) →
    let a = c.args in
    let l = c.loop-j in
    Arrives (plan_in a.plan.now) a.level
    (state l.memo (held l.store))
    (child_of a.plan.now.values.now
    (get_or (children_at a.plan.now.rows.now (get_or a.plan.now.edges.now a.c 0)) l.j 0)) c.if-x-lt512.built
    c.if-x-lt512.memo (held c.if-x-lt512.store)
build-child t c =
    let a = c.args in
    let ready = c.requires in
    let p = ready.planned _ ready.ranked in
    let l = c.loop-j in
    let at : State = state l.memo (held l.store) in
    let q : Plan = plan_in a.plan.now in
    let x : ℕ = get_or (children_at a.plan.now.rows.now (get_or a.plan.now.edges.now a.c 0)) l.j 0 in
    let h : l.j < length (children_at a.plan.now.rows.now (get_or a.plan.now.edges.now a.c 0)) = omega (
      arith,
      c.loop-j-test.true,
      ap length l.invariant.1.0,
    ) in
    let e : c.from-x.result ≡ x = c.from-x.ensures ∙ ap (λ (ks : List ℕ). get_or ks l.j 0) l.invariant.1.0 in
    let d = p.child l.j h in
    let ranked =
    ranked-of-planned ready.rank a.plan.now.rows.now a.plan.now.edges.now a.plan.now.labels.now
    a.plan.now.values.now ready.planned
    in
    elim c.if-x-lt512.branch [
      | then-x-lt512 w ↦
          let u : x < 512 = rw e at w.if-x-lt512.true in
          rw (w.built-is, w.memo-is, w.store-is, child_of-class a.plan.now.values.now x u)
          (record {
            made =
                made-of-class q ready.rank ranked a.level at l.invariant.1.1.1.tracks _ x (d.ranked u)
                (omega (arith, d.falls u, ready.enough)) (rw e at w.grow_class-built.ensures.built);
            memo = w.grow_class-built.auto.memo;
          })
      | else-x-lt512 w ↦
          let u : 512 ≤ x = rw e at w.if-x-lt512.false in
          rw (w.built-is, w.memo-is, w.store-is, child_of-value a.plan.now.values.now x u)
          (record {
            made =
                made-of-value q ready.rank ranked a.level at l.invariant.1.1.1.tracks _
                (get_or a.plan.now.values.now (x - 512) (pos 0))
                (added-of-gains l.memo (held l.store) _ _ _
                (rw (
                  e,
                  to_z-of_z w64 (get_or a.plan.now.values.now (x - 512) (pos 0)) (record {
                    sfits = search rules;
                  }),
                ) at w.intern_literal-built.ensures.gains));
            memo = refl;
          })
    ]

-- the same slices are lent after it
child-loans : (t : ℕ) (c : Joined-x-lt512 t) → SameLoans c.loop-j.store c.if-x-lt512.store
child-loans t c = elim c.if-x-lt512.branch [
  | then-x-lt512 w ↦ rw w.store-is w.grow_class-built.ensures.loans
  | else-x-lt512 w ↦ rw w.store-is w.intern_literal-built.ensures.loans
]

pub returns-in_err-term-clause-loans : goal.returns-in_err-term-clause-loans
returns-in_err-term-clause-loans t c =
    same-loans c.loop-j.invariant.1.1.0 (child-loans t (goal.at.returns-in_err-term-clause-loans t c).Joined-x-lt512)

pub returns-clause-loans : goal.returns-clause-loans
returns-clause-loans t c = same-loans c.loop-j.invariant.1.1.0 c.own_term.ensures.loans

pub offset_bounds-memo-c : goal.offset_bounds-memo-c
offset_bounds-memo-c t c = omega (arith, c.requires.inside _ c.requires.ranked)

pub bounds-memo-c : goal.bounds-memo-c
bounds-memo-c t c = c.requires.inside _ c.requires.ranked

pub returns-then-m-gt0-clause-built : goal.returns-then-m-gt0-clause-built
returns-then-m-gt0-clause-built t c =
    let a = c.args in
    rw c.from.ensures
    (exact-of-kept (plan_in a.plan.now)
    (state a.memo.now (held a.store.now))
    a.c a.level c.if-m-gt0.true)

pub offset_bounds-plan-c : goal.offset_bounds-plan-c
offset_bounds-plan-c t c = omega (arith, (c.requires.planned _ c.requires.ranked).place)

pub bounds-plan-c : goal.bounds-plan-c
bounds-plan-c t c = (c.requires.planned _ c.requires.ranked).place

pub children_of-kids-requires : goal.children_of-kids-requires
children_of-kids-requires t c =
    let p = c.requires.planned _ c.requires.ranked in
    record { has_row = rw c.from-i.ensures p.whole; i_bound = rw c.from-i.ensures p.few }

pub loop-j-init : goal.loop-j-init
loop-j-init t c =
    let e = c.from-i.ensures in (
      e,
      (
        rw e at c.children_of-kids.ensures,
        (
          record { records = refl; literals = refl; names = refl },
          record {
            within = omega arith;
            long = refl;
            memo = refl;
            tracks = c.requires.tracks;
            below = λ i l. absurd (omega arith);
            same = λ f l. refl;
          },
        ),
      ),
    )

pub offset_bounds-kids-j : goal.offset_bounds-kids-j
offset_bounds-kids-j t c =
    let p = c.requires.planned _ c.requires.ranked in
    let l = c.loop-j in
    omega (
      arith,
      c.loop-j-test.true,
      ap length l.invariant.1.0,
      children-few c.args.plan.now.rows.now (get_or c.args.plan.now.edges.now c.args.c 0),
      p.few,
    )

pub bounds-kids-j : goal.bounds-kids-j
bounds-kids-j t c = c.loop-j-test.true

pub overflow_sub-level : goal.overflow_sub-level
overflow_sub-level t c =
    let a = c.args in
    let p = c.requires.planned _ c.requires.ranked in
    let l = c.loop-j in
    let h : l.j < length (children_at a.plan.now.rows.now (get_or a.plan.now.edges.now a.c 0)) = omega (
      arith,
      c.loop-j-test.true,
      ap length l.invariant.1.0,
    ) in
    let e = c.from-x.ensures ∙ ap (λ (ks : List ℕ). get_or ks l.j 0) l.invariant.1.0 in
    let d = p.child l.j h in
    let u = rw e at c.if-x-lt512.true in
    omega (arith, d.falls u, c.requires.enough)

pub grow_class-built-requires : goal.grow_class-built-requires
grow_class-built-requires t c =
    let a = c.args in
    let p = c.requires.planned _ c.requires.ranked in
    let l = c.loop-j in
    let h : l.j < length (children_at a.plan.now.rows.now (get_or a.plan.now.edges.now a.c 0)) = omega (
      arith,
      c.loop-j-test.true,
      ap length l.invariant.1.0,
    ) in
    let e = c.from-x.ensures ∙ ap (λ (ks : List ℕ). get_or ks l.j 0) l.invariant.1.0 in
    let d = p.child l.j h in
    let u = rw e at c.if-x-lt512.true in (
      omega (arith, d.falls u, c.requires.enough),
      rw e
          (record {
            rank = c.requires.rank;
            planned = c.requires.planned;
            inside = λ i q. rw l.invariant.1.1.1.memo (c.requires.inside i q);
            tracks = l.invariant.1.1.1.tracks;
            ranked = d.ranked u;
            enough = omega (arith, d.falls u, c.requires.enough);
          }),
    )

pub intern_literal-built-requires : goal.intern_literal-built-requires
intern_literal-built-requires t c = c.loop-j.invariant.1.1.1.tracks.formed

pub returns-in_err-term-clause-built : goal.returns-in_err-term-clause-built
returns-in_err-term-clause-built t c =
    let a = c.args in
    let p = c.requires.planned _ c.requires.ranked in
    let l = c.loop-j in
    let few : length (children_at a.plan.now.rows.now (get_or a.plan.now.edges.now a.c 0)) ≤ 8 = omega (
      arith,
      children-few a.plan.now.rows.now (get_or a.plan.now.edges.now a.c 0),
      p.few,
    ) in
    let h : l.j < length (children_at a.plan.now.rows.now (get_or a.plan.now.edges.now a.c 0)) = omega (
      arith,
      c.loop-j-test.true,
      ap length l.invariant.1.0,
    ) in
    let w = rw c.in_err-term.was at (build-child t (goal.at.returns-in_err-term-clause-built t c).Joined-x-lt512) in
    rw c.from_residual.ensures (turn-stop (plan_in a.plan.now) a.level a.plan.now.values.now
    (children_at a.plan.now.rows.now (get_or a.plan.now.edges.now a.c 0)) few
    _ _ l.children l.j l.invariant.1.1.1 a.c refl c.if-m-gt0.false h _ _ _ _ w.made)

pub offset_bounds-children-j : goal.offset_bounds-children-j
offset_bounds-children-j t c =
    let a = c.args in
    let p = c.requires.planned _ c.requires.ranked in
    let l = c.loop-j in
    let few : length (children_at a.plan.now.rows.now (get_or a.plan.now.edges.now a.c 0)) ≤ 8 = omega (
      arith,
      children-few a.plan.now.rows.now (get_or a.plan.now.edges.now a.c 0),
      p.few,
    ) in
    omega (arith, few, c.loop-j-test.true, ap length l.invariant.1.0)

pub bounds-children-j : goal.bounds-children-j
bounds-children-j t c =
    let a = c.args in
    let p = c.requires.planned _ c.requires.ranked in
    let l = c.loop-j in
    let few : length (children_at a.plan.now.rows.now (get_or a.plan.now.edges.now a.c 0)) ≤ 8 = omega (
      arith,
      children-few a.plan.now.rows.now (get_or a.plan.now.edges.now a.c 0),
      p.few,
    ) in
    omega (arith, few, c.loop-j-test.true, ap length l.invariant.1.0)

pub loop-j-preserved : goal.loop-j-preserved
loop-j-preserved t c =
    let a = c.args in
    let p = c.requires.planned _ c.requires.ranked in
    let l = c.loop-j in
    let few : length (children_at a.plan.now.rows.now (get_or a.plan.now.edges.now a.c 0)) ≤ 8 = omega (
      arith,
      children-few a.plan.now.rows.now (get_or a.plan.now.edges.now a.c 0),
      p.few,
    ) in
    let h : l.j < length (children_at a.plan.now.rows.now (get_or a.plan.now.edges.now a.c 0)) = omega (
      arith,
      c.loop-j-test.true,
      ap length l.invariant.1.0,
    ) in
    let w = rw c.in_ok-term.was at (build-child t (goal.at.loop-j-preserved t c).Joined-x-lt512) in (
      l.invariant.0,
      (
        l.invariant.1.0,
        (
          same-loans l.invariant.1.1.0 (child-loans t (goal.at.loop-j-preserved t c).Joined-x-lt512),
          turn-go (plan_in a.plan.now) a.level a.plan.now.values.now
              (children_at a.plan.now.rows.now (get_or a.plan.now.edges.now a.c 0)) few
              _ _ l.children l.j l.invariant.1.1.1 h _ _ w.made w.memo,
        ),
      ),
    )

pub function_of-f-requires : goal.function_of-f-requires
function_of-f-requires t c = rw c.loop-j.invariant.0 (c.requires.planned _ c.requires.ranked).whole

pub slice_bounds-children-end : goal.slice_bounds-children-end
slice_bounds-children-end t c =
    let a = c.args in
    let p = c.requires.planned _ c.requires.ranked in
    let l = c.loop-j in
    let few : length (children_at a.plan.now.rows.now (get_or a.plan.now.edges.now a.c 0)) ≤ 8 = omega (
      arith,
      children-few a.plan.now.rows.now (get_or a.plan.now.edges.now a.c 0),
      p.few,
    ) in
    omega (arith, few, l.invariant.1.1.1.within, l.invariant.1.1.1.long)

pub slice_bounds-own_term-end : goal.slice_bounds-own_term-end
slice_bounds-own_term-end t c =
    let a = c.args in
    let p = c.requires.planned _ c.requires.ranked in
    let l = c.loop-j in
    let few : length (children_at a.plan.now.rows.now (get_or a.plan.now.edges.now a.c 0)) ≤ 8 = omega (
      arith,
      children-few a.plan.now.rows.now (get_or a.plan.now.edges.now a.c 0),
      p.few,
    ) in
    let n : l.j ≡ length c.children_of-kids.result.now = omega (arith, l.invariant.1.1.1.within, c.loop-j-test.false, ap length l.invariant.1.0) in
    rw (← n) (sym (length-take-le l.j l.children (omega (arith, few, l.invariant.1.1.1.within, l.invariant.1.1.1.long))))

pub own_term-requires : goal.own_term-requires
own_term-requires t c =
    let a = c.args in
    let p = c.requires.planned _ c.requires.ranked in
    let l = c.loop-j in
    let few : length (children_at a.plan.now.rows.now (get_or a.plan.now.edges.now a.c 0)) ≤ 8 = omega (
      arith,
      children-few a.plan.now.rows.now (get_or a.plan.now.edges.now a.c 0),
      p.few,
    ) in
    let n : l.j ≡ length c.children_of-kids.result.now = omega (arith, l.invariant.1.1.1.within, c.loop-j-test.false, ap length l.invariant.1.0) in
    let e : length (take (length c.children_of-kids.result.now) l.children) ≡ l.j = rw (← n) (length-take-le l.j l.children (omega (arith, few, l.invariant.1.1.1.within, l.invariant.1.1.1.long))) in
    let g = c.function_of-f.ensures in
    let k = l.invariant.0 in
    record {
      entry = rw (g, k) p.label.entry;
      short = rw (g, k) p.label.short;
      named = rw (g, k) p.label.named;
      few = omega (arith, few, e, l.invariant.1.1.1.within);
      below = λ j h.
          let i : j < l.j = omega (arith, e) in rw (← n, get_or-take l.j l.children j 0 i) (l.invariant.1.1.1.below j i);
      memo = rw l.invariant.1.1.1.memo (c.requires.inside _ c.requires.ranked);
      formed = l.invariant.1.1.1.tracks.formed;
    }

pub returns-clause-built : goal.returns-clause-built
returns-clause-built t c =
    let a = c.args in
    let p = c.requires.planned _ c.requires.ranked in
    let l = c.loop-j in
    let few : length (children_at a.plan.now.rows.now (get_or a.plan.now.edges.now a.c 0)) ≤ 8 = omega (
      arith,
      children-few a.plan.now.rows.now (get_or a.plan.now.edges.now a.c 0),
      p.few,
    ) in
    let g = c.function_of-f.ensures in
    let k = l.invariant.0 in
    let e =
    turn_end (plan_in a.plan.now) a.level a.plan.now.values.now
    (children_at a.plan.now.rows.now (get_or a.plan.now.edges.now a.c 0)) few
    _ _ l.children l.j l.invariant.1.1.1 a.c refl c.if-m-gt0.false
    (omega (
      arith,
      c.loop-j-test.false,
      ap length l.invariant.1.0,
    )) in
    let n : l.j ≡ length c.children_of-kids.result.now = omega (arith, l.invariant.1.1.1.within, c.loop-j-test.false, ap length l.invariant.1.0) in
    λ f h. e f h ∙ rw (g, k, ← n) at c.own_term.ensures.built
