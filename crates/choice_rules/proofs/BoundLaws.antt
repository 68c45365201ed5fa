-- The number of passes: every pass that changes something makes one more class final. Assumes nothing.
use mathlib.Core.Path.{◌≡◌, ap, subst}
use mathlib.Core.List.{List}
use mathlib.Core.Logic.{◌≢◌}
use Prim.Native.Nat.{ℕ, suc, zero, ◌≤◌, ◌<◌}
use native.Mathlib.Omega.{arith}
use native.Mathlib.Decide.{dec_lt}
use lib.ListN.{get_or, length-replicate}
use Rattle.choice_rules.specs.Rows.{Row, Within}
use Rattle.choice_rules.specs.Run.{State, pass, passes, blank, given, costed}
use Rattle.choice_rules.proofs.ListLaws.{in-range, replicate-get}
use Rattle.choice_rules.proofs.PassLaws.{Fixed, Keeps, pass-keeps, passes-keep, Sized, sized-keeps, pass-still}
use Rattle.choice_rules.proofs.PassLaws.{pass-of-fixed}
use Rattle.choice_rules.proofs.SoundLaws.{Grounded, grounded-keeps}
use Rattle.choice_rules.proofs.RankLaws.{Capped, capped-keeps, Sourced, sourced-keeps, exact}
use Rattle.choice_rules.proofs.MonoLaws.{pass-better}
use Rattle.choice_rules.proofs.TotalLaws.{total, total-le, total-tight, total-of-ones, total-of-list}
use Rattle.choice_rules.proofs.FinalLaws.{Final, mark, mark-le-one, mark-final, final-mark, mark-mono, mark-le-given}
use Rattle.choice_rules.proofs.FinalLaws.{fixed-when-no-more}
use Rattle.choice_rules.proofs.FixpointLaws.{still-comes}

-- what every state of a run over n classes has
pub record Good (M n : ℕ) (rows : List Row) (s : State) : Type 0 where
  pub sized : Sized n s
  pub grounded : Grounded M rows s
  pub capped : Capped s
  pub sourced : Sourced M rows s

-- each of the first p passes changes something
abbrev pub Busy : ℕ → List Row → State → ℕ → Type 0
Busy M rows s p = (q : ℕ) → q < p → pass M rows (passes M rows q s) ≢ passes M rows q s

module _ (M n : ℕ) (rows : List Row) (w : Within n rows) where
  good-keeps : Keeps M rows (Good M n rows)
  good-keeps s r m i g = record {
    sized = sized-keeps M n rows s r m i g.sized;
    grounded = grounded-keeps M rows n w s r m i g.sized g.grounded;
    capped = capped-keeps M rows n w s r m i g.sized g.capped;
    sourced = sourced-keeps M rows n w s r m i g.sized g.capped g.sourced;
  }

  good-pass : (s : State) → Good M n rows s → Good M n rows (pass M rows s)
  good-pass = pass-keeps M rows (Good M n rows) good-keeps

  pub good-passes : (p : ℕ) (s : State) → Good M n rows s → Good M n rows (passes M rows p s)
  good-passes = passes-keep M rows (Good M n rows) good-keeps

  pub good-blank : Good M n rows (blank n)
  good-blank = record {
    sized = record { costs = length-replicate n 0; ranks = length-replicate n 0 };
    grounded = λ c h. absurd (omega (arith, replicate-get n c));
    capped = λ c. omega (arith, replicate-get n c);
    sourced = λ c h. absurd (omega (arith, replicate-get n c));
  }

  -- judged by a fixpoint f, a pass that changes something makes a class final
  marks-grow : (f s : State) → Good M n rows f → Fixed M rows f → Good M n rows s → pass M rows s ≢ s
      → total (mark f s) n < total (mark f (pass M rows s)) n
  marks-grow f s gf fixed g d = go (dec_lt (total (mark f s) n) (total (mark f (pass M rows s)) n))
    where
      no_more : total (mark f (pass M rows s)) n ≤ total (mark f s) n → (c : ℕ) → Final f (pass M rows s) c
          → Final f s c
      no_more t c x =
          let l = in-range (pass M rows s).ranks c x.0 in
          let b = mark-mono f s (pass M rows s) (pass-better M rows n w s g.sized) in
          let h : c < n = omega (arith, (good-pass s g).sized.ranks) in
          let k = total-tight (mark f s) (mark f (pass M rows s)) n b t c h in
          mark-final f s c (omega (arith, final-mark f (pass M rows s) c x))

      go : Dec (total (mark f s) n < total (mark f (pass M rows s)) n)
          → total (mark f s) n < total (mark f (pass M rows s)) n
      go (yes k) = k
      go (no k) =
          absurd (d (pass-of-fixed M rows s
          (fixed-when-no-more M rows n w f fixed gf.grounded (exact M rows f fixed gf.sourced) s g.sized
          g.grounded
          (no_more (omega arith)))))

  busy-marks : (f s : State) → Good M n rows f → Fixed M rows f → Good M n rows s → (p : ℕ) → Busy M rows s p
      → p ≤ total (mark f (passes M rows p s)) n
  unfolding passes
  busy-marks f s gf fixed g zero b = omega arith
  busy-marks f s gf fixed g (suc p) b =
      let ih = busy-marks f s gf fixed g p (λ q l. b q (omega arith)) in
      omega (arith, marks-grow f (passes M rows p s) gf fixed (good-passes p s g) (b p (omega arith)))

  -- at most n passes change something
  pub busy-le-classes : (s : State) → Good M n rows s → (p : ℕ) → Busy M rows s p → p ≤ n
  busy-le-classes s g p b =
      let e = still-comes M n rows w s g.sized in
      let f = passes M rows e.0 s in
      let fixed = (pass-still M rows f e.1).0 in
      omega (
        arith,
        busy-marks f s (good-passes e.0 s g) fixed g p b,
        total-of-ones (mark f (passes M rows p s)) n (mark-le-one f (passes M rows p s)),
      )

  -- and at most as many as classes have a cost in the end
  pub busy-le-costed : (s : State) → Good M n rows s → (p : ℕ) → Busy M rows s p
      → pass M rows (passes M rows p s) ≡ passes M rows p s → p ≤ costed (passes M rows p s).ranks
  busy-le-costed s g p b e =
      let f = passes M rows p s in
      let gf = good-passes p s g in
      let fixed = (pass-still M rows f (omega (arith, ap (λ (u : State). u.last) e))).0 in
      let l : total (λ c. given (get_or f.ranks c 0)) n ≡ costed f.ranks =
      subst (λ (k : ℕ). total (λ c. given (get_or f.ranks c 0)) k ≡ costed f.ranks) gf.sized.ranks
      (total-of-list given f.ranks) in
      omega (
        arith,
        busy-marks f s gf fixed g p b,
        total-le (mark f f) (λ c. given (get_or f.ranks c 0)) n (mark-le-given f),
      )
