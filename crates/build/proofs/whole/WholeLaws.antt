-- Laws on building as one call. Assumes nothing.
use Prim.Native.Nat.{ℕ, ◌+◌, ◌<◌}
use mathlib.Core.Path.{◌≡◌, refl, ap}
use mathlib.Core.Bool.{Bool, true, false, not}
use mathlib.Core.List.{List}
use native.Mathlib.Omega.{arith}
use lib.ListN.{replicate}
use lib.IntN.{ℤ}
use Rattle.term_rules.specs.Lent.{Store}
use Rattle.term_rules.specs.WellFormed.{well_formed}
use Rattle.build.specs.Plan.{class, Plan}
use Rattle.build.specs.Building.{State, state, Out, done, full, build_in}
use Rattle.build.specs.Ready.{seen, Ranked, Exact}
use Rattle.build.specs.Whole.{left, whole, Tells}
use Rattle.std.specs.Prelude.{Option, Some, None}
use Rattle.std.specs.Option.{is_some}
use Rattle.build.proofs.BuildingLaws.{Right, build-right, tracks-of-zeros}

module _ (p : Plan) (r : ℕ) (s : Store) (c : ℕ) where
  whole-of-done :
      (t : ℕ) (s' : State) →
      Exact p r (state (replicate 512 0) s) c (done t s') →
      whole p r s c ≡ record { answer = Some t; store = s'.lent }
  unfolding whole left
  whole-of-done t s' e = ap (left s) (e (r + 1) (omega arith))

  pub whole-of-some :
      (a : Option ℕ) (me : List ℕ) (s' : Store) {b : Bool} →
      is_some a ≡ not b →
      b ≡ false →
      Exact p r (state (replicate 512 0) s) c (seen a me s') →
      whole p r s c ≡ record { answer = a; store = s' }
  whole-of-some (Some t) me s' h n e = whole-of-done t _ e
  whole-of-some None me s' h n e = cc (ap not n)

  pub whole-of-full :
      (me rs : List ℕ) (ls : List ℤ) (ns : List ℕ) →
      Exact p r (state (replicate 512 0) s) c (full me rs ls ns) →
      whole p r s c ≡ record { answer = None; store = s }
  unfolding whole left
  whole-of-full me rs ls ns e = ap (left s) (e (r + 1) (omega arith))

module _
    (p : Plan)
    (rank : ℕ → ℕ)
    (ranked : Ranked p rank)
    (s : Store)
    (c : ℕ)
    (formed : well_formed s ≡ true)
    (h : 0 < rank c) where
  left-tells :
      (o : Out ℕ) →
      Right p (state (replicate 512 0) s) (class c) o →
      Tells p s c (left s o).answer (left s o).store
  unfolding left
  left-tells (done t s') b = record { grows = b.grows; stands = b.stands }
  left-tells (full me rs ls ns) k = refl

  -- the term of the class stands in the returned store, or nothing changed
  pub whole_tells :
      Tells p s c (whole p (rank c) s c).answer (whole p (rank c) s c).store
  unfolding whole
  whole_tells =
      left-tells (build_in p (rank c + 1) (state (replicate 512 0) s) c)
      (build-right p rank ranked (rank c + 1) (state (replicate 512 0) s) c (tracks-of-zeros p 512 s formed) h
      (omega arith))
