-- A class that is built as one call: its term comes back in a store of the same room, or no store of that room that
-- keeps the first one's terms and names holds it. Assumes nothing.
use Prim.Native.Nat.{ℕ, ◌+◌, ◌<◌}
use mathlib.Core.Path.{◌≡◌, refl, subst}
use mathlib.Core.Bool.{true}
use native.Mathlib.Omega.{arith}
use lib.ListN.{replicate}
use Rattle.term_rules.specs.Lent.{Store}
use Rattle.term_rules.specs.WellFormed.{well_formed}
use Rattle.term_rules.specs.Nodes.{Tree, Trees, none, more, Means}
use Rattle.term_rules.specs.Adding.{Adds, at, no_room, add}
use Rattle.term_rules.proofs.FactsLaws.{sound-of-well_formed}
use Rattle.build.specs.Plan.{class, Plan, ChildTree}
use Rattle.build.specs.Building.{state, Out, done, full, build_in}
use Rattle.build.specs.Ready.{Ranked}
use Rattle.std.specs.Prelude.{Option, Some, None}
use Rattle.build.proofs.StandingLaws.{child_tree-unique}
use Rattle.build.proofs.BuildingLaws.{tracks-of-zeros}
use Rattle.build.specs.Whole.{left, whole, Tells}
use Rattle.build.proofs.whole.WholeLaws.{whole_tells}
use Rattle.answer_rules.specs.Room.{Holds, Fits, NoRoomFor}
use Rattle.answer_rules.proofs.Room.HoldLaws.{AllTrees, children-held}
use Rattle.answer_rules.proofs.Room.StepLaws.{
  Within,
  within-of-fits,
  fits-self,
  fits-trans,
  GoodAdd,
  add-fits,
  add-within,
}
use Rattle.answer_rules.proofs.Room.BuildLaws.{Good, Step, build-good}

not_full : {P : Type 0} {i : ℕ} → ◌≡◌ {A = Option ℕ} (Some i) None → P
not_full e = let z : ◌≡◌ {A = ℕ} 0 1 = cc in absurd (omega arith)

-- an answer, and what it says of the room
abbrev pub RoomBuilt : Store → Tree → Option ℕ → Store → Type 0
RoomBuilt s u (Some i) s' = Fits s s' × (i < s'.terms) × Means s' i u
RoomBuilt s u None s' = NoRoomFor s u

-- no tree need be anything
pub all-trees : (ts : Trees) → AllTrees (λ (u : Tree). Unit) ts
all-trees none = tt
all-trees (more t ts) = (tt, all-trees ts)

-- what is within a store that holds the term stays within it
pub within_step : (s' : Store) → well_formed s' ≡ true → Step (λ (b : Store). Within b s') (Holds s') ⊥
within_step s' g b node v f fit e n w = add-within b s' f g w node v fit e n

-- what fits still fits
pub fits-step : (s : Store) → Step (Fits s) (λ (v : Tree). Unit) Unit
fits-step s b node v f fit e n k = on (add b node) (add-fits b node f fit)
  where
    on : (a : Adds) → GoodAdd (Fits b) Unit a → GoodAdd (Fits s) Unit a
    on (at i s₂) q = fits-trans s b s₂ k q
    on no_room q = tt

module _
    (p : Plan) (rank : ℕ → ℕ) (ranked : Ranked p rank) (s : Store) (c : ℕ) (formed : well_formed s ≡ true)
    (h : 0 < rank c) (u : Tree) (tree : ChildTree p (class c) u) where
  abbrev built : Out ℕ
  built = build_in p (rank c + 1) (state (replicate 512 0) s) c

  -- what is built into a store that a second one fits, which holds the term, is never refused
  never-full : (s' : Store) → Fits s s' → Holds s' u → Good (λ (b : Store). Within b s') ⊥ built
  never-full s' g k =
      build-good p rank ranked (λ (b : Store). Within b s') (Holds s') ⊥
      (children-held s' (sound-of-well_formed s' g.formed))
      (within_step s' g.formed)
      (rank c + 1) (state (replicate 512 0) s) c (tracks-of-zeros p 512 s formed) h (omega arith)
      (record { tree = u; of = tree; need = k }) (within-of-fits s s' formed g)

  -- what is built fits
  always-fits : Good (Fits s) Unit built
  always-fits =
      build-good p rank ranked (Fits s) (λ (v : Tree). Unit) Unit (λ n ts q. all-trees ts)
      (fits-step s)
      (rank c + 1) (state (replicate 512 0) s) c (tracks-of-zeros p 512 s formed) h (omega arith)
      (record { tree = u; of = tree; need = tt }) (fits-self s formed)

  abbrev FitsBuilt : Option ℕ → Store → Type 0
  FitsBuilt (Some i) s' = Fits s s'
  FitsBuilt None s' = Unit

  left-fits : (o : Out ℕ) → Good (Fits s) Unit o → FitsBuilt (left s o).answer (left s o).store
  unfolding left
  left-fits (done t s') k = k
  left-fits (full me rs ls ns) k = tt

  left-full : (s' : Store) (o : Out ℕ) → Good (λ (b : Store). Within b s') ⊥ o → (left s o).answer ≡ None → ⊥
  unfolding left
  left-full s' (done t s'') k e = not_full e
  left-full s' (full me rs ls ns) k e = k

  room-built :
      (a : Option ℕ) (s' : Store) →
      Tells p s c a s' →
      FitsBuilt a s' →
      ((s₁ : Store) → Fits s s₁ → Holds s₁ u → a ≡ None → ⊥) →
      RoomBuilt s u a s'
  room-built (Some i) s' d f q = (
    f,
    d.stands.below,
    subst (λ (v : Tree). Means s' i v) (child_tree-unique d.stands.of tree) d.stands.means,
  )
  room-built None s' d f q = λ s₁ g k. q s₁ g k refl

  -- the term comes back, or has no room
  pub whole_room : RoomBuilt s u (whole p (rank c) s c).answer (whole p (rank c) s c).store
  unfolding whole
  whole_room =
      room-built (left s built).answer (left s built).store
      (whole_tells p rank ranked s c formed h) (left-fits built always-fits)
      (λ s' g k. left-full s' built (never-full s' g k))
