-- A row's term, built over the terms of its children: the store grows and has it. Assumes nothing.
use mathlib.Core.Path.{◌≡◌, subst}
use mathlib.Core.Bool.{true}
use mathlib.Core.List.{List, [], ◌∷◌, ◌++◌, append-nil, append_assoc}
use Prim.Native.Nat.{ℕ, ◌<◌, ◌≤◌}
use native.Mathlib.Omega.{arith}
use lib.ListN.{length}
use Rattle.name.specs.Name.{valid}
use Rattle.term_rules.specs.Nodes.{Trees, application, applied, Means, is_applied}
use Rattle.term_rules.specs.Adding.{Adds, at, no_room, add}
use Rattle.term_rules.specs.Growing.{Grows, Gives}
use Rattle.term_rules.proofs.Adding.AddingLaws.{grows-refl, grows-trans, add-gives}
use Rattle.build.specs.Plan.{Child, Plan, TreesOf}
use Rattle.build.specs.Building.{State, Out, done, full, added, child_in, children_in, build_in}
use Rattle.build.specs.Standing.{Tracks}
use Rattle.build.specs.Ready.{AllLower, Ranked}
use Rattle.build.proofs.StandingLaws.{
  stands-grows,
  none_stand,
  stand_all-grows,
  stand_all-append,
  stand_all-length,
  stand_all-below,
  stand_all-trees,
}
use Rattle.build.proofs.BuildingLaws.{Right, BuildsAll, RightAll, child-right, build-right}
use Rattle.answer_rules.specs.Variants.{own_variant}

module _ (p : Plan) (rank : ℕ → ℕ) (ranked : Ranked p rank) (d : ℕ) where
  go_on :
      (x : Child) (xs ys : List Child) (s₀ s : State) (ks : List ℕ) →
      ((zs : List Child) (s' : State) (js : List ℕ) →
      BuildsAll p s₀ zs js s' →
      RightAll p s₀ (zs ++ xs) (children_in (build_in p d) s' js xs)) →
      BuildsAll p s₀ ys ks s →
      (o : Out ℕ) →
      Right p s x o →
      RightAll p s₀ (ys ++ (x ∷ xs))
      (elim o as (λ _. Out (List ℕ)) [
        | done t s' ↦ children_in (build_in p d) s' (ks ++ (t ∷ [])) xs
        | full me rs ls ns ↦ full me rs ls ns
      ])
  go_on x xs ys s₀ s ks rest h (done t s') b =
      subst (λ (zs : List Child). RightAll p s₀ zs (children_in (build_in p d) s' (ks ++ (t ∷ [])) xs))
      (append_assoc ys (x ∷ []) xs)
      (rest (ys ++ (x ∷ [])) s' (ks ++ (t ∷ []))
      (record {
        grows = grows-trans h.grows b.grows;
        tracks = b.tracks;
        stand = stand_all-append (stand_all-grows b.grows h.stand) b.stands;
      }))
  go_on x xs ys s₀ s ks rest h (full me rs ls ns) b = record {
    last = b.last;
    grows = grows-trans h.grows b.grows;
    records = b.records;
    literals = b.literals;
    names = b.names;
  }

  all_right :
      (xs : List Child) →
      AllLower rank d xs →
      (ys : List Child) (s₀ s : State) (ks : List ℕ) →
      BuildsAll p s₀ ys ks s →
      RightAll p s₀ (ys ++ xs) (children_in (build_in p d) s ks xs)
  unfolding children_in
  all_right [] l ys s₀ s ks h = rw append-nil h
  all_right (x ∷ xs) l ys s₀ s ks h =
      go_on x xs ys s₀ s ks (λ zs s' js b. all_right xs l.1 zs s₀ s' js b) h (child_in (build_in p d) s x)
      (child-right p rank ranked d (build_in p d) (build-right p rank ranked d) s x h.tracks l.0)

  -- what a row's term leaves: of that name, over the trees of the children
  pub record Made (name : List ℕ) (xs : List Child) (s : State) (u : ℕ) (s' : State) : Type 0 where
    pub grows : Grows s.lent s'.lent
    pub tracks : Tracks p s'
    pub below : u < s'.lent.terms
    pub trees : Trees
    pub of : TreesOf p xs trees
    pub means : Means s'.lent u (applied name trees)

  abbrev pub RowRight : List ℕ → List Child → State → Out ℕ → Type 0
  RowRight name xs s (done u s') = Made name xs s u s'
  RowRight name xs s (full me rs ls ns) = Unit {0}

  added-made :
      (name : List ℕ) (xs : List Child) (s₀ s : State) (ks : List ℕ) →
      BuildsAll p s₀ xs ks s →
      (a : Adds) →
      Gives s.lent (application name ks) a →
      RowRight name xs s₀ (added s a)
  unfolding added
  added-made name xs s₀ s ks h (at u lent) b =
      let v = stand_all-trees (stand_all-grows b.grows h.stand) in
      record {
        grows = grows-trans h.grows b.grows;
        tracks = record { formed = b.grows.formed; memo = λ c l. stands-grows b.grows (h.tracks.memo c l) };
        below = b.below;
        trees = v.trees;
        of = v.of;
        means = is_applied name ks v.trees b.is v.means;
      }
  added-made name xs s₀ s ks h no_room b = tt

  own-made :
      (name : List ℕ) (xs : List Child) (s : State) →
      valid name ≡ true →
      length xs ≤ 8 →
      (o : Out (List ℕ)) →
      RightAll p s xs o →
      RowRight name xs s (own_variant name o)
  unfolding own_variant
  own-made name xs s v few (done ks s') h =
      added-made name xs s s' ks h (add s'.lent (application name ks))
      (add-gives s'.lent (application name ks) h.tracks.formed
      (v, omega (arith, stand_all-length h.stand, few), stand_all-below h.stand))
  own-made name xs s v few (full me rs ls ns) h = tt

  -- a row of that name over children that have their ranks
  pub row_made :
      (name : List ℕ) (xs : List Child) (s : State) →
      valid name ≡ true →
      length xs ≤ 8 →
      AllLower rank d xs →
      Tracks p s →
      RowRight name xs s (own_variant name (children_in (build_in p d) s [] xs))
  row_made name xs s v few l h =
      own-made name xs s v few (children_in (build_in p d) s [] xs)
      (all_right xs l [] s s []
      (record { grows = grows-refl s.lent h.formed; tracks = h; stand = none_stand }))
