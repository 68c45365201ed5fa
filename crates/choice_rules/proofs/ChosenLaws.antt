-- The tree that edges choose: it is there for every class below saturation, costs what is stored and meets no class
-- twice on a path; and edges choose no second one. Assumes nothing.
use mathlib.Core.Path.{◌≡◌, refl, ap, ap₂, sym, ◌∙◌, subst}
use mathlib.Core.Bool.{Bool, true}
use mathlib.Core.List.{List, [], ◌∷◌}
use Prim.Native.Nat.{ℕ, suc, zero, ◌≤◌, ◌<◌}
use native.Mathlib.Omega.{arith}
use lib.ListN.{length, get_or}
use Rattle.choice_rules.specs.Rows.{Child, literal, class, Row, row_at, sum_of}
use Rattle.choice_rules.specs.Deriving.{Tree, leaf, node, Forest, none, more, Derives, DeriveAll, tree_cost}
use Rattle.choice_rules.specs.Deriving.{forest_cost, NotIn, Once, OnceAll}
use Rattle.choice_rules.specs.Run.{child_cost, row_cost}
use Rattle.choice_rules.specs.Edges.{Under, Edge, Chosen, ChosenAll}
use Rattle.choice_rules.specs.Demand.Deriving.{AllUsable, AllUsableIn}
use Rattle.choice_rules.proofs.ListLaws.{Each}

-- every class met has rank b at least
abbrev pub High : ℕ → List ℕ → List ℕ → Type 0
High b ranks met = Each (λ x. b ≤ get_or ranks x 0) met

high-not-in : (ranks : List ℕ) (c : ℕ) (met : List ℕ) → High (suc (get_or ranks c 0)) ranks met → NotIn c met
high-not-in ranks c [] h = tt
high-not-in ranks c (x ∷ met) h =
    (λ e. let q = ap (λ (y : ℕ). get_or ranks y 0) e in omega arith, high-not-in ranks c met h.1)

high-less : (a b : ℕ) (ranks met : List ℕ) → a ≤ b → High b ranks met → High a ranks met
high-less a b ranks [] l h = tt
high-less a b ranks (x ∷ met) l h = (omega arith, high-less a b ranks met l h.1)

each-of-get :
    (P : Child → Type 0) (ks : List Child) → ((j : ℕ) → j < length ks → P (get_or ks j (literal 0))) → Each P ks
each-of-get P [] f = tt
each-of-get P (k ∷ ks) f = (f 0 (omega arith), each-of-get P ks (λ j l. f (suc j) (omega arith)))

-- Any costs and ranks, and for each class with a cost below M a row that is an edge of it, and usable.
module _
    (M : ℕ) (rows : List Row) (costs ranks : List ℕ) (edge : ℕ → ℕ)
    (edges : (c : ℕ) → 0 < get_or ranks c 0 → get_or costs c 0 < M → Edge M costs ranks rows c (edge c))
    (usable : ℕ → Bool)
    (ok : (c : ℕ) → 0 < get_or ranks c 0 → get_or costs c 0 < M → usable (edge c) ≡ true) where
  pub record Choice (c : ℕ) : Type 0 where
    pub tree : Tree
    pub chosen : Chosen rows edge tree (class c)
    pub derives : Derives rows tree (class c)
    pub all_usable : AllUsable usable tree
    pub cost : tree_cost rows tree ≡ get_or costs c 0
    pub once : (met : List ℕ) → High (suc (get_or ranks c 0)) ranks met → Once rows met tree

  record Choices (b : ℕ) (ks : List Child) : Type 0 where
    forest : Forest
    chosen : ChosenAll rows edge forest ks
    derives : DeriveAll rows forest ks
    all_usable : AllUsableIn usable forest
    cost : forest_cost rows forest ≡ sum_of (child_cost costs) ks
    once : (met : List ℕ) → High b ranks met → OnceAll rows met forest

  -- the children's trees, left to right, where each class under rank b has its own
  choices :
      (b : ℕ) → ((c : ℕ) → Under M costs ranks b (class c) → Choice c) →
      (ks : List Child) → Each (Under M costs ranks b) ks → Choices b ks
  unfolding Chosen Derives AllUsable tree_cost sum_of child_cost Once
  choices b ih [] u =
      record { forest = none; chosen = tt; derives = tt; all_usable = tt; cost = refl; once = λ met x. tt }
  choices b ih (literal i ∷ ks) u =
      let q = choices b ih ks u.1 in
      record {
        forest = more (leaf i) q.forest;
        chosen = (refl, q.chosen);
        derives = (refl, q.derives);
        all_usable = (tt, q.all_usable);
        cost = omega (arith, q.cost);
        once = λ met x. (tt, q.once met x);
      }
  choices b ih (class c ∷ ks) u =
      let a = ih c u.0 in
      let q = choices b ih ks u.1 in
      record {
        forest = more a.tree q.forest;
        chosen = (a.chosen, q.chosen);
        derives = (a.derives, q.derives);
        all_usable = (a.all_usable, q.all_usable);
        cost = omega (arith, a.cost, q.cost);
        once = λ met x. (
          a.once met (high-less (suc (get_or ranks c 0)) b ranks met u.0.1 x),
          q.once met x,
        );
      }

  choice-from : (b c : ℕ) → get_or ranks c 0 < b → 0 < get_or ranks c 0 → get_or costs c 0 < M → Choice c
  unfolding Chosen Derives AllUsable tree_cost row_cost Once
  choice-from zero c l k h = absurd (omega arith)
  choice-from (suc b) c l k h =
      let i = edge c in
      let e = edges c k h in
      let o = e.output in
      let q = choices (get_or ranks c 0) (λ d u. choice-from b d (omega (arith, u.1)) u.0 u.2)
      (row_at rows i).children
      (each-of-get (Under M costs ranks (get_or ranks c 0)) (row_at rows i).children e.under) in
      record {
        tree = node i q.forest;
        chosen = (refl, q.chosen);
        derives = (e.known, o, q.derives);
        all_usable = (ok c k h, q.all_usable);
        cost = omega (arith, e.cost, q.cost);
        once = λ met x. (
          rw o (high-not-in ranks c met x),
          rw o (q.once (c ∷ met) (
            omega arith,
            high-less (get_or ranks c 0) (suc (get_or ranks c 0)) ranks met (omega arith) x,
          )),
        );
      }

  pub choice : (c : ℕ) → 0 < get_or ranks c 0 → get_or costs c 0 < M → Choice c
  choice c = choice-from (suc (get_or ranks c 0)) c (omega arith)

module _ (rows : List Row) (edge : ℕ → ℕ) where
  mutual
    unfolding Chosen

    pub chosen_unique : (t u : Tree) (k : Child) → Chosen rows edge t k → Chosen rows edge u k → t ≡ u
    chosen_unique (leaf i) (leaf j) (literal l) a b = ap leaf (a ∙ sym b)
    chosen_unique (leaf i) (leaf j) (class c) a b = absurd a
    chosen_unique (leaf i) (node j g) (literal l) a b = absurd b
    chosen_unique (leaf i) (node j g) (class c) a b = absurd a
    chosen_unique (node i f) (leaf j) (literal l) a b = absurd a
    chosen_unique (node i f) (leaf j) (class c) a b = absurd b
    chosen_unique (node i f) (node j g) (literal l) a b = absurd a
    chosen_unique (node i f) (node j g) (class c) a b =
        let e = a.0 ∙ sym b.0 in
        ap₂ node e (chosen-all-unique f g (row_at rows i).children a.1
        (subst (λ (x : ℕ). ChosenAll rows edge g (row_at rows x).children) (sym e) b.1))

    pub chosen-all-unique : (f g : Forest) (ks : List Child) → ChosenAll rows edge f ks → ChosenAll rows edge g ks
        → f ≡ g
    chosen-all-unique none none [] a b = refl
    chosen-all-unique none none (k ∷ ks) a b = absurd a
    chosen-all-unique none (more u g) [] a b = absurd b
    chosen-all-unique none (more u g) (k ∷ ks) a b = absurd a
    chosen-all-unique (more t f) none [] a b = absurd a
    chosen-all-unique (more t f) none (k ∷ ks) a b = absurd b
    chosen-all-unique (more t f) (more u g) [] a b = absurd a
    chosen-all-unique (more t f) (more u g) (k ∷ ks) a b =
        ap₂ more (chosen_unique t u k a.0 b.0) (chosen-all-unique f g ks a.1 b.1)
