-- Laws that follow the code of `grow_row`: the loop over a row's children, and the row's own term. Assumes nothing.
use Prim.{Dec, yes, no}
use Prim.Native.Nat.{ℕ, ◌+◌, ◌<◌, ◌≤◌}
use mathlib.Core.Path.{◌≡◌, refl, sym, ap, subst, ◌∙◌}
use mathlib.Core.Bool.{true}
use mathlib.Core.List.{List, [], map}
use native.Mathlib.Decide.{ℕ_discrete}
use native.Mathlib.Numerals.{add-one}
use native.Mathlib.Omega.{arith}
use lib.IntN.{ℤ}
use lib.ListN.{length, get_or, set, take, drop, length-set}
use lib.Seq.{take-suc-set, get_or-set_same, get_or-set_other, length-take-le, get_or-take}
use Rattle.name.specs.Name.{valid}
use Rattle.term_rules.specs.Lent.{Store}
use Rattle.term_rules.specs.Nodes.{Node, application}
use Rattle.term_rules.specs.Adding.{Adds, at, no_room, add}
use Rattle.term_rules.specs.Growing.{Grows, Gives}
use Rattle.term_rules.proofs.Adding.AddingLaws.{grows-refl, grows-trans, add-gives}
use Rattle.build.specs.Plan.{Plan, child_of}
use Rattle.build.specs.Building.{State, Out, done, full, added, children_in, build_in}
use Rattle.build.specs.Standing.{Tracks, Stuck}
use Rattle.build.proofs.StandingLaws.{stands-grows}
use Rattle.build.proofs.PlanLaws.{children-next, children-end}
use Rattle.build.proofs.TurnLaws.{children_in-go, children_in-stop, children_in-end}
use Rattle.answer_rules.specs.Variants.{own_variant}
use Rattle.variant_terms.specs.Rows.{Deep, Leaves, KidMade, RowMade}

own-of-full :
    (name me rs : List ℕ) (ls : List ℤ) (ns : List ℕ) → own_variant name (full me rs ls ns) ≡ full me rs ls ns
unfolding own_variant
own-of-full name me rs ls ns = refl

own-of-done :
    (name ks : List ℕ) (s : State) → own_variant name (done ks s) ≡ added s (add s.lent (application name ks))
unfolding own_variant
own-of-done name ks s = refl

pub stuck-after :
    {s s' : Store} {rs ns : List ℕ} {ls : List ℤ} → Grows s s' → Stuck s' rs ls ns → Stuck s rs ls ns
stuck-after g k = record {
  last = k.last;
  grows = grows-trans g k.grows;
  records = k.records;
  literals = k.literals;
  names = k.names;
}

leaves_after : (p : Plan) (s s' : State) → Grows s.lent s'.lent → (o : Out ℕ) → Leaves p s' o → Leaves p s o
leaves_after p s s' g (done t s'') l = record { grows = grows-trans g l.grows; tracks = l.tracks; below = l.below }
leaves_after p s s' g (full me rs ls ns) l = stuck-after g l

-- what adding an application leaves, by the answer
own-by :
    (p : Plan) (s : State) (node : Node) →
    Tracks p s →
    (a : Adds) →
    add s.lent node ≡ a →
    Gives s.lent node a →
    Leaves p s (added s a)
unfolding added
own-by p s node h (at t lent) e w = record {
  grows = w.grows;
  tracks = record { formed = w.grows.formed; memo = λ c l. stands-grows w.grows (h.memo c l) };
  below = w.below;
}
own-by p s node h no_room e w = record {
  last = s.lent;
  grows = grows-refl s.lent h.formed;
  records = refl;
  literals = refl;
  names = refl;
}

own-leaves :
    (p : Plan) (s : State) (name ks : List ℕ) →
    Tracks p s →
    valid name ≡ true →
    length ks ≤ 8 →
    ((j : ℕ) → j < length ks → get_or ks j 0 < s.lent.terms) →
    Leaves p s (added s (add s.lent (application name ks)))
own-leaves p s name ks h v few below =
    own-by p s (application name ks) h (add s.lent (application name ks)) refl
    (add-gives s.lent (application name ks) h.formed (v, few, below))

-- The loop over the children of a row: those before place j are built, in order, and the state is as the definition's.
pub record Turn
    (p : Plan) (ranks : List ℕ) (values : List ℤ) (first : State) (kids : List ℕ) (at : State) (ks : List ℕ) (j : ℕ) :
    Type 0 where
  pub within : j ≤ length kids
  pub long : length ks ≡ 8
  pub memo : length at.memo ≡ length first.memo
  pub tracks : Tracks p at
  pub grows : Grows first.lent at.lent
  pub below : (i : ℕ) → i < j → get_or ks i 0 < at.lent.terms
  pub same :
      (d : ℕ) →
      Deep ranks d →
      children_in (build_in p d) first [] (map (child_of values) kids)
      ≡ children_in (build_in p d) at (take j ks) (drop j (map (child_of values) kids))

module _
    (p : Plan) (ranks : List ℕ) (values : List ℤ) (first : State) (kids : List ℕ) (at : State) (ks : List ℕ) (j : ℕ)
    (few : length kids ≤ 8) (turn : Turn p ranks values first kids at ks j) where
  below_set :
      (t m : ℕ) →
      at.lent.terms ≤ m →
      t < m →
      j < 8 →
      (i : ℕ) →
      Dec (i ≡ j) →
      i < j + 1 →
      get_or (set ks j t) i 0 < m
  below_set t m h l b i (yes e) q =
      omega (arith, ap (λ (a : ℕ). get_or (set ks j t) a 0) e, get_or-set_same ks j t 0 (omega (arith, turn.long)))
  below_set t m h l b i (no d) q = omega (arith, get_or-set_other ks j i t 0 d, turn.below i (omega arith))

  -- the next child came
  pub turn-go :
      j < length kids →
      (t : ℕ) (s' : State) →
      KidMade p ranks values at (get_or kids j 0) (done t s') →
      length s'.memo ≡ length at.memo →
      Turn p ranks values first kids s' (set ks j t) (j + 1)
  turn-go l t s' made em =
      let small : j < 8 = omega arith in
      let inside : j < length ks = omega (arith, turn.long) in
      record {
        within = omega arith;
        long = length-set ks j t ∙ turn.long;
        memo = em ∙ turn.memo;
        tracks = made.leaves.tracks;
        grows = grows-trans turn.grows made.leaves.grows;
        below = λ i q.
            below_set t s'.lent.terms made.leaves.grows.more made.leaves.below small i (ℕ_discrete i j) q;
        same = λ d deep.
            turn.same d deep
            ∙ ap (children_in (build_in p d) at (take j ks)) (children-next values kids j l)
            ∙ children_in-go (build_in p d) at (take j ks) (child_of values (get_or kids j 0))
            (drop (j + 1) (map (child_of values) kids)) t s' (made.same d deep)
            ∙ ap (λ (ms : List ℕ). children_in (build_in p d) s' ms (drop (j + 1) (map (child_of values) kids)))
            (sym (ap (λ (i : ℕ). take i (set ks j t)) (add-one j) ∙ take-suc-set ks j t inside));
      }

  -- it had no room
  pub turn-stop :
      j < length kids →
      (name me rs : List ℕ) (ls : List ℤ) (ns : List ℕ) →
      KidMade p ranks values at (get_or kids j 0) (full me rs ls ns) →
      RowMade p ranks values name kids first (full me rs ls ns)
  turn-stop l name me rs ls ns made = record {
    same = λ d deep.
        ap (own_variant name)
        (turn.same d deep
        ∙ ap (children_in (build_in p d) at (take j ks)) (children-next values kids j l)
        ∙ children_in-stop (build_in p d) at (take j ks) (child_of values (get_or kids j 0))
        (drop (j + 1) (map (child_of values) kids)) me rs ls ns (made.same d deep))
        ∙ own-of-full name me rs ls ns;
    leaves = stuck-after turn.grows made.leaves;
  }

  -- all came, and then the row's own term
  pub turn_end :
      length kids ≤ j →
      (name : List ℕ) (o : Out ℕ) →
      valid name ≡ true →
      added at (add at.lent (application name (take j ks))) ≡ o →
      RowMade p ranks values name kids first o
  turn_end l name o v e =
      let n : length (take j ks) ≡ j = length-take-le j ks (omega (arith, turn.long, turn.within)) in
      record {
        same = λ d deep.
            ap (own_variant name)
            (turn.same d deep
            ∙ ap (children_in (build_in p d) at (take j ks))
            (children-end values kids j l)
            ∙ children_in-end (build_in p d) at (take j ks))
            ∙ own-of-done name (take j ks) at
            ∙ e;
        leaves =
            leaves_after p first at turn.grows o
            (subst (λ (q : Out ℕ). Leaves p at q) e
            (own-leaves p at name (take j ks) turn.tracks v (omega (arith, n, turn.within))
            (λ i h. rw (get_or-take j ks i 0 (omega (arith, n))) (turn.below i (omega (arith, n))))));
      }
