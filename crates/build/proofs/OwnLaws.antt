-- Laws that follow the code of `literal_term` and `own_term`: what an answer of adding gives. Assumes nothing.
use Prim.Native.Nat.{ℕ, ◌+◌, ◌<◌}
use mathlib.Core.Path.{◌≡◌, refl, sym, ap, subst, ◌∙◌}
use mathlib.Core.Bool.{true}
use native.Mathlib.Omega.{arith}
use mathlib.Core.List.{List}
use lib.ListN.{set}
use Rattle.term_rules.specs.Lent.{Store}
use Rattle.term_rules.specs.Nodes.{Node, application}
use Rattle.term_rules.specs.Adding.{at, no_room, add}
use Rattle.term_rules.specs.WellFormed.{well_formed}
use Rattle.term_rules.proofs.FactsLaws.{sound-of-well_formed}
use Rattle.term_rules.specs.Growing.{Fit, Takes, Gives}
use Rattle.term_rules.proofs.Adding.AddingLaws.{add-gives}
use Rattle.std.specs.Prelude.{Option, Some, None}
use Rattle.term_add.specs.Held.{Gains, SameLoans}
use Rattle.term_add.specs.declared.store_mut.StoreMut.{StoreMut}
use Rattle.build.specs.Ready.{seen}
use Rattle.build.specs.Building.{state, done, no_more, added, kept, own_in}

module _ (me : List ℕ) (s : Store) where
  added-of-term : (node : Node) (t : ℕ) (s' : Store) → at t s' ≡ add s node → added (state me s) (add s node) ≡
      done t (state me s')
  unfolding added
  added-of-term node t s' e = ap (added (state me s)) (sym e)

  -- nothing was changed where there was no room
  added-of-no_room : (node : Node) (s' : Store) → no_room ≡ add s node → s' ≡ s → added (state me s) (add s node) ≡
      no_more me s'
  unfolding added
  added-of-no_room node s' e k = ap (added (state me s)) (sym e) ∙ ap (no_more me) (sym k)

  -- what an answer of adding gives
  pub added-of-gains : (node : Node) (r : Option ℕ) (s' : Store) → Gains s (add s node) r s' → added (state me s) (add s node) ≡
      seen r me s'
  added-of-gains node (Some t) s' w = added-of-term node t s' w.answer
  added-of-gains node None s' w = added-of-no_room node s' w.answer (w.kept refl)

  module _ (name : List ℕ) (c : ℕ) (ks : List ℕ) where
    pub own-of-term :
        (t : ℕ) (s' : Store) →
        at t s' ≡ add s (application name ks) →
        own_in name c (done ks (state me s)) ≡ done t (state (set me c (t + 1)) s')
    unfolding own_in kept
    own-of-term t s' e = ap (kept c) (added-of-term (application name ks) t s' e)

    pub own-of-no_room :
        (s' : Store) →
        no_room ≡ add s (application name ks) →
        s' ≡ s →
        own_in name c (done ks (state me s)) ≡ no_more me s'
    unfolding own_in kept
    own-of-no_room s' e k = ap (kept c) (added-of-no_room (application name ks) s' e k)

-- the number of a term that was added is below 1,024
pub number-limit :
    (s : Store) (node : Node) (t : ℕ) (s' : Store) →
    well_formed s ≡ true →
    Fit s node →
    at t s' ≡ add s node →
    t < 1024
number-limit s node t s' f h e =
    let g : Takes s node t s' = subst (Gives s node) (sym e) (add-gives s node f h) in
    omega (arith, g.below, (sound-of-well_formed s' g.grows.formed).term_limit)

-- the same slices are lent throughout
pub same-loans : {a b d : StoreMut} → SameLoans a b → SameLoans b d → SameLoans a d
same-loans p q = record {
  records = q.records ∙ p.records;
  literals = q.literals ∙ p.literals;
  names = q.names ∙ p.names;
}
