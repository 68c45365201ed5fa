-- A child's answer is the definition's. Assumes nothing.
use Prim.Native.Nat.{ℕ, ◌-◌, ◌<◌, ◌≤◌}
use mathlib.Core.Path.{◌≡◌, ap, ◌∙◌}
use mathlib.Core.List.{List}
use lib.IntN.{ℤ, pos}
use lib.ListN.{get_or}
use Rattle.term_rules.specs.Nodes.{literal}
use Rattle.term_rules.specs.Lent.{Store}
use Rattle.term_rules.specs.Adding.{add}
use Rattle.build.specs.Plan.{Child, class, value, Plan, plan_of}
use Rattle.build.specs.Building.{State, state, Out, done, full, added, child_in, build_in}
use Rattle.build.specs.Ready.{Exact}
use Rattle.build.proofs.PlanLaws.{child_of-class, child_of-value, ranked-of-planned}
use Rattle.build.proofs.BuildingLaws.{Right, exact-right}
use Rattle.build.proofs.TurnLaws.{child_in-class, child_in-value, made-of-value}
use Rattle.variant_terms.specs.Rows.{Builder, KidIn, Leaves, KidMade}

leaves-of-right : (p : Plan) (s : State) (x : Child) (o : Out ℕ) → Right p s x o → Leaves p s o
leaves-of-right p s x (done t s') r = record { grows = r.grows; tracks = r.tracks; below = r.stands.below }
leaves-of-right p s x (full me rs ls ns) r = r

module _
    (rank : ℕ → ℕ) (rows edges ranks labels : List ℕ) (values : List ℤ) (me : List ℕ) (s : Store)
    (b : Builder rank rows edges labels values me s) (x : ℕ) (k : KidIn rank ranks values x) (o : Out ℕ) where
  abbrev p : Plan
  p = plan_of rows edges labels values

  pub kid-of-class : x < 512 → Exact p (get_or ranks x 0) (state me s) x o → KidMade p ranks values (state me s) x o
  kid-of-class h e = record {
    same = λ d deep.
        ap (child_in (build_in p d) (state me s)) (child_of-class values x h)
        ∙ child_in-class (build_in p d) (state me s) x
        ∙ e d (deep x);
    leaves =
        leaves-of-right p (state me s) (class x) o
        (exact-right p rank (ranked-of-planned rank rows edges labels values b.planned) (state me s) x b.tracks
        (k.ranked h) (get_or ranks x 0) (k.enough h) o e);
  }

  pub kid-of-value :
      512 ≤ x →
      added (state me s) (add s (literal (get_or values (x - 512) (pos 0)))) ≡ o →
      KidMade p ranks values (state me s) x o
  kid-of-value h e =
      let z : ℤ = get_or values (x - 512) (pos 0) in
      record {
        same = λ d deep.
            ap (child_in (build_in p d) (state me s)) (child_of-value values x h)
            ∙ child_in-value (build_in p d) (state me s) z
            ∙ e;
        leaves =
            leaves-of-right p (state me s) (value z) o
            (made-of-value p rank (ranked-of-planned rank rows edges labels values b.planned) 0 (state me s)
            b.tracks o z e).right;
      }
