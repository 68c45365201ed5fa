-- Building rows in turn leaves the lists of a lent store as long as they were. Assumes nothing.
use Prim.Native.Nat.{ℕ}
use mathlib.Core.Path.{◌≡◌, subst}
use mathlib.Core.List.{List, [], ◌∷◌, ◌++◌}
use lib.IntN.{ℤ}
use Rattle.term_rules.specs.Lent.{Store}
use Rattle.term_rules.specs.Nodes.{application}
use Rattle.term_rules.specs.Adding.{add}
use Rattle.build.specs.Plan.{Child, Plan}
use Rattle.build.specs.Building.{State, Out, done, full, added, children_in, build_in}
use Rattle.build.proofs.LongLaws.{Long, LongOut, same, later, added-long, children-long, build-long}
use Rattle.answer_rules.specs.Variants.{own_variant}
use Rattle.variant_terms.specs.Turned.{rows_in}

own-long : (s : Store) (name : List ℕ) (o : Out (List ℕ)) → LongOut s o → LongOut s (own_variant name o)
unfolding own_variant
own-long s name (full me rs ls ns) h = h
own-long s name (done ks s') h =
    later s'.lent h (added s' (add s'.lent (application name ks))) (added-long s' (application name ks))

module _ (p : Plan) (d : ℕ) (name : ℕ → List ℕ) (kids : ℕ → List Child) where
  next-long :
      (rows : List ℕ) (s : State) (ts : List ℕ) →
      ((s' : State) (us : List ℕ) → LongOut s'.lent (rows_in p d name kids s' us rows)) → (o : Out ℕ) →
      LongOut s.lent o →
      LongOut s.lent
      (elim o as (λ _. Out (List ℕ)) [
        | done u s' ↦ rows_in p d name kids s' (ts ++ (u ∷ [])) rows
        | full me rs ls ns ↦ full me rs ls ns
      ])
  next-long rows s ts on (done u s') h =
      later s'.lent h (rows_in p d name kids s' (ts ++ (u ∷ [])) rows) (on s' (ts ++ (u ∷ [])))
  next-long rows s ts on (full me rs ls ns) h = h

  pub rows-long : (rows : List ℕ) (s : State) (ts : List ℕ) → LongOut s.lent (rows_in p d name kids s ts rows)
  unfolding rows_in
  rows-long [] s ts = same s.lent
  rows-long (i ∷ rows) s ts =
      next-long rows s ts (rows-long rows) (own_variant (name i) (children_in (build_in p d) s [] (kids i)))
      (own-long s.lent (name i) (children_in (build_in p d) s [] (kids i))
      (children-long (build_in p d) (build-long p d) (kids i) s []))

  -- where there was no room
  pub full-rows-long :
      (rows : List ℕ) (s : State) {me rs ns : List ℕ} {ls : List ℤ} →
      rows_in p d name kids s [] rows ≡ full me rs ls ns → Long s.lent rs ls ns
  full-rows-long rows s e = subst (LongOut s.lent) e (rows-long rows s [])
