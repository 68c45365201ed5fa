-- The definition of the call and the adds made one by one, as the promises speak of them, are the same. Assumes
-- nothing.
use Prim.Native.Nat.{ℕ, zero, suc, ◌+◌, ◌-◌, ◌≤◌}
use mathlib.Core.Path.{◌≡◌, refl, sym, ap, subst, ◌∙◌}
use mathlib.Core.Bool.{true}
use mathlib.Core.List.{List, [], ◌∷◌, ◌++◌}
use native.Mathlib.Omega.{arith}
use lib.ListN.{length}
use Rattle.term_rules.specs.Lent.{Store}
use Rattle.term_rules.specs.WellFormed.{well_formed}
use Rattle.term_rules.specs.Growing.{Grows}
use Rattle.term_rules.proofs.Adding.AddingLaws.{grows-refl, grows-trans}
use Rattle.term.specs.Answers.{Answer, given, refused}
use Rattle.term.proofs.DeterminedLaws.{given-same, refused-same, given-refused}
use Rattle.term_one.specs.Wanted.{Wanted, add_count, asked_at}
use Rattle.term_many.specs.Many.{add_from}
use Rattle.term_many.specs.Promises.{OneByOne, none, more, Stops, own, no_place, FirstFault}
use Rattle.term_many.proofs.FromLaws.{
  one-takes,
  next,
  from_end,
  from-go,
  from-full,
  from-stop,
  from-cases,
  snoc-length,
}

module _ (w : Wanted) (s : Store) where
  -- what grew from a well-formed store is well formed
  pub made-grows : {got : List ℕ} {t : Store} → well_formed s ≡ true → OneByOne w s got t → Grows s t
  made-grows f (none e d) = subst (Grows s) (sym d) (grows-refl s f)
  made-grows f (more before u i made e g) =
      grows-trans (made-grows f made)
      (subst (Grows u) (ap (λ (a : Answer ℕ × Store). a.1) e)
      (one-takes u before (asked_at w (length before)) i (ap (λ (a : Answer ℕ × Store). a.0) e)).takes.grows)

  module _ (room : ℕ) where
    -- the definition goes on where the adds made one by one end
    pub made-from :
        {got : List ℕ} {t : Store} →
        OneByOne w s got t →
        (n : ℕ) →
        length got ≤ n →
        length got ≤ room →
        add_from w room s [] n ≡ add_from w room t got (n - length got)
    made-from {got = got} {t = t} (none e d) n h l =
        let z : n ≡ n - length got = omega (arith, ap length e) in
        ap (add_from w room s []) z
        ∙ ap (λ (g : List ℕ). add_from w room s g (n - length got)) (sym e)
        ∙ ap (λ (u : Store). add_from w room u got (n - length got)) (sym d)
    made-from {got = got} {t = t} (more before u i made e g) n h l =
        let c : length got ≡ length before + 1 = ap length g ∙ snoc-length before i in
        let m : ℕ = n - length got in
        let z : n - length before ≡ suc m = omega (arith, c) in
        made-from made n (omega (arith, c)) (omega (arith, c))
        ∙ ap (add_from w room u before) z
        ∙ from-go w room u before m i (ap (λ (a : Answer ℕ × Store). a.0) e) (omega (arith, c))
        ∙ ap (λ (x : Store). add_from w room x (before ++ (i ∷ [])) m) (ap (λ (a : Answer ℕ × Store). a.1) e)
        ∙ ap (λ (x : List ℕ). add_from w room t x m) (sym g)

    -- what it gives was made one by one
    pub from-made :
        (n : ℕ) (t : Store) (got : List ℕ) (p : List ℕ × Store) →
        OneByOne w s got t →
        add_from w room t got n ≡ given p →
        OneByOne w s p.0 p.1
    from-made zero t got p made e =
        let d : (got, t) ≡ p = given-same (sym (from_end w room t got) ∙ e) in
        subst (λ (x : List ℕ × Store). OneByOne w s x.0 x.1) d made
    from-made (suc n) t got p made e =
        from-cases w room t got n
        (λ i a l.
        from-made n (next w room t got).1 (got ++ (i ∷ [])) p
        (more got t i made (ap (λ (x : Answer ℕ). (x, (next w room t got).1)) a) refl)
        (sym (from-go w room t got n i a l) ∙ e))
        (λ i a l. given-refused (sym e ∙ from-full w room t got n i a l))
        (λ k a. given-refused (sym e ∙ from-stop w room t got n k a))

    -- what it refuses is the fault of the first add that has one
    pub from-fault :
        (k n : ℕ) (t : Store) (got : List ℕ) →
        OneByOne w s got t →
        length got + n ≡ add_count w →
        length got ≤ room →
        add_from w room t got n ≡ refused k →
        FirstFault w s room k
    from-fault k zero t got made c h e = given-refused (sym (from_end w room t got) ∙ e)
    from-fault k (suc n) t got made c h e =
        from-cases w room t got n
        (λ i a l.
        from-fault k n (next w room t got).1 (got ++ (i ∷ []))
        (more got t i made (ap (λ (x : Answer ℕ). (x, (next w room t got).1)) a) refl)
        (omega (arith, snoc-length got i)) (omega (arith, snoc-length got i))
        (sym (from-go w room t got n i a l) ∙ e))
        (λ i a l.
        record {
          got = got;
          at = t;
          before = made;
          places = h;
          one = omega arith;
          stops = no_place i a l (refused-same (sym e ∙ from-full w room t got n i a l));
        })
        (λ j a.
        record {
          got = got;
          at = t;
          before = made;
          places = h;
          one = omega arith;
          stops =
              own
              (a
              ∙ ap (λ (x : ℕ). refused x)
              (refused-same (sym (from-stop w room t got n j a) ∙ e)));
        })

    -- and each such fault is refused
    pub fault-from : (k : ℕ) → FirstFault w s room k → add_from w room s [] (add_count w) ≡ refused k
    fault-from k f =
        let m : ℕ = add_count w - length f.got - 1 in
        let z : add_count w - length f.got ≡ suc m = omega (arith, f.one) in
        made-from f.before (add_count w) (omega (arith, f.one)) f.places
        ∙ ap (add_from w room f.at f.got) z
        ∙ stopped m f.stops
      where
        stopped : (m : ℕ) → Stops w room f.at f.got k
            → add_from w room f.at f.got (suc m) ≡ refused k
        stopped m (own a) = from-stop w room f.at f.got m k a
        stopped m (no_place i a l e) =
            from-full w room f.at f.got m i a l ∙ ap (λ (x : ℕ). refused x) (sym e)
