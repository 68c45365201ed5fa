-- Each answer for the kept rows is the definition's. Assumes nothing.
use mathlib.Core.Path.{◌≡◌, refl, sym, ap, ◌∙◌}
use mathlib.Core.Bool.{true, false}
use mathlib.Core.List.{List, []}
use Prim.Native.Nat.{ℕ, ◌<◌, ◌≤◌, min}
use native.Mathlib.Omega.{arith}
use borrow.Author.Tests.{le-leb, lt-leb}
use lib.ListN.{length, get_or, take, replicate}
use lib.Seq.{paste, length-take-le}
use Rattle.refusal.specs.declared.Refusal.TheVariants.{TooDear, NoRoom}
use Rattle.term_rules.specs.Lent.{Store}
use Rattle.copies.specs.Copied.{copied}
use Rattle.choice_rules.proofs.Demand.OrderLaws.{map-length}
use Rattle.build.specs.Plan.{Child, Plan}
use Rattle.build.specs.Building.{state, Out, done, full}
use Rattle.answer_rules.specs.Variants.{Lending, variants_refused, variants_kept, room_for_results}
use Rattle.variant_terms.specs.Turned.{Wholly, whole, nothing, wholly, rows_in, RowsWhole, seen_wholly}
use Rattle.std.specs.Prelude.{Some, None, Ok, Err}
use Rattle.variant_answers.specs.Kept.{lending, seen, dear_in, prices_of, built_in, answer_in, Results, Answers}

-- the terms are copied to the front
pub terms-copied :
    (k : ℕ) (found ts ts' : List ℕ) →
    k ≤ length found →
    k ≤ length ts →
    ts' ≡ copied ts (take k found) →
    ts' ≡ paste ts 0 (take k found) (length (take k found))
unfolding copied
terms-copied k found ts ts' h l e =
    let n : length (take k found) ≡ k = length-take-le k found h in
    let m : min (length ts) (length (take k found)) ≡ length (take k found) = omega arith in
    e ∙ ap (paste ts 0 (take k found)) m

module _
    (plan : Plan) (ranks : List ℕ) (name : ℕ → List ℕ) (kids : ℕ → List Child) (p : ℕ) (prices rows : List ℕ)
    (s : Store) (ws ts : List ℕ) where
  abbrev l : Lending
  l = lending s ws ts

  abbrev given : ℕ → Wholly
  given d = wholly s (rows_in plan d name kids (state (replicate 512 0) s) [] rows)

  module _ (d : ℕ) where
    in-dear : dear_in prices rows ≡ true → answer_in p prices rows l (given d) ≡ variants_refused TooDear l
    unfolding answer_in
    in-dear e = rw (e, answer_in)

    in-full :
        dear_in prices rows ≡ false →
        room_for_results l (length rows) ≡ false →
        answer_in p prices rows l (given d) ≡ variants_refused NoRoom l
    unfolding answer_in
    in-full e f = rw (e, f, answer_in)

    in-built :
        dear_in prices rows ≡ false →
        room_for_results l (length rows) ≡ true →
        answer_in p prices rows l (given d) ≡ built_in p prices rows l (given d)
    unfolding answer_in
    in-built e f = rw (e, f, answer_in)

  pub answer-dear :
      dear_in prices rows ≡ true →
      Answers plan ranks name kids p prices rows l
      (seen (Err TooDear) s ws ts)
  answer-dear e = λ d deep. sym (in-dear d e)

  no-costs : length ws < length rows → room_for_results l (length rows) ≡ false
  unfolding room_for_results
  no-costs h = rw (lt-leb (length rows) (length ws) h)

  no-terms : length rows ≤ length ws → length ts < length rows → room_for_results l (length rows) ≡ false
  unfolding room_for_results
  no-terms h k = rw (le-leb (length rows) (length ws) h, lt-leb (length rows) (length ts) k)

  has_both : length rows ≤ length ws → length rows ≤ length ts → room_for_results l (length rows) ≡ true
  unfolding room_for_results
  has_both h k = rw (le-leb (length rows) (length ws) h, le-leb (length rows) (length ts) k)

  -- nothing is left only of a term that had no room, and then all is as it was
  no_room :
      (d : ℕ) (s' : Store) (o : Out (List ℕ)) → wholly s o ≡ nothing s' →
      seen (Err NoRoom) s' ws ts ≡ built_in p prices rows l (wholly s o)
  unfolding wholly built_in
  no_room d s' (done us s₁) q =
      let z : ◌≡◌ {A = ℕ} 0 1 = cc in
      absurd (omega arith)
  no_room d s' (full me rs ls ns) q =
      let z : s ≡ s' = cc in
      ap (λ (x : Store). variants_refused NoRoom (lending x ws ts)) (sym z)

  all-built :
      (s' : Store) (us ws' ts' : List ℕ) →
      ws' ≡ paste ws 0 (prices_of prices rows) (length (prices_of prices rows)) →
      ts' ≡ paste ts 0 us (length us) →
      seen (Ok (record { count = length rows; passes = p })) s' ws' ts'
      ≡ built_in p prices rows l (whole us s')
  unfolding built_in variants_kept
  all-built s' us ws' ts' a b =
      rw (a, b, map-length (λ (i : ℕ). get_or prices i 0) rows) refl

  module _ (e : dear_in prices rows ≡ false) where
    pub answer-no-costs :
        length ws < length rows →
        Answers plan ranks name kids p prices rows l
        (seen (Err NoRoom) s ws ts)
    answer-no-costs h = λ d deep. sym (in-full d e (no-costs h))

    module _ (h : length rows ≤ length ws) where
      pub answer-no-terms :
          length ts < length rows →
          Answers plan ranks name kids p prices rows l
          (seen (Err NoRoom) s ws ts)
      answer-no-terms k = λ d deep. sym (in-full d e (no-terms h k))

      module _ (k : length rows ≤ length ts) where
        -- there was no room for a term
        pub answer-full :
            (us : List ℕ) (s' : Store) →
            RowsWhole plan ranks name kids rows s (seen_wholly None us s') →
            Answers plan ranks name kids p prices rows l (seen (Err NoRoom) s' ws ts)
        answer-full us s' w = λ d deep.
            no_room d s' (rows_in plan d name kids (state (replicate 512 0) s) [] rows) (w d deep)
            ∙ sym (in-built d e (has_both h k))

        -- all terms were built
        pub answer-kept :
            (u : Unit) (s' : Store) (found ws' ts' : List ℕ) →
            RowsWhole plan ranks name kids rows s (seen_wholly (Some u) (take (length rows) found) s') →
            Results prices rows found ws ts ws' ts' →
            Answers plan ranks name kids p prices rows l
            (seen (Ok (record { count = length rows; passes = p })) s' ws' ts')
        answer-kept u s' found ws' ts' w r = λ d deep.
            all-built s' (take (length rows) found) ws' ts' r.costs_are r.terms_are
            ∙ ap (built_in p prices rows l) (sym (w d deep))
            ∙ sym (in-built d e (has_both h k))
