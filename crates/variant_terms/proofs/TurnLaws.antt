-- Laws that follow the code of `all_rows`: the definition one row at a time. Assumes nothing.
use Prim.Native.Nat.{ℕ, ◌+◌, ◌<◌, ◌≤◌}
use mathlib.Core.Path.{◌≡◌, refl, sym, ap, ◌∙◌}
use mathlib.Core.List.{List, [], ◌∷◌, ◌++◌, map}
use native.Mathlib.Numerals.{add-one}
use native.Mathlib.Omega.{arith}
use lib.IntN.{ℤ}
use lib.ListN.{length, get_or, set, take, drop, length-set, drop_of_length-le}
use lib.Seq.{drop-cons, take-suc-set}
use Rattle.term_rules.specs.Growing.{Grows}
use Rattle.term_rules.proofs.Adding.AddingLaws.{grows-trans}
use Rattle.build.specs.Plan.{Child, Plan, child_of}
use Rattle.build.specs.Building.{State, done, full, children_in, build_in}
use Rattle.build.specs.Standing.{Tracks}
use Rattle.answer_rules.specs.Variants.{own_variant}
use Rattle.variant_terms.specs.Rows.{Deep, RowMade}
use Rattle.variant_terms.proofs.row.TurnLaws.{stuck-after}
use Rattle.variant_terms.specs.Turned.{rows_in, RowsMade}

module _ (p : Plan) (d : ℕ) (name : ℕ → List ℕ) (kids : ℕ → List Child) (s : State) (ts : List ℕ) where
  rows-go :
      (i : ℕ) (rows : List ℕ) (t : ℕ) (s' : State) →
      own_variant (name i) (children_in (build_in p d) s [] (kids i)) ≡ done t s' →
      rows_in p d name kids s ts (i ∷ rows) ≡ rows_in p d name kids s' (ts ++ (t ∷ [])) rows
  unfolding rows_in
  rows-go i rows t s' e = rw (e, rows_in)

  rows-stop :
      (i : ℕ) (rows : List ℕ) (me rs : List ℕ) (ls : List ℤ) (ns : List ℕ) →
      own_variant (name i) (children_in (build_in p d) s [] (kids i)) ≡ full me rs ls ns →
      rows_in p d name kids s ts (i ∷ rows) ≡ full me rs ls ns
  unfolding rows_in
  rows-stop i rows me rs ls ns e = rw (e, rows_in)

  rows_end : rows_in p d name kids s ts [] ≡ done ts s
  unfolding rows_in
  rows_end = refl

-- The loop over the rows: those before place j are built, in order, and the state is as the definition's.
pub record Turn
    (p : Plan) (ranks : List ℕ) (name : ℕ → List ℕ) (kids : ℕ → List Child) (first : State) (rows : List ℕ)
    (at : State) (n : ℕ) (found : List ℕ) (j : ℕ) : Type 0 where
  pub within : j ≤ length rows
  pub room : length rows ≤ length found
  pub long : length found ≡ n
  pub memo : length at.memo ≡ length first.memo
  pub tracks : Tracks p at
  pub grows : Grows first.lent at.lent
  pub same :
      (d : ℕ) →
      Deep ranks d →
      rows_in p d name kids first [] rows ≡ rows_in p d name kids at (take j found) (drop j rows)

-- the rows from place j on
pub rows_next : (rows : List ℕ) (j : ℕ) → j < length rows → drop j rows ≡ get_or rows j 0 ∷ drop (j + 1) rows
rows_next rows j h =
    drop-cons rows j 0 h ∙ ap (λ (i : ℕ). get_or rows j 0 ∷ drop i rows) (sym (add-one j))

module _
    (p : Plan) (ranks : List ℕ) (values : List ℤ) (name part : ℕ → List ℕ) (first : State) (rows : List ℕ)
    (at : State) (n : ℕ) (found : List ℕ) (j : ℕ)
    (turn : Turn p ranks name (λ (i : ℕ). map (child_of values) (part i)) first rows at n found j) where
  abbrev kids : ℕ → List Child
  kids i = map (child_of values) (part i)

  -- the next row's term came
  pub turn-go :
      j < length rows →
      (t : ℕ) (s' : State) →
      RowMade p ranks values (name (get_or rows j 0)) (part (get_or rows j 0)) at (done t s') →
      length s'.memo ≡ length at.memo →
      Turn p ranks name kids first rows s' n (set found j t) (j + 1)
  turn-go l t s' made em =
      let inside : j < length found = omega (arith, turn.room) in
      record {
        within = omega arith;
        room = omega (arith, turn.room, length-set found j t);
        long = length-set found j t ∙ turn.long;
        memo = em ∙ turn.memo;
        tracks = made.leaves.tracks;
        grows = grows-trans turn.grows made.leaves.grows;
        same = λ d deep.
            turn.same d deep
            ∙ ap (rows_in p d name kids at (take j found)) (rows_next rows j l)
            ∙ rows-go p d name kids at (take j found) (get_or rows j 0) (drop (j + 1) rows) t s' (made.same d deep)
            ∙ ap (λ (ts : List ℕ). rows_in p d name kids s' ts (drop (j + 1) rows))
            (sym (ap (λ (i : ℕ). take i (set found j t)) (add-one j) ∙ take-suc-set found j t inside));
      }

  -- it had no room
  pub turn-stop :
      j < length rows →
      (me rs : List ℕ) (ls : List ℤ) (ns : List ℕ) →
      RowMade p ranks values (name (get_or rows j 0)) (part (get_or rows j 0)) at (full me rs ls ns) →
      RowsMade p ranks name kids rows first (full me rs ls ns)
  turn-stop l me rs ls ns made = record {
    same = λ d deep.
        turn.same d deep
        ∙ ap (rows_in p d name kids at (take j found)) (rows_next rows j l)
        ∙ rows-stop p d name kids at (take j found) (get_or rows j 0) (drop (j + 1) rows) me rs ls ns (made.same d deep);
    stuck = stuck-after turn.grows made.leaves;
  }

  -- all came
  pub turn_end : length rows ≤ j → RowsMade p ranks name kids rows first (done (take (length rows) found) at)
  turn_end l =
      let e : j ≡ length rows = omega (arith, turn.within) in
      record {
        same = λ d deep.
            turn.same d deep
            ∙ ap (rows_in p d name kids at (take j found)) (drop_of_length-le rows {i = j} l)
            ∙ rows_end p d name kids at (take j found)
            ∙ ap (λ (i : ℕ). done (take i found) at) e;
        stuck = tt;
      }
