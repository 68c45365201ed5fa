-- Laws that follow the code of `add_all`: the definition one add at a time. Assumes nothing.
use Prim.Native.Nat.{ℕ, suc, ◌+◌, ◌-◌, ◌≤◌, ◌<◌}
use mathlib.Core.Path.{◌≡◌, sym, ap, subst, ◌∙◌}
use mathlib.Core.List.{List, [], ◌∷◌, ◌++◌}
use native.Mathlib.Numerals.{add-one}
use native.Mathlib.Omega.{arith}
use lib.ListN.{length, set, take, length-set}
use lib.Seq.{length-take-le, take-suc-set}
use Rattle.std.specs.Prelude.{Ok, Err}
use Rattle.refusal.specs.declared.Refusal.{Refusal}
use Rattle.refusal.specs.declared.Refusal.TheVariants.{NoRoom}
use Rattle.term_rules.specs.Lent.{Store}
use Rattle.term_rules.specs.Growing.{Beyond, Grows}
use Rattle.term_rules.proofs.Adding.AddingLaws.{grows-trans}
use Rattle.term.specs.Answers.{Answer, given, refuse}
use Rattle.term_one.specs.Wanted.{Wanted, add_count, asked_at}
use Rattle.term_one.specs.One.{add_one}
use Rattle.term_many.specs.Many.{add_from}
use Rattle.term_many.specs.Made.{Long, Made}
use Rattle.term_many.proofs.LongLaws.{long-trans, one-long}
use Rattle.term_many.proofs.FromLaws.{one-takes, one_kept, from_end, from-go, from-full, from-stop}

-- The loop over the adds: those before e are made, in order, and the store is as the definition's.
pub record Turn
    (w : Wanted) (room : ℕ) (first : Store) (size count : ℕ) (at : Store) (got : List ℕ) (e : ℕ) : Type 0 where
  pub all : count ≡ add_count w
  pub within : e ≤ count
  pub placed : e ≤ room
  pub places : room ≤ length got
  pub long : length got ≡ size
  pub lists : Long first at
  pub grows : Grows first at
  pub same : add_from w room first [] (add_count w) ≡ add_from w room at (take e got) (add_count w - e)

module _
    (w : Wanted)
    (room : ℕ)
    (first : Store)
    (size count : ℕ)
    (at : Store)
    (got : List ℕ)
    (e : ℕ)
    (turn : Turn w room first size count at got e)
    (more : e < count) where
  front : length (take e got) ≡ e
  front = length-take-le e got (omega (arith, turn.placed, turn.places))

  left : add_count w - e ≡ suc (add_count w - (e + 1))
  left = omega (arith, turn.all)

  -- add e, by its place in the list
  here : (a : Answer ℕ × Store) → a ≡ add_one at (take e got) (asked_at w e)
      → add_one at (take e got) (asked_at w (length (take e got))) ≡ a
  here a h = ap (λ (i : ℕ). add_one at (take e got) (asked_at w i)) front ∙ sym h

  start : add_from w room first [] (add_count w) ≡ add_from w room at (take e got) (suc (add_count w - (e + 1)))
  start = turn.same ∙ ap (add_from w room at (take e got)) left

  module _ (i : ℕ) (t : Store) (h : (given i, t) ≡ add_one at (take e got) (asked_at w e)) where
    answer : (add_one at (take e got) (asked_at w (length (take e got)))).0 ≡ given i
    answer = ap (λ (a : Answer ℕ × Store). a.0) (here (given i, t) h)

    after : (add_one at (take e got) (asked_at w (length (take e got)))).1 ≡ t
    after = ap (λ (a : Answer ℕ × Store). a.1) (here (given i, t) h)

    grown : Grows first t
    grown =
        grows-trans turn.grows
        (subst (Grows at) after
        (one-takes at (take e got) (asked_at w (length (take e got))) i answer).takes.grows)

    lists : Long first t
    lists =
        long-trans turn.lists
        (subst (Long at) after (one-long at (take e got) (asked_at w (length (take e got))) i answer))

    -- the add gave its number, and that has a place
    pub turn-go : e < room → Turn w room first size count t (set got e i) (e + 1)
    turn-go l =
        let inside : e < length got = omega (arith, turn.places) in
        record {
          all = turn.all;
          within = omega arith;
          placed = omega arith;
          places = omega (arith, turn.places, length-set got e i);
          long = length-set got e i ∙ turn.long;
          lists = lists;
          grows = grown;
          same =
              start
              ∙ from-go w room at (take e got) (add_count w - (e + 1)) i answer (omega (arith, front))
              ∙ ap (λ (u : Store). add_from w room u (take e got ++ (i ∷ [])) (add_count w - (e + 1))) after
              ∙ ap (λ (l : List ℕ). add_from w room t l (add_count w - (e + 1)))
              (sym (ap (λ (j : ℕ). take j (set got e i)) (add-one e) ∙ take-suc-set got e i inside));
        }

    -- it has none
    pub turn-full : room ≤ e → Made w room first (Err NoRoom) got t
    turn-full l = record {
      same =
          start ∙ from-full w room at (take e got) (add_count w - (e + 1)) i answer (omega (arith, front));
      long = lists;
      beyond = grown.beyond;
    }

  -- the add was refused
  pub turn-stop :
      (r : Refusal) (t : Store) →
      (refuse r, t) ≡ add_one at (take e got) (asked_at w e) →
      Made w room first (Err r) got t
  turn-stop r t h =
      let a : (add_one at (take e got) (asked_at w (length (take e got)))).0 ≡ refuse r =
      ap (λ (x : Answer ℕ × Store). x.0) (here (refuse r, t) h) in
      let u : t ≡ at =
      sym (ap (λ (x : Answer ℕ × Store). x.1) (here (refuse r, t) h))
      ∙ one_kept at (take e got) (asked_at w (length (take e got))) _ a in
      record {
        same = start ∙ from-stop w room at (take e got) (add_count w - (e + 1)) _ a;
        long = subst (Long first) (sym u) turn.lists;
        beyond =
            subst (λ (x : Store). Beyond first x.records x.literals x.names) (sym u) turn.grows.beyond;
      }

-- all came
pub turn-ends :
    (w : Wanted) (room : ℕ) (first : Store) (size count : ℕ) (at : Store) (got : List ℕ) (e : ℕ) →
    Turn w room first size count at got e →
    count ≤ e →
    Made w room first (Ok tt) got at
turn-ends w room first size count at got e turn h =
    let d : e ≡ add_count w = omega (arith, turn.all, turn.within) in
    let z : add_count w - e ≡ 0 = omega (arith, turn.all) in
    record {
      same =
          turn.same
          ∙ ap (add_from w room at (take e got)) z
          ∙ from_end w room at (take e got)
          ∙ ap (λ (i : ℕ). given (take i got, at)) d;
      long = turn.lists;
      beyond = turn.grows.beyond;
    }
