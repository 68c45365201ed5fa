-- Laws that follow the code of `add_many`: the list of adds as one call. Assumes nothing.
use Prim.Native.Nat.{ℕ, ◌+◌, ◌≤◌, min}
use mathlib.Core.Path.{◌≡◌, sym, ap, ◌∙◌}
use mathlib.Core.Bool.{true, false}
use mathlib.Core.List.{List, [], ◌++◌}
use native.Mathlib.Nat.{zero-add}
use native.Mathlib.Omega.{arith}
use lib.IntN.{ℤ}
use lib.ListN.{length, take, drop}
use lib.Seq.{take-length}
use Rattle.copies.specs.Copied.{copied}
use Rattle.refusal.specs.declared.Refusal.{Refusal}
use Rattle.refusal.specs.declared.Refusal.TheVariants.{BadStore}
use Rattle.term_rules.specs.Lent.{Store, store}
use Rattle.term_rules.specs.WellFormed.{well_formed}
use Rattle.term.specs.Answers.{given, refuse}
use Rattle.term_one.specs.Wanted.{Wanted, add_count}
use Rattle.term_many.specs.Many.{add_from, number_room, left, add_many}
use Rattle.term_many.proofs.FromLaws.{from-whole}

-- a list that is copied over the front of another
pub copied-front : (out l : List ℕ) → length l ≤ length out → copied out l ≡ l ++ drop (length l) out
unfolding copied
copied-front out l h =
    let m : ℕ = min (length out) (length l) in
    let e : m ≡ length l = omega arith in
    ap (λ (k : ℕ). take k l ++ drop (0 + k) out) e
    ∙ ap (λ (k : ℕ). take (length l) l ++ drop k out) (zero-add (length l))
    ∙ ap (λ (f : List ℕ). f ++ drop (length l) out) (take-length l)

module _ (w : Wanted) (s : Store) (out : List ℕ) where
  pub many-bad :
      well_formed s ≡ false → record { answer = refuse BadStore; lent = s; numbers = out } ≡ add_many w s out
  unfolding add_many left
  many-bad h = rw h

  module _ (h : well_formed s ≡ true) where
    pub many-from : add_many w s out ≡ left s out (add_from w (number_room out) s [] (add_count w))
    unfolding add_many
    many-from = rw h

    -- the lists are as they were
    pub many-refused :
        (r : Refusal) →
        add_from w (number_room out) s [] (add_count w) ≡ refuse r →
        (rs : List ℕ) (ls : List ℤ) (ns : List ℕ) →
        rs ≡ s.records →
        ls ≡ s.literals →
        ns ≡ s.names →
        record { answer = refuse r; lent = store rs ls ns s.terms s.symbols; numbers = out } ≡ add_many w s out
    unfolding left
    many-refused r e rs ls ns er el en =
        rw (er, el, en) (sym (many-from ∙ ap (left s out) e))

    module _ (got : List ℕ) (t : Store)
        (e : add_from w (number_room out) s [] (add_count w) ≡ given (take (add_count w) got, t)) where
      -- there are a number and a place for each add
      pub many-count : length (take (add_count w) got) ≡ add_count w
      many-count = omega (arith, (from-whole w (number_room out) (add_count w) s [] _ (omega arith) e).count)

      pub many-places : add_count w ≤ number_room out
      many-places = omega (arith, (from-whole w (number_room out) (add_count w) s [] _ (omega arith) e).places)

      -- the first numbers are copied over the front of the list
      pub many-added :
          (count : ℕ) (out' : List ℕ) →
          count ≡ add_count w →
          out' ≡ copied out (take count got) →
          record { answer = given tt; lent = t; numbers = out' } ≡ add_many w s out
      unfolding left
      many-added count out' c h =
          ap (λ (l : List ℕ). record { answer = given tt; lent = t; numbers = l })
          (h
          ∙ ap (λ (n : ℕ). copied out (take n got)) c
          ∙ copied-front out (take (add_count w) got) (omega (arith, many-count, many-places)))
          ∙ sym (many-from ∙ ap (left s out) e)
