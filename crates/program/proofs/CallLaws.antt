-- What the calls answer, as the program tells it. Assumes nothing.
use Rattle.std.specs.Prelude.{Result, Err}
use mathlib.Core.Path.{◌≡◌, refl, sym, ap, subst, ◌∙◌}
use mathlib.Core.Bool.{Bool, true}
use mathlib.Core.List.{List}
use Prim.Native.Nat.{ℕ, ◌<◌}
use lib.IntN.{pos}
use lib.ListN.{length, replicate}
use Rattle.name.specs.Entries.{table_length}
use Rattle.refusal.specs.declared.Refusal.{Refusal}
use Rattle.refusal.specs.Numbers.{refusal_no}
use Rattle.term_rules.specs.Lent.{Store, store, records_length}
use Rattle.term_rules.specs.WellFormed.{well_formed}
use Rattle.answer_rules.specs.Answers.{Answer, value, refusal, After, found, refused}
use Rattle.answer_rules.specs.Best.{BestTerm, best_term, best_at}
use Rattle.program_rules.specs.Reply.{empty_store, best_reply, best_answer, best_told, best_call, in_room, put_in}
use Rattle.program_rules.specs.Seen.{seen}
use Rattle.extract.proofs.WayLaws.{value-returned}

-- the store that the program starts with
abbrev pub start : Store
start = store (replicate (records_length 1024) 0) (replicate 1024 (pos 0)) (replicate table_length 0) 0 0

pub refusal-stays :
    (k : ℕ) (out : List ℕ) →
    put_in (in_room (length out) (refusal k)) out ≡ record { answer = refusal k; out = out }
unfolding in_room put_in
refusal-stays k out = refl

module _ (plain : Bool) (file : List ℕ) (sort v : ℕ) (out : List ℕ) where
  told-by : (a : After BestTerm) → a ≡ best_at file sort v start → best_call plain file sort v ≡ best_told plain a
  unfolding best_call empty_store
  told-by a e = ap (best_told plain) (sym e)

  pub best-refused :
      (r : Refusal) (s : Store) →
      refused r s ≡ best_at file sort v start →
      seen (Err r) out ≡ put_in (in_room (length out) (best_call plain file sort v)) out
  unfolding best_told best_answer
  best-refused r s e =
      sym (ap (λ (x : Answer (List ℕ)). put_in (in_room (length out) x) out) (told-by (refused r s) e)
      ∙ refusal-stays (refusal_no r) out)

  pub best-found :
      (w i p : ℕ) (s : Store) (r : Result ℕ Refusal) (after : List ℕ) →
      found (best_term w i p) s ≡ best_at file sort v start →
      seen r after ≡ put_in (in_room (length out) (value (best_reply plain s (best_term w i p)))) out →
      seen r after ≡ put_in (in_room (length out) (best_call plain file sort v)) out
  unfolding best_told best_answer
  best-found w i p s r after e h =
      h ∙ sym (ap (λ (x : Answer (List ℕ)). put_in (in_room (length out) x) out) (told-by (found (best_term w i p) s) e))

-- What comes back is well formed and has the term that is answered.
pub best-returns :
    (file : List ℕ) (sort v : ℕ) {w i p : ℕ} {s : Store} →
    found (best_term w i p) s ≡ best_at file sort v start →
    (well_formed s ≡ true) × (i < s.terms)
best-returns file sort v {w} {i} {p} {s} e =
    let kept = value-returned file sort v start (best_term w i p)
    (sym (ap (λ (a : After BestTerm). a.answer) e)) in (
      ap well_formed (ap (λ (a : After BestTerm). a.store) e) ∙ kept.0.formed,
      subst (λ (x : Store). i < x.terms) (sym (ap (λ (a : After BestTerm). a.store) e)) kept.1,
    )
