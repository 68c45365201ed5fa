-- The whole text of an answer of best: the term's text in its place, the newline, then the line before it. Assumes
-- nothing.
use Rattle.std.specs.Prelude.{Ok, Err}
use mathlib.Core.Path.{◌≡◌, refl, sym, ap, subst, ◌∙◌}
use mathlib.Core.Bool.{Bool, true, false}
use mathlib.Core.List.{List, [], ◌∷◌, ◌++◌}
use Prim.Native.Nat.{ℕ, ◌+◌, ◌-◌, ◌<◌, ◌≤◌}
use native.Mathlib.Omega.{arith}
use lib.ListN.{length, set, take, drop, length-append, length-drop}
use lib.Seq.{length-take-le}
use borrow.Rule.Slice.PartMut.{put_mid, put_same}
use Rattle.refusal.specs.declared.Refusal.{Refusal}
use Rattle.refusal.specs.declared.Refusal.TheVariants.{NoRoom}
use Rattle.refusal.specs.Numbers.{refusal_no}
use Rattle.term_rules.specs.Lent.{Store}
use Rattle.text_whole.specs.Placed.{written, answer_of, told}
use Rattle.answer_rules.specs.Answers.{value, refusal as denied}
use Rattle.answer_rules.specs.Best.{best_term}
use Rattle.program_rules.specs.Lines.{best_line}
use Rattle.program_rules.specs.Step.{Step}
use Rattle.program_rules.proofs.headlines.StepLaws.{step-of-middle, step-byte, step-length, step_then, step-front, step-whole}
use Rattle.program_rules.specs.Reply.{best_reply, in_room, put_in, Replied}
use Rattle.program_rules.specs.Seen.{seen}
use Rattle.program_rules.proofs.Replies.RoomLaws.{fits, no_room}
use Rattle.program.specs.BestReply.Text.{best_text, best_placed}
use Rattle.program.proofs.best_reply.PlacedLaws.{placed-written, placed-refused}

-- what a refusal of number k tells
as_told : ℕ → List ℕ → Replied
as_told k out = record { answer = denied k; out = out }

module _ (plain : Bool) (s : Store) (cost term passes : ℕ) where
  abbrev pub line : List ℕ
  line = best_line cost s.terms passes

  pub reply-is : best_reply plain s (best_term cost term passes) ≡ line ++ (best_text plain s term ++ (10 ∷ []))
  unfolding best_reply best_text
  reply-is = by plain
    where
      by : (b : Bool) → best_reply b s (best_term cost term passes) ≡ line ++ (best_text b s term ++ (10 ∷ []))
      by true = refl
      by false = refl

  long : length (best_reply plain s (best_term cost term passes)) ≡ length line + length (best_text plain s term) + 1
  long = ap length reply-is ∙ rw (length-append, length-append) (omega arith)

  module _ (out : List ℕ) (h : ℕ) (eh : h ≡ length line) where
    -- no place for a text after the line
    pub no_line :
        length out ≤ h →
        seen (Err NoRoom) out
        ≡ put_in (in_room (length out) (value (best_reply plain s (best_term cost term passes)))) out
    no_line l = no_room (best_reply plain s (best_term cost term passes)) out (omega (arith, l, eh, long))

    module _ (e : ℕ) (ee : e + 1 ≡ length out) (l : h ≤ e) where
      mid : length (take (e - h) (drop h out)) ≡ e - h
      mid = length-take-le (e - h) (drop h out) (omega (arith, ee, l, length-drop h out))

      -- the text does not fit between the line and the newline
      pub no_text :
          (after : List ℕ) (r : Refusal) →
          told (answer_of (Err r)) after ≡ best_placed plain s term (take (e - h) (drop h out)) →
          seen (Err r) (put_mid h (e - h) out after)
          ≡ put_in (in_room (length out) (value (best_reply plain s (best_term cost term passes)))) out
      unfolding as_told put_in
      no_text after r t =
          let p = placed-refused (best_text plain s term) (take (e - h) (drop h out)) after (refusal_no r) t in
          let same : put_mid h (e - h) out after ≡ out =
          ap (put_mid h (e - h) out) p.1.0 ∙ put_same h (e - h) out in
          ap (seen (Err r)) same
          ∙ ap (λ (k : ℕ). as_told k out) p.1.1
          ∙ no_room (best_reply plain s (best_term cost term passes)) out (omega (arith, p.0, mid, ee, eh, long, l))

      module _
          (after : List ℕ)
          (n : ℕ)
          (t : told (written n) after ≡ best_placed plain s term (take (e - h) (drop h out)))
        where
          fit : length (best_text plain s term) ≤ e - h
          fit =
              omega (
                arith,
                mid,
                (placed-written (best_text plain s term) (take (e - h) (drop h out)) after n t).0,
              )

          text-step : Step (best_text plain s term) h (h + n) out (put_mid h (e - h) out after)
          text-step =
              step-of-middle out (best_text plain s term) after h e n l (omega (arith, ee)) fit
              (placed-written (best_text plain s term) (take (e - h) (drop h out)) after n t).1

          pub place : h + n < length out
          place = omega (arith, text-step.place, fit, ee, l)

          pub stays : length (put_mid h (e - h) out after) ≡ length out
          stays =
              step-length out (best_text plain s term) (put_mid h (e - h) out after) h (h + n) text-step
              (omega (arith, fit, ee, l))

          end_step :
              Step (best_text plain s term ++ (10 ∷ [])) h (h + n + 1) out
              (set (put_mid h (e - h) out after) (h + n) 10)
          end_step =
              step_then out (best_text plain s term) (put_mid h (e - h) out after) (10 ∷ [])
              (set (put_mid h (e - h) out after) (h + n) 10) h (h + n) (h + n + 1) text-step
              (step-byte (put_mid h (e - h) out after) 10 (h + n) (omega (arith, place, stays)))
              (omega (arith, fit, ee, l))

          pub writes :
              (z : ℕ) (o₂ : List ℕ) →
              Step line 0 z (set (put_mid h (e - h) out after) (h + n) 10) o₂ →
              seen (Ok (h + n + 1)) o₂
              ≡ put_in (in_room (length out) (value (best_reply plain s (best_term cost term passes)))) out
          writes z o₂ u =
              let w = step-whole out (line ++ (best_text plain s term ++ (10 ∷ []))) o₂ (h + n + 1)
              (step-front out (best_text plain s term ++ (10 ∷ [])) (set (put_mid h (e - h) out after) (h + n) 10) line o₂
              h
              (h + n + 1) z eh (rw length-append (omega (arith, fit, ee, l))) end_step u) in
              subst
              (λ (x : List ℕ). seen (Ok (h + n + 1)) o₂ ≡ put_in (in_room (length out) (value x)) out)
              (sym reply-is)
              (fits (line ++ (best_text plain s term ++ (10 ∷ []))) out o₂ (h + n + 1)
              (omega (arith, fit, ee, l, eh, ap length reply-is, long)) w.0 w.1)
