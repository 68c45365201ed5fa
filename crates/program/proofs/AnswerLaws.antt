-- The query's fault, or the call that it makes. Assumes nothing.
use Rattle.std.specs.Prelude.{Result, Err}
use mathlib.Core.Path.{◌≡◌, refl, sym, ap, ◌∙◌}
use mathlib.Core.Bool.{true, false}
use mathlib.Core.List.{List}
use Prim.Native.Nat.{ℕ, ◌-◌, ◌≤◌}
use native.Mathlib.Omega.{arith}
use lib.Dec.{eqb}
use lib.ListN.{length, take, drop, length-drop}
use lib.Seq.{take_all}
use Rattle.refusal.specs.declared.Refusal.{Refusal}
use Rattle.refusal.specs.Numbers.{refusal_no}
use Rattle.bits.specs.Got.{got, refused as fault}
use Rattle.answer_rules.specs.Answers.{Answer, refusal}
use Rattle.program_rules.specs.Query.{asked, query_at}
use Rattle.program_rules.proofs.queries.QueryLaws.{query-long}
use Rattle.program_rules.specs.Reply.{best_call, variants_call, call_of, answer_to, in_room, put_in, replied}
use Rattle.program_rules.specs.Seen.{seen}
use Rattle.program.proofs.CallLaws.{refusal-stays}

module _ (input out : List ℕ) where
  by_answer : (a : Answer (List ℕ)) → answer_to input ≡ a → replied input out ≡ put_in (in_room (length out) a) out
  unfolding replied
  by_answer a e = ap (λ (x : Answer (List ℕ)). put_in (in_room (length out) x) out) e

  pub query-refused : (r : Refusal) → fault r ≡ query_at input → seen (Err r) out ≡ replied input out
  unfolding answer_to
  query-refused r e =
      sym (by_answer (refusal (refusal_no r)) (rw (sym e, answer_to) refl) ∙ refusal-stays (refusal_no r) out)

  -- the table file is what follows the query's three bytes
  pub file-is :
      (m s v n : ℕ) →
      got (asked m s v n) 24 ≡ query_at input →
      (3 ≤ length input) × (take (length input - 3) (drop 3 input) ≡ drop 3 input)
  file-is m s v n e =
      let l : 3 ≤ length input = query-long input (asked m s v n) 24 (sym e) in
      (l, take_all (length input - 3) (drop 3 input) (omega (arith, length-drop 3 input)))

  -- what the mode's call answers is the reply
  pub query-replied :
      (m s v n : ℕ) →
      got (asked m s v n) 24 ≡ query_at input →
      (r : Result ℕ Refusal) (after file : List ℕ) →
      file ≡ drop 3 input →
      seen r after ≡ put_in (in_room (length out) (call_of (asked m s v n) file)) out →
      seen r after ≡ replied input out
  unfolding answer_to
  query-replied m s v n e r after file f h =
      h
      ∙ sym
      (by_answer (call_of (asked m s v n) file)
      (rw (sym e, answer_to) (ap (call_of (asked m s v n)) (sym f))))

-- The call by its mode.
module _ (m s v n : ℕ) (file out : List ℕ) (r : Result ℕ Refusal) (after : List ℕ) where
  pub best-by-mode :
      eqb m 1 ≡ false →
      seen r after ≡ put_in (in_room (length out) (best_call (eqb m 2) file s v)) out →
      seen r after ≡ put_in (in_room (length out) (call_of (asked m s v n) file)) out
  unfolding call_of
  best-by-mode b h = h ∙ ap (λ (x : Answer (List ℕ)). put_in (in_room (length out) x) out) (sym (rw (b, call_of) refl))

  pub variants-by-mode :
      eqb m 1 ≡ true →
      seen r after ≡ put_in (in_room (length out) (variants_call file s v n)) out →
      seen r after ≡ put_in (in_room (length out) (call_of (asked m s v n) file)) out
  unfolding call_of
  variants-by-mode b h = h ∙ ap (λ (x : Answer (List ℕ)). put_in (in_room (length out) x) out) (sym (rw (b, call_of) refl))
