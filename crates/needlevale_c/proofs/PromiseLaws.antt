-- What the promises of the library for C rest on. Assumes nothing.
use mathlib.Core.Path.{◌≡◌, refl, sym, ap, subst, ◌∙◌}
use mathlib.Core.Bool.{Bool, true, false}
use mathlib.Core.List.{List}
use mathlib.Core.Logic.{◌⊎◌, inl, inr}
use Prim.Native.Nat.{ℕ}
use native.Mathlib.Omega.{arith}
use lib.IntN.{ℤ, pos, neg_ℤ}
use lib.ListN.{length}
use Rattle.refusal.specs.declared.Refusal.{Refusal}
use Rattle.refusal.specs.declared.Refusal.TheVariants.{NoRoom}
use Rattle.refusal.specs.Answer.{Answer, value, refusal, refuse}
use Rattle.std.specs.Prelude.{Option, Some, None}
use Rattle.term_rules.specs.Lent.{Store}
use Rattle.term_rules.specs.Nodes.{literal, node_at, same_node}
use Rattle.term_rules.specs.Adding.{Adds, at, no_room, add, append, with_record, find_term, room_for}
use Rattle.term_rules.proofs.SearchLaws.{first-at}
use Rattle.term.specs.Answers as terms
use Rattle.term.specs.Calls.{Faults, fine, fault, literal_faults, adding, added, add_literal}
use Rattle.program_rules.specs.Reply.{answer_to, in_room, put_in, replied}
use Rattle.program_rules.proofs.Replies.KnownLaws.{Known, answer-known, room-known}
use Rattle.c_told.specs.Below.{below_zero}
use Rattle.needlevale_c.specs.Coded.{coded, Replies, coded_term, Adds as Wanted}
use Rattle.needlevale_c.specs.Promises.{ReplyTold, AddTold, Counts}

-- What `needlevale_answer` gives is told by one number.
reply-by :
    (a : Answer ℕ) (z : ℤ) →
    Known a →
    z ≡ coded a →
    ((n : ℕ) × ((z ≡ pos n) × (a ≡ value n))) ⊎ ((x : Refusal) × ((z ≡ below_zero x) × (a ≡ refuse x)))
reply-by (value n) z h e = inl (n, (e, refl))
reply-by (refusal k) z h e = inr (h.0, (e ∙ ap (λ (m : ℕ). neg_ℤ (pos m)) h.1, ap refusal h.1))

put-known : (a : Answer (List ℕ)) (out : List ℕ) → Known a → Known (put_in a out).answer
unfolding put_in
put-known (value text) out h = tt
put-known (refusal k) out h = h

replied-known : (input out : List ℕ) → Known (replied input out).answer
unfolding replied
replied-known input out =
    put-known (in_room (length out) (answer_to input)) out
    (room-known (length out) (answer_to input) (answer-known input))

pub reply_told :
    (input out after : List ℕ) (z : ℤ) → Replies (replied input out) z after → ReplyTold (replied input out) z
reply_told input out after z r = reply-by (replied input out).answer z (replied-known input out) r.number

-- A literal's number and the count of terms then.
module _ (s : Store) (v : ℤ) where
  OnAdds : Adds → Type 0
  OnAdds (at i t) = Counts s i t
  OnAdds no_room = Unit

  missing-counts :
      (b : Bool) → OnAdds (elim b [ true ↦ at s.terms (append s (literal v)) | false ↦ no_room ])
  unfolding OnAdds append with_record
  missing-counts true = inr (refl, refl, refl)
  missing-counts false = tt

  found-counts :
      (f : Option ℕ) →
      find_term s (literal v) ≡ f →
      OnAdds
      (elim f [
        | Some i ↦ at i s
        | None ↦ elim (room_for s (literal v)) [
          | true ↦ at s.terms (append s (literal v))
          | false ↦ no_room
        ]
      ])
  unfolding OnAdds find_term
  found-counts (Some i) e =
      let found = first-at (λ (j : ℕ). same_node (node_at s j) (literal v)) s.terms 0 i e in
      inl (omega (arith, found.1), refl)
  found-counts None e = missing-counts (room_for s (literal v))

  add-counts : OnAdds (add s (literal v))
  unfolding add
  add-counts = found-counts (find_term s (literal v)) refl

  After : terms.Answer ℕ × Store → Type 0
  After x =
      ((i : ℕ) → x.0 ≡ terms.given i → Counts s i x.1) × ((k : ℕ) → x.0 ≡ terms.refused k → x.1 ≡ s)

  given-in : terms.Answer ℕ → ℕ
  given-in (terms.given i) = i
  given-in (terms.refused k) = k

  is-given : terms.Answer ℕ → ℕ
  is-given (terms.given i) = 1
  is-given (terms.refused k) = 0

  never : (i k : ℕ) → ◌≡◌ {A = terms.Answer ℕ} (terms.given i) (terms.refused k) → ⊥
  unfolding is-given
  never i k e =
      let z : ◌≡◌ {A = ℕ} 1 0 = ap is-given e in
      omega (arith, z)

  added-after : (x : Adds) → OnAdds x → After (added s x)
  unfolding After OnAdds added given-in
  added-after (at i t) c = (
    (λ j h. subst (λ (y : ℕ). Counts s y t) (ap given-in h) c),
    λ k h. absurd (never i k h),
  )
  added-after no_room c = ((λ j h. absurd (never j 13 (sym h))), λ k h. refl)

  adding-after : (f : Faults) → After (adding s (literal v) f)
  unfolding After adding
  adding-after fine = added-after (add s (literal v)) add-counts
  adding-after (fault r) = ((λ j h. absurd (never j _ (sym h))), λ k h. refl)

  pub literal-given : (i : ℕ) → (add_literal s v).0 ≡ terms.given i → Counts s i (add_literal s v).1
  unfolding After add_literal
  literal-given = (adding-after (literal_faults s)).0

  pub literal_stays : (k : ℕ) → (add_literal s v).0 ≡ terms.refused k → (add_literal s v).1 ≡ s
  unfolding After add_literal
  literal_stays = (adding-after (literal_faults s)).1

  TermKnown : terms.Answer ℕ × Store → Type 0
  TermKnown x = (z : ℤ) → z ≡ coded_term x.0 → AddTold x.0 z

  added-known : (x : Adds) → TermKnown (added s x)
  unfolding TermKnown added
  added-known (at i t) = λ z e. inl (i, (e, refl))
  added-known no_room = λ z e. inr (NoRoom, (e, refl))

  adding-known : (f : Faults) → TermKnown (adding s (literal v) f)
  unfolding TermKnown adding
  adding-known fine = added-known (add s (literal v))
  adding-known (fault r) = λ z e. inr (r, (e, refl))

  pub add_told : (z : ℤ) (rs : List ℕ) (ls : List ℤ) → Wanted (add_literal s v) z rs ls → AddTold (add_literal s v).0 z
  unfolding TermKnown add_literal
  add_told z rs ls h = adding-known (literal_faults s) z h.number
