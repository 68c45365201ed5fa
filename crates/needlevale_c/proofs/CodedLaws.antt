-- What was answered, told in one number. Assumes nothing.
use mathlib.Core.Path.{◌≡◌, sym, ap, subst, ◌∙◌}
use mathlib.Core.List.{List}
use Prim.Native.Nat.{ℕ, ◌+◌, ◌≤◌, ◌<◌}
use native.Mathlib.Omega.{arith}
use lib.IntN.{ℤ}
use lib.ListN.{length, drop, length-append}
use Rattle.refusal.specs.declared.Refusal.{Refusal}
use Rattle.std.specs.Prelude.{Result, Ok, Err}
use Rattle.term_rules.specs.Lent.{Store, store}
use Rattle.term_rules.specs.Nodes.{literal}
use Rattle.term_rules.specs.Growing.{Takes}
use Rattle.term.specs.Answers as terms
use Rattle.term.specs.Answers.{seen_added}
use Rattle.term.specs.Calls.{add_literal}
use Rattle.term_add.specs.declared.Added.{Added}
use Rattle.term.proofs.Promises.{promises}
use Rattle.program_rules.specs.Reply.{answer_to, in_room, replied, Replied}
use Rattle.program_rules.specs.Seen.{answer_of, seen}
use Rattle.program.proofs.RespondLaws.{when-written}
use Rattle.needlevale_c.specs.Coded.{coded, Replies, coded_term, Adds}

-- The answer to an input in a lent buffer.
module _ (input out after : List ℕ) where
  -- a text's length is at most the buffer's
  pub written-within : (n : ℕ) → seen (Ok n) after ≡ replied input out → n ≤ length after
  unfolding replied
  written-within n h =
      let w = when-written out (in_room (length out) (answer_to input)) n after h in
      let long : length after ≡ length w.text + length (drop (length w.text) out) =
      ap length w.bytes ∙ length-append w.text (drop (length w.text) out) in
      omega (arith, long, w.long)

  pub replies :
      (r : Result ℕ Refusal) (z : ℤ) → seen r after ≡ replied input out → z ≡ coded (answer_of r) →
      Replies (replied input out) z after
  replies r z h t = record {
    number = t ∙ ap (λ (x : Replied). coded x.answer) h;
    bytes = ap (λ (x : Replied). x.out) h;
  }

-- A literal added to a lent store.
module _ (s : Store) (v : ℤ) (rs : List ℕ) (ls : List ℤ) (ns : List ℕ) (n m : ℕ) where
  -- a term's number is below 1,024
  pub term-within : (a : Added) → seen_added (Ok a) rs ls ns n m ≡ add_literal s v → a.term < 1024
  term-within a x =
      let takes =
      subst (Takes s (literal v) a.term) (sym (ap (λ (y : terms.Answer ℕ × Store). y.1) x))
      ((promises.literal_added s v).takes a.term (sym (ap (λ (y : terms.Answer ℕ × Store). y.0) x))) in
      omega (
        arith,
        takes.below,
        (promises.facts (store rs ls ns a.terms a.symbols) takes.grows.formed).term_limit,
      )

  pub adds :
      (r : Result Added Refusal) (z : ℤ) →
      seen_added r rs ls ns n m ≡ add_literal s v →
      z ≡ coded_term (seen_added r rs ls ns n m).0 →
      Adds (add_literal s v) z rs ls
  adds (Ok a) z h t = record {
    number = t ∙ ap (λ (x : terms.Answer ℕ × Store). coded_term x.0) h;
    kept_records = ap (λ (x : terms.Answer ℕ × Store). x.1.records) h;
    kept_literals = ap (λ (x : terms.Answer ℕ × Store). x.1.literals) h;
  }
  adds (Err k) z h t = record {
    number = t ∙ ap (λ (x : terms.Answer ℕ × Store). coded_term x.0) h;
    kept_records = ap (λ (x : terms.Answer ℕ × Store). x.1.records) h;
    kept_literals = ap (λ (x : terms.Answer ℕ × Store). x.1.literals) h;
  }
