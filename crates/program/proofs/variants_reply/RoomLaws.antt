-- Whether the text fits, by its length cut at 2^63; and that it stands. Assumes nothing.
use Rattle.std.specs.Prelude.{Ok, Err}
use mathlib.Core.Path.{◌≡◌}
use mathlib.Core.List.{List, ◌++◌}
use Prim.Native.Nat.{ℕ, ◌+◌, ◌^◌, ◌<◌, ◌≤◌}
use native.Mathlib.Omega.{arith}
use lib.ListN.{length, length-append}
use Rattle.refusal.specs.declared.Refusal.TheVariants.{NoRoom}
use Rattle.term_rules.specs.Nodes.{Node}
use Rattle.text_pieces.specs.Pieces.{capped}
use Rattle.answer_rules.specs.Answers.{value}
use Rattle.program_rules.specs.Lines.{variants_line}
use Rattle.program_rules.specs.Step.{Step}
use Rattle.program_rules.proofs.headlines.StepLaws.{step_then, step-whole}
use Rattle.program.specs.Replies.{reply_texts}
use Rattle.program_rules.specs.Reply.{in_room, put_in}
use Rattle.program_rules.specs.Seen.{seen}
use Rattle.program_rules.proofs.Replies.RoomLaws.{fits, no_room}
use Rattle.program.specs.VariantsReply.Text.{lines_text}

module _ (node : ℕ → Node) (n : ℕ) (costs terms : List ℕ) (k p : ℕ) where
  pub lines-length :
      length (lines_text node n costs terms k p) ≡ length (variants_line k p) + length (reply_texts node n costs terms k)
  unfolding lines_text
  lines-length = length-append (variants_line k p) (reply_texts node n costs terms k)

  module _
      (head rest long : ℕ)
      (eh : head ≡ length (variants_line k p))
      (er : rest ≡ capped (length (reply_texts node n costs terms k)))
      (el : long ≡ capped (rest + head))
    where
      pub refuses :
          (out : List ℕ) →
          length out < long →
          seen (Err NoRoom) out ≡ put_in (in_room (length out) (value (lines_text node n costs terms k p))) out
      refuses out l =
          no_room (lines_text node n costs terms k p) out
          (by (length out) (length (variants_line k p)) (length (reply_texts node n costs terms k))
          (length (lines_text node n costs terms k p)) lines-length eh er l)
        where
          by : (o h x t : ℕ) → t ≡ h + x → head ≡ h → rest ≡ capped x → o < long → o < t
          by o h x t a b c d = omega (arith, a, b, c, d, el)

      pub roomy :
          (o : ℕ) → o < 2 ^ 63 → long ≤ o → length (variants_line k p) + length (reply_texts node n costs terms k) ≤ o
      roomy o s l = by (length (variants_line k p)) (length (reply_texts node n costs terms k)) eh er
        where
          by : (h x : ℕ) → head ≡ h → rest ≡ capped x → h + x ≤ o
          by h x b c = omega (arith, b, c, s, l, el)

  pub writes :
      (out o₁ o₂ : List ℕ) (a e : ℕ) →
      length (variants_line k p) + length (reply_texts node n costs terms k) ≤ length out →
      Step (variants_line k p) 0 a out o₁ →
      Step (reply_texts node n costs terms k) a e o₁ o₂ →
      seen (Ok e) o₂ ≡ put_in (in_room (length out) (value (lines_text node n costs terms k p))) out
  unfolding lines_text
  writes out o₁ o₂ a e l s t =
      let w = step-whole out (variants_line k p ++ reply_texts node n costs terms k) o₂ e
      (step_then out (variants_line k p) o₁ (reply_texts node n costs terms k) o₂ 0 a e s t (omega (arith, l))) in
      fits (variants_line k p ++ reply_texts node n costs terms k) out o₂ e (omega (arith, l, lines-length)) w.0 w.1
