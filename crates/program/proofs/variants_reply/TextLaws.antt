-- The text as it is written is the definition's. Assumes nothing.
use mathlib.Core.Path.{◌≡◌, refl, sym, ap, ◌∙◌}
use mathlib.Core.List.{List, [], ◌∷◌, ◌++◌, append_assoc, append-nil}
use Prim.Native.Nat.{ℕ, zero, suc, ◌+◌, ◌≤◌}
use native.Mathlib.Omega.{arith}
use native.Mathlib.Nat.{add-zero}
use lib.ListN.{length, get_or, take}
use lib.Seq.{take-suc, length-take-le}
use lib.IntN.{ℤ}
use Rattle.term_rules.specs.Lent.{store}
use Rattle.text_pieces.specs.Readable.{nodes}
use Rattle.text_whole.proofs.PlacedLaws.{plain-text-nodes}
use Rattle.program_rules.specs.Lines.{variants_line, variant_line}
use Rattle.program.specs.Replies.{reply_text, reply_texts}
use Rattle.program_rules.specs.Reply.{variant_reply, variant_replies, variants_text}
use Rattle.program.specs.VariantsReply.Text.{lines_text}

module _ (rs : List ℕ) (ls : List ℤ) (ns : List ℕ) (n m : ℕ) where
  one : (i c t : ℕ) → variant_reply (store rs ls ns n m) i c t ≡ reply_text (nodes rs ls ns) n i c t
  unfolding variant_reply reply_text
  one i c t =
      ap (λ (x : List ℕ). variant_line i c n ++ (x ++ (10 ∷ []))) (plain-text-nodes rs ls ns n m t)

  -- one more at the end
  snoc :
      (i : ℕ) (ws ts : List ℕ) (w t : ℕ) →
      length ws ≡ length ts →
      variant_replies (store rs ls ns n m) i (ws ++ (w ∷ [])) (ts ++ (t ∷ []))
      ≡ variant_replies (store rs ls ns n m) i ws ts ++ variant_reply (store rs ls ns n m) (i + length ws) w t
  unfolding variant_replies
  snoc i [] [] w t e =
      append-nil (variant_reply (store rs ls ns n m) i w t)
      ∙ ap (λ (k : ℕ). variant_reply (store rs ls ns n m) k w t) (sym (add-zero i))
  snoc i [] (u ∷ ts) w t e = let z : ⊥ = omega (arith, e) in absurd z
  snoc i (v ∷ ws) [] w t e = let z : ⊥ = omega (arith, e) in absurd z
  snoc i (v ∷ ws) (u ∷ ts) w t e =
      let same : length ws ≡ length ts = omega (arith, e) in
      let next : suc i + length ws ≡ i + length (v ∷ ws) = omega arith in
      ap (λ (x : List ℕ). variant_reply (store rs ls ns n m) i v u ++ x) (snoc (suc i) ws ts w t same)
      ∙ (sym
      (append_assoc (variant_reply (store rs ls ns n m) i v u) (variant_replies (store rs ls ns n m) (suc i) ws ts)
      (variant_reply (store rs ls ns n m) (suc i + length ws) w t))
      ∙ ap
      (λ (k : ℕ).
      (variant_reply (store rs ls ns n m) i v u ++ variant_replies (store rs ls ns n m) (suc i) ws ts)
      ++ variant_reply (store rs ls ns n m) k w t)
      next)

  pub replies-are :
      (costs terms : List ℕ) (k : ℕ) →
      k ≤ length costs →
      k ≤ length terms →
      variant_replies (store rs ls ns n m) 1 (take k costs) (take k terms) ≡ reply_texts (nodes rs ls ns) n costs terms k
  unfolding variant_replies reply_texts
  replies-are costs terms zero a b = refl
  replies-are costs terms (suc k) a b =
      let long : length (take k costs) ≡ k = length-take-le k costs (omega (arith, a)) in
      let same : length (take k costs) ≡ length (take k terms) =
      long ∙ sym (length-take-le k terms (omega (arith, b))) in
      let next : 1 + length (take k costs) ≡ suc k = omega (arith, long) in
      rw (take-suc costs k 0 (omega (arith, a)), take-suc terms k 0 (omega (arith, b)))
      (snoc 1 (take k costs) (take k terms) (get_or costs k 0) (get_or terms k 0) same
      ∙ (ap
      (λ (x : List ℕ). x ++ variant_reply (store rs ls ns n m) (1 + length (take k costs)) (get_or costs k 0)
      (get_or terms k 0))
      (replies-are costs terms k (omega (arith, a)) (omega (arith, b)))
      ∙ (ap
      (λ (j : ℕ). reply_texts (nodes rs ls ns) n costs terms k ++ variant_reply (store rs ls ns n m) j (get_or costs k 0)
      (get_or terms k 0))
      next
      ∙ ap (λ (x : List ℕ). reply_texts (nodes rs ls ns) n costs terms k ++ x)
      (one (suc k) (get_or costs k 0) (get_or terms k 0)))))

  pub text-is :
      (costs terms : List ℕ) (k p : ℕ) →
      k ≤ length costs →
      k ≤ length terms →
      lines_text (nodes rs ls ns) n costs terms k p ≡ variants_text (store rs ls ns n m) costs terms k p
  unfolding lines_text variants_text
  text-is costs terms k p a b = ap (λ (x : List ℕ). variants_line k p ++ x) (sym (replies-are costs terms k a b))
