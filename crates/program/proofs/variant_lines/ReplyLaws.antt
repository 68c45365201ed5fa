-- The lines of variants: their lengths, and that each is written after the last. Assumes nothing.
use mathlib.Core.Path.{◌≡◌, refl, sym, ap, subst, ◌∙◌}
use mathlib.Core.List.{List, [], ◌∷◌, ◌++◌}
use Prim.Native.Nat.{ℕ, zero, suc, ◌+◌, ◌-◌, ◌<◌, ◌≤◌}
use native.Mathlib.Omega.{arith}
use native.Mathlib.Numerals.{add-one}
use lib.ListN.{length, get_or, set, take, drop, length-append, length-take, length-drop}
use borrow.Rule.Slice.PartMut.{put_mid}
use Rattle.decimal.specs.Written.{Wrote}
use Rattle.term_rules.specs.Nodes.{Node}
use Rattle.text_rules.specs.PlainText.{plain_line}
use Rattle.text_pieces.specs.Pieces.{capped}
use Rattle.program_rules.specs.Lines.{variant_line}
use Rattle.program_rules.specs.Step.{Step}
use Rattle.program_rules.proofs.headlines.StepLaws.{step-of-tail, step-byte, step-length, step_then}
use Rattle.program.specs.Replies.{reply_text, reply_texts}

module _ (node : ℕ → Node) (n : ℕ) where
  pub reply-length :
      (i c t : ℕ) → length (reply_text node n i c t) ≡ length (variant_line i c n) + length (plain_line node t) + 1
  unfolding reply_text
  reply-length i c t = rw (length-append, length-append) (omega arith)

  -- the length from that of the plain text, cut as it is
  pub reply-measured :
      (i c t w h r : ℕ) →
      w ≡ capped (length (plain_line node t)) →
      h ≡ length (variant_line i c n) →
      r ≡ capped (w + (h + 1)) →
      r ≡ capped (length (reply_text node n i c t))
  reply-measured i c t w h r a b e =
      e ∙ sum (length (plain_line node t)) w h (length (variant_line i c n)) a b ∙ ap capped (sym (reply-length i c t))
    where
      sum : (x w h y : ℕ) → w ≡ capped x → h ≡ y → capped (w + (h + 1)) ≡ capped (y + x + 1)
      sum x w h y a b = omega (arith, a, b)

  module _ (costs terms : List ℕ) where
    pub none : reply_texts node n costs terms 0 ≡ []
    unfolding reply_texts
    none = refl

    pub more :
        (k : ℕ) →
        reply_texts node n costs terms (k + 1)
        ≡ reply_texts node n costs terms k ++ reply_text node n (k + 1) (get_or costs k 0) (get_or terms k 0)
    unfolding reply_texts
    more k = rw (add-one k) refl

    pub more-length :
        (k : ℕ) →
        length (reply_texts node n costs terms (k + 1))
        ≡ length (reply_texts node n costs terms k) + length (reply_text node n (k + 1) (get_or costs k 0) (get_or terms k 0))
    more-length k = ap length (more k) ∙ length-append (reply_texts node n costs terms k) _

    pub measured :
        (k acc long r : ℕ) →
        acc ≡ capped (length (reply_texts node n costs terms k)) →
        long ≡ capped (length (reply_text node n (k + 1) (get_or costs k 0) (get_or terms k 0))) →
        r ≡ capped (acc + long) →
        r ≡ capped (length (reply_texts node n costs terms (k + 1)))
    measured k acc long r a b e =
        e
        ∙ sum (length (reply_texts node n costs terms k)) acc
        (length (reply_text node n (k + 1) (get_or costs k 0) (get_or terms k 0))) long a b
        ∙ ap capped (sym (more-length k))
      where
        sum : (x acc y long : ℕ) → acc ≡ capped x → long ≡ capped y → capped (acc + long) ≡ capped (x + y)
        sum x acc y long a b = omega (arith, a, b)

    longer-by : (k d m : ℕ) → k + d ≡ m → length (reply_texts node n costs terms k) ≤ length
        (reply_texts node n costs terms m)
    longer-by k zero m e =
        let same : k ≡ m = omega (arith, e) in
        subst (λ (x : ℕ). length (reply_texts node n costs terms k) ≤ length (reply_texts node n costs terms x)) same
        (omega arith)
    longer-by k (suc d) m e =
        let same : k + d + 1 ≡ m = omega (arith, e) in
        subst (λ (x : ℕ). length (reply_texts node n costs terms k) ≤ length (reply_texts node n costs terms x)) same
        (omega (arith, longer-by k d (k + d) refl, more-length (k + d)))

    -- fewer are no longer
    pub shorter :
        (k m : ℕ) → k ≤ m → length (reply_texts node n costs terms k) ≤ length (reply_texts node n costs terms m)
    shorter k m l = longer-by k (m - k) m (omega arith)

    -- what stands so far leaves the buffer's length
    pub kept-length :
        (o : List ℕ) (p k m e : ℕ) (o₁ : List ℕ) →
        Step (reply_texts node n costs terms k) p e o o₁ →
        k ≤ m →
        p + length (reply_texts node n costs terms m) ≤ length o →
        length o₁ ≡ length o
    kept-length o p k m e o₁ s l room =
        step-length o (reply_texts node n costs terms k) o₁ p e s (omega (arith, room, shorter k m l))

    -- and room for the next
    pub room_next :
        (o : List ℕ) (p k m e : ℕ) (o₁ : List ℕ) →
        Step (reply_texts node n costs terms k) p e o o₁ →
        k < m →
        p + length (reply_texts node n costs terms m) ≤ length o →
        e + length (reply_text node n (k + 1) (get_or costs k 0) (get_or terms k 0)) ≤ length o₁
    room_next o p k m e o₁ s l room =
        omega (
          arith,
          room,
          s.place,
          more-length k,
          shorter (k + 1) m (omega (arith, l)),
          kept-length o p k m e o₁ s (omega (arith, l)) room,
        )

    pub written :
        (o : List ℕ) (p k r q : ℕ) (o₁ o₂ : List ℕ) →
        Step (reply_texts node n costs terms k) p r o o₁ →
        Step (reply_text node n (k + 1) (get_or costs k 0) (get_or terms k 0)) r q o₁ o₂ →
        p + length (reply_texts node n costs terms k) ≤ length o →
        Step (reply_texts node n costs terms (k + 1)) p q o o₂
    written o p k r q o₁ o₂ s t l =
        subst (λ (x : List ℕ). Step x p q o o₂) (sym (more k))
        (step_then o (reply_texts node n costs terms k) o₁ (reply_text node n (k + 1) (get_or costs k 0) (get_or terms k 0))
        o₂ p r q
        s t l)

  -- the line, the plain text in the tail, the newline
  pub one-step :
      (o : List ℕ) (p i c t : ℕ) →
      p + length (reply_text node n i c t) ≤ length o →
      (a : ℕ) (o₁ : List ℕ) →
      Step (variant_line i c n) p a o o₁ →
      (r : ℕ) (q : List ℕ) →
      Wrote (plain_line node t) r (take (length o₁ - a) (drop a o₁)) q →
      (a + r + 1 ≤ length o)
      × ((length (put_mid a (length o₁ - a) o₁ q) ≡ length o)
      × Step (reply_text node n i c t) p (a + r + 1) o (set (put_mid a (length o₁ - a) o₁ q) (a + r) 10))
  unfolding reply_text
  one-step o p i c t l a o₁ s r q w =
      let room : p + (length (variant_line i c n) + length (plain_line node t) + 1) ≤ length o =
      omega (arith, l, reply-length i c t) in
      let same : length o₁ ≡ length o = step-length o (variant_line i c n) o₁ p a s (omega (arith, room)) in
      let o₂ = put_mid a (length o₁ - a) o₁ q in
      let u : Step (plain_line node t) a (a + r) o₁ o₂ =
      step-of-tail o₁ (plain_line node t) q a r (omega (arith, room, same, s.place)) w in
      let same₂ : length o₂ ≡ length o₁ =
      step-length o₁ (plain_line node t) o₂ a (a + r) u (omega (arith, room, same, s.place)) in
      let last : a + r + 1 ≤ length o = omega (arith, room, s.place, u.place) in
      let v : Step (plain_line node t ++ (10 ∷ [])) a (a + r + 1) o₁ (set o₂ (a + r) 10) =
      step_then o₁ (plain_line node t) o₂ (10 ∷ []) (set o₂ (a + r) 10) a (a + r) (a + r + 1) u
      (step-byte o₂ 10 (a + r) (omega (arith, last, same, same₂))) (omega (arith, room, same, s.place)) in (
        last,
        (
          same₂ ∙ same,
          step_then o (variant_line i c n) o₁ (plain_line node t ++ (10 ∷ [])) (set o₂ (a + r) 10) p a (a + r + 1) s v
              (omega (arith, room)),
        ),
      )

  -- how the place and the lengths stand after the line
  pub line-room :
      (o : List ℕ) (p i c t : ℕ) →
      p + length (reply_text node n i c t) ≤ length o →
      (a : ℕ) (o₁ : List ℕ) →
      Step (variant_line i c n) p a o o₁ →
      (a + length (plain_line node t) + 1 ≤ length o₁) × (length o₁ ≡ length o)
  line-room o p i c t l a o₁ s =
      let room : p + (length (variant_line i c n) + length (plain_line node t) + 1) ≤ length o =
      omega (arith, l, reply-length i c t) in
      let same : length o₁ ≡ length o = step-length o (variant_line i c n) o₁ p a s (omega (arith, room)) in
      (omega (arith, room, same, s.place), same)

-- A text fits in the tail where there is room for it.
pub fits-tail : (o e : List ℕ) (a : ℕ) → a + length e ≤ length o → length e ≤ length (take (length o - a) (drop a o))
fits-tail o e a l = omega (arith, l, length-take (length o - a) (drop a o), length-drop a o)
