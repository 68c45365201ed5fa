-- The loop over an application's children: the head and the children passed stand. Assumes nothing.
use mathlib.Core.Path.{◌≡◌, sym, ap, subst, ◌∙◌}
use mathlib.Core.List.{List, [], ◌∷◌, ◌++◌, append_assoc, append-nil}
use Prim.Native.Nat.{ℕ, ◌+◌, ◌-◌, ◌<◌, ◌≤◌}
use native.Mathlib.Omega.{arith}
use lib.ListN.{length, take, drop, get_or, set, length-append}
use lib.Seq.{take_all}
use borrow.Rule.Slice.PartMut.{put_mid}
use Rattle.decimal.specs.Written.{Wrote}
use Rattle.decimal.proofs.WrittenLaws.{
  Stands,
  laid,
  laid-laid,
  stands-of-wrote,
  wrote-of-stands,
  stands-again,
  stands-then,
  stands-byte,
  stands-length,
  stands-fits,
}
use Rattle.text_rules.specs.Forms.{each}
use Rattle.text_rules.proofs.FormLaws.{each_none, each_more, each-room, each_part}

abbrev pub so_far : List ℕ → List ℕ → (ℕ → List ℕ) → List ℕ → ℕ → List ℕ
so_far head gap g ks j = head ++ each gap g (take j ks)

abbrev whole : List ℕ → List ℕ → (ℕ → List ℕ) → List ℕ → List ℕ
whole head gap g ks = head ++ (each gap g ks ++ (41 ∷ []))

-- child j is next, p bytes stand, and there is room for the whole
pub record Writing (head gap : List ℕ) (g : ℕ → List ℕ) (ks o₀ o : List ℕ) (p j : ℕ) : Type 0 where
  pub at : j ≤ length ks
  pub room : length (head ++ (each gap g ks ++ (41 ∷ []))) ≤ length o₀
  pub text : Stands o₀ (so_far head gap g ks j) o p

module _ (head gap : List ℕ) (g : ℕ → List ℕ) (ks o₀ o : List ℕ) (p j : ℕ) (v : Writing head gap g ks o₀ o p j) where
  whole_length : length head + (length (each gap g ks) + 1) ≤ length o₀
  whole_length = let r = v.room in simp length-append at r

  so_far-fits : length (so_far head gap g ks j) < length o₀
  so_far-fits = omega (arith, whole_length, each_part gap g ks j, length-append head (each gap g (take j ks)))

  pub writing-length : length o ≡ length o₀
  writing-length = stands-length o₀ (so_far head gap g ks j) o p v.text (omega (arith, so_far-fits))

  pub writing-place : p < length o
  writing-place = omega (arith, so_far-fits, writing-length, v.text.long)

  -- the gap and child j fit
  turn-room : j < length ks → length (so_far head gap g ks j) + length gap + length (g (get_or ks j 0)) < length o₀
  turn-room l =
      omega (arith, whole_length, each-room gap g ks j l, length-append head (each gap g (take j ks)))

  pub gap-fits : j < length ks → length gap ≤ length (take (length o - p) (drop p o))
  gap-fits l = stands-fits o₀ (so_far head gap g ks j) o p v.text gap (omega (arith, turn-room l))

  -- the gap was written
  module _ (l : j < length ks) (q : List ℕ) (r : ℕ) (w : Wrote gap r (take (length o - p) (drop p o)) q) where
    half : Stands o₀ (so_far head gap g ks j ++ gap) (put_mid p (length o - p) o q) (p + r)
    half = stands-then o₀ (so_far head gap g ks j) o p v.text gap q r w

    half-fits : length (so_far head gap g ks j ++ gap) + length (g (get_or ks j 0)) < length o₀
    half-fits = omega (arith, length-append (so_far head gap g ks j) gap, turn-room l)

    pub half_length : length (put_mid p (length o - p) o q) ≡ length o₀
    half_length =
        stands-length o₀ (so_far head gap g ks j ++ gap) (put_mid p (length o - p) o q) (p + r) half
        (omega (arith, half-fits))

    pub half_place : p + r ≤ length (put_mid p (length o - p) o q)
    half_place = omega (arith, half.long, half-fits, half_length)

    pub child_fits :
        length (g (get_or ks j 0))
        ≤ length
        (take (length (put_mid p (length o - p) o q) - (p + r)) (drop (p + r) (put_mid p (length o - p) o q)))
    child_fits =
        stands-fits o₀ (so_far head gap g ks j ++ gap) (put_mid p (length o - p) o q) (p + r) half (g (get_or ks j 0))
        (omega (arith, half-fits))

    -- and the child
    module _
        (q₂ : List ℕ)
        (r₂ : ℕ)
        (w₂ :
        Wrote (g (get_or ks j 0)) r₂
        (take (length (put_mid p (length o - p) o q) - (p + r)) (drop (p + r) (put_mid p (length o - p) o q))) q₂)
      where
        pub writing-again :
            Writing head gap g ks o₀
            (put_mid (p + r) (length (put_mid p (length o - p) o q) - (p + r)) (put_mid p (length o - p) o q) q₂)
            (p + r + r₂) (j + 1)
        writing-again =
            let s =
            stands-then o₀ (so_far head gap g ks j ++ gap) (put_mid p (length o - p) o q) (p + r) half
            (g (get_or ks j 0)) q₂ r₂ w₂ in
            let e : (so_far head gap g ks j ++ gap) ++ g (get_or ks j 0) ≡ so_far head gap g ks (j + 1) =
            sym (rw (each_more gap g ks j l, append_assoc, append_assoc, append_assoc)) in
            record {
              at = omega arith;
              room = v.room;
              text =
                  subst
                  (λ (d : List ℕ).
                  Stands o₀ d
                  (put_mid (p + r) (length (put_mid p (length o - p) o q) - (p + r)) (put_mid p (length o - p) o q) q₂)
                  (p + r + r₂)) e s;
            }

-- the head stands
pub writing-none :
    (head gap : List ℕ) (g : ℕ → List ℕ) (ks o o₀ : List ℕ) (p : ℕ) →
    Wrote head p o o₀ →
    length o₀ ≡ length o →
    length (head ++ (each gap g ks ++ (41 ∷ []))) ≤ length o →
    Writing head gap g ks o₀ o₀ p 0
writing-none head gap g ks o o₀ p w n r =
    let e : head ≡ head ++ each gap g [] =
    sym (append-nil head) ∙ ap (λ (x : List ℕ). head ++ x) (sym (each_none gap g)) in
    record {
      at = omega arith;
      room = rw n r;
      text = subst (λ (d : List ℕ). Stands o₀ d o₀ p) e (stands-again o head o₀ p (stands-of-wrote o head o₀ p w));
    }

-- every child was passed, and the bracket is written
pub writing-end :
    (head gap : List ℕ) (g : ℕ → List ℕ) (ks orig o₀ o : List ℕ) (p₀ p j : ℕ) →
    Wrote head p₀ orig o₀ →
    length ks ≤ j →
    Writing head gap g ks o₀ o p j →
    Wrote (head ++ (each gap g ks ++ (41 ∷ []))) (p + 1) orig (set o p 41)
writing-end head gap g ks orig o₀ o p₀ p j w l v =
    let s = stands-byte o₀ (so_far head gap g ks j) o p v.text 41 (so_far-fits head gap g ks o₀ o p j v) in
    let d : so_far head gap g ks j ++ (41 ∷ []) ≡ head ++ (each gap g ks ++ (41 ∷ [])) =
    ap (λ (x : List ℕ). (head ++ each gap g x) ++ (41 ∷ [])) (take_all j ks l)
    ∙ append_assoc head (each gap g ks) (41 ∷ []) in
    let b : o₀ ≡ laid orig head = (stands-of-wrote orig head o₀ p₀ w).bytes in
    wrote-of-stands orig (head ++ (each gap g ks ++ (41 ∷ []))) (set o p 41) (p + 1)
    (record {
      long = s.long ∙ ap length d;
      bytes =
          s.bytes
          ∙ (ap (laid o₀) d
          ∙ (ap (λ (x : List ℕ). laid x (head ++ (each gap g ks ++ (41 ∷ [])))) b
          ∙ laid-laid orig head (each gap g ks ++ (41 ∷ []))));
    })
