-- `text_lines::put_line` meets its contract: what opens it, the gap, the body, and two bytes. Assumes nothing.
use Prim.Native.Nat.{ℕ, ◌+◌, ◌-◌, ◌≤◌, ◌<◌}
use mathlib.Core.Path.{◌≡◌, subst}
use mathlib.Core.List.{List, [], ◌∷◌}
use lib.ListN.{length, take, drop, length-set, length-append}
use lib.Dec.{ltb}
use borrow.Rule.Slice.PartMut.{put_mid}
use Rattle.decimal.specs.Written.{Wrote}
use Rattle.text_pieces.specs.Pieces.{gap_text}
use Rattle.text_pieces.specs.Read.{named}
use Rattle.text_write.specs.declared.page.Page.{Page}
use Rattle.text_write.specs.Piece.{piece, body}
use Rattle.text_lines.specs.Lines.{body_width, open_text, line_text}
use Rattle.text_lines.proofs.LineLaws.{line_text-is, line_text-length}
use Rattle.text_lines.proofs.ThreeLaws.{second_fits, third-fits, third-end, third-length, third-wrote}
use Rattle.text_lines.proofs.SeenLaws.{seen, own-piece}
use native.Mathlib.Omega.{arith}
use Rattle.text_lines.proofs.put_line.Goals as goal

module _ (p : Page) where
  module _ (k i t : ℕ) (below : t < p.nodes.n) where
    abbrev opening : List ℕ
    opening = open_text (named p.spelling k)

    abbrev gap_of_body : List ℕ
    gap_of_body = gap_text (ltb 80 (body_width p.nodes.records.now p.wides.now i t)) 2

    abbrev body_of : List ℕ
    body_of = body (seen p) 2 i t

    gap-wrote :
        {x : ℕ} →
        x ≡ body_width p.nodes.records.now p.wides.now i t →
        {r : ℕ} {o q : List ℕ} →
        Wrote (gap_text (ltb 80 x) 2) r o q →
        Wrote gap_of_body r o q
    gap-wrote e {r} {o} {q} y = subst (λ (y : ℕ). Wrote (gap_text (ltb 80 y) 2) r o q) e y

    module _ (o : List ℕ) (fits : length (line_text (seen p) p.nodes.records.now p.wides.now i t k) ≤ length o) where
      room : length opening + length gap_of_body + length body_of + 2 ≤ length o
      room =
          omega (
            arith,
            fits,
            line_text-length (seen p) p.nodes.records.now p.wides.now i t k,
            length-append (40 ∷ 108 ∷ 101 ∷ 116 ∷ 32 ∷ []) (named p.spelling k),
          )

      -- after the body
      module _
          {o₁ : List ℕ}
          {p₁ : ℕ}
          (w₁ : Wrote opening p₁ o o₁)
          {x : ℕ}
          (e : x ≡ body_width p.nodes.records.now p.wides.now i t)
          {q₂ : List ℕ}
          {r₂ : ℕ}
          (w₂ : Wrote (gap_text (ltb 80 x) 2) r₂ (take (length o₁ - p₁) (drop p₁ o₁)) q₂)
          {q₃ : List ℕ}
          {r₃ : ℕ}
          (w₃ :
          Wrote (piece (seen p) 18446744073709551615 2 i t) r₃
          (take (length (put_mid p₁ (length o₁ - p₁) o₁ q₂) - (p₁ + r₂))
          (drop (p₁ + r₂) (put_mid p₁ (length o₁ - p₁) o₁ q₂)))
          q₃)
        where
          end-place : p₁ + r₂ + r₃ + 2 ≤ length o
          end-place =
              third-end o opening gap_of_body body_of room o₁ p₁ w₁ q₂ r₂ (gap-wrote e w₂) q₃ r₃
              (rw (own-piece p 2 i t below) at w₃)

          end-length :
              length
              (put_mid (p₁ + r₂) (length (put_mid p₁ (length o₁ - p₁) o₁ q₂) - (p₁ + r₂))
              (put_mid p₁ (length o₁ - p₁) o₁ q₂) q₃)
              ≡ length o
          end-length =
              third-length o opening gap_of_body body_of room o₁ p₁ w₁ q₂ r₂ (gap-wrote e w₂) q₃ r₃
              (rw (own-piece p 2 i t below) at w₃)

pub put_open-p-requires : goal.put_open-p-requires
put_open-p-requires c =
    record {
      k_bound = c.requires.k_bound;
      k_in_bounds = omega (
        arith,
        room c.args.page.now c.args.k c.args.i c.args.t c.requires.t_lt_n c.args.out.now
            c.requires.k_in_bounds,
      );
    }

pub put_gap-p-requires : goal.put_gap-p-requires
put_gap-p-requires c =
    let opening-text = opening c.args.page.now c.args.k c.args.i c.args.t c.requires.t_lt_n in
    let gap-text = gap_of_body c.args.page.now c.args.k c.args.i c.args.t c.requires.t_lt_n in
    let body-text = body_of c.args.page.now c.args.k c.args.i c.args.t c.requires.t_lt_n in
    rw c.body_width-width.ensures
    (second_fits c.args.out.now opening-text gap-text body-text (room c.args.page.now c.args.k c.args.i c.args.t
    c.requires.t_lt_n c.args.out.now c.requires.k_in_bounds)
    c.put_open-p.new.out
    c.put_open-p.result c.put_open-p.ensures)

pub put-p-requires : goal.put-p-requires
put-p-requires c =
    let opening-text = opening c.args.page.now c.args.k c.args.i c.args.t c.requires.t_lt_n in
    let gap-text = gap_of_body c.args.page.now c.args.k c.args.i c.args.t c.requires.t_lt_n in
    let body-text = body_of c.args.page.now c.args.k c.args.i c.args.t c.requires.t_lt_n in
    record {
      t_lt_n = c.requires.t_lt_n;
      t_bound = c.requires.t_bound;
      t_in_bounds = rw (own-piece c.args.page.now 2 c.args.i c.args.t c.requires.t_lt_n)
          (third-fits c.args.out.now opening-text gap-text body-text (room c.args.page.now c.args.k c.args.i
          c.args.t c.requires.t_lt_n c.args.out.now c.requires.k_in_bounds)
          c.put_open-p.new.out
          c.put_open-p.result
          c.put_open-p.ensures
          c.put_gap-p.new.out c.put_gap-p.result
          (gap-wrote c.args.page.now c.args.k c.args.i c.args.t c.requires.t_lt_n
          c.body_width-width.ensures
          c.put_gap-p.ensures));
    }

pub bounds-out-p : goal.bounds-out-p
bounds-out-p c = omega (
  arith,
  end-place c.args.page.now c.args.k c.args.i c.args.t c.requires.t_lt_n c.args.out.now c.requires.k_in_bounds
      c.put_open-p.ensures c.body_width-width.ensures c.put_gap-p.ensures c.put-p.ensures,
  (end-length c.args.page.now c.args.k c.args.i c.args.t c.requires.t_lt_n c.args.out.now c.requires.k_in_bounds
      c.put_open-p.ensures c.body_width-width.ensures c.put_gap-p.ensures c.put-p.ensures),
)

pub bounds-out-p-2 : goal.bounds-out-p-2
bounds-out-p-2 c = simp length-set (omega (
  arith,
  end-place c.args.page.now c.args.k c.args.i c.args.t c.requires.t_lt_n c.args.out.now c.requires.k_in_bounds
      c.put_open-p.ensures c.body_width-width.ensures c.put_gap-p.ensures c.put-p.ensures,
  (end-length c.args.page.now c.args.k c.args.i c.args.t c.requires.t_lt_n c.args.out.now c.requires.k_in_bounds
      c.put_open-p.ensures c.body_width-width.ensures c.put_gap-p.ensures c.put-p.ensures),
))

pub returns : goal.returns
returns c =
    let opening-text = opening c.args.page.now c.args.k c.args.i c.args.t c.requires.t_lt_n in
    let gap-text = gap_of_body c.args.page.now c.args.k c.args.i c.args.t c.requires.t_lt_n in
    let body-text = body_of c.args.page.now c.args.k c.args.i c.args.t c.requires.t_lt_n in
    rw (line_text-is (seen c.args.page.now) c.args.page.now.nodes.records.now c.args.page.now.wides.now c.args.i
    c.args.t c.args.k)
    (third-wrote c.args.out.now opening-text gap-text body-text (room c.args.page.now c.args.k c.args.i c.args.t
    c.requires.t_lt_n c.args.out.now c.requires.k_in_bounds)
    c.put_open-p.new.out
    c.put_open-p.result
    c.put_open-p.ensures
    c.put_gap-p.new.out
    c.put_gap-p.result
    (gap-wrote c.args.page.now c.args.k c.args.i c.args.t c.requires.t_lt_n
    c.body_width-width.ensures c.put_gap-p.ensures)
    c.put-p.new.out
    c.put-p.result (rw (own-piece c.args.page.now 2 c.args.i c.args.t c.requires.t_lt_n) at c.put-p.ensures) 41 10)
