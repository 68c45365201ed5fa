-- The laws of let text: what the tables hold, and that the definition's text is written from them. Assumes nothing.
use mathlib.Core.Path.{◌≡◌, refl, sym, ap, subst, ◌∙◌}
use mathlib.Core.Bool.{Bool, false}
use mathlib.Core.List.{List, ◌++◌}
use Prim.Native.Nat.{ℕ, ◌+◌, ◌-◌, ◌^◌, ◌<◌, ◌≤◌}
use native.Mathlib.Omega.{arith}
use lib.ListN.{length, get_or, replicate, length-replicate}
use lib.IntN.{ℤ}
use Rattle.text_rules.specs.Forms.{children}
use Rattle.text_rules.specs.LetText.{several, text_with, bindings_of, let_layout}
use Rattle.text_whole.proofs.Alike.KidLaws.{bindings-same}
use Rattle.term_rules.specs.Lent.{kids_at}
use Rattle.text_pieces.specs.Readable.{nodes, Readable}
use Rattle.text_pieces.proofs.heads.NodeLaws.{children-of-nodes}
use Rattle.text_counts.specs.Tallies.{Linked}
use Rattle.text_counts.specs.Met.{bounds, Blank, AllMet}
use Rattle.text_counts.proofs.bindings.TableLaws.{bounds-length}
use Rattle.text_write.specs.Piece.{view, Sheet}
use Rattle.text_write.specs.Widths.{called_by, Widths, Tables}
use Rattle.text_lines.specs.Lines.{Bundle}
use Rattle.text_lines.specs.Whole.{whole_text}
use Rattle.text_lines.proofs.lets.BoundLaws.{bundle-of-met, place-at-most}
use Rattle.text_lines.proofs.lets.LetLaws.{whole_text-right}
use Rattle.text_whole.specs.LetPlaced.{naming, Layable}
use Rattle.text_whole.proofs.PlacedLaws.{zeros-get}

pub linked-of-readable : (rs : List ℕ) (ls : List ℤ) (ns : List ℕ) (n : ℕ) → Readable rs ls ns n → Linked rs n
linked-of-readable rs ls ns n r =
    record { few = r.few; in_records = r.in_records; arity = r.arity; lower = r.lower }

module _
    (rs : List ℕ)
    (ls : List ℤ)
    (ns stem ps terms indents : List ℕ)
    (n start m : ℕ)
    (y : Layable rs ls ns stem n start)
    (v : AllMet rs ps terms indents n m)
    (in_places : n ≤ length ps)
    (few : length terms ≤ 1024)
  where
    pub place-low : (t : ℕ) → t < n → start + get_or ps t 0 ≤ 2 ^ 62
    place-low t l =
        omega (arith, place-at-most ps terms indents m v.met t (omega arith), v.met.free, y.low)

    pub laid-tables : (ws : List ℕ) → n ≤ length ws → Tables rs ls ns ps ws n start
    laid-tables ws w =
        record { readable = y.readable; in_places = in_places; in_wides = w; count_low = place-low }

    pub laid-bundle : Bundle terms indents n m start
    laid-bundle =
        bundle-of-met rs ps terms indents n m start (linked-of-readable rs ls ns n y.readable) y.some few
        (omega (arith, y.low)) v

    -- the bindings of the tables are those of the terms
    pub laid-bound : bounds terms indents m ≡ bindings_of (nodes rs ls ns) (n - 1)
    unfolding bindings_of
    laid-bound =
        v.same
        ∙ bindings-same (kids_at rs) (λ (u : ℕ). children (nodes rs ls ns u)) n
        (λ t l. sym (children-of-nodes rs ls ns n y.readable t l)) y.readable.lower (n - 1)
        (omega (arith, y.some))

    pub laid_next : start + m ≡ start + length (bindings_of (nodes rs ls ns) (n - 1))
    laid_next = ap (λ (x : ℕ). start + x) (sym (bounds-length terms indents m) ∙ ap length laid-bound)

    module _ (bare : Bool) (ws : List ℕ) (w : Widths (nodes rs ls ns) (called_by ps stem start bare) ws n) where
      pub laid-sheet : n ≤ length ws → Sheet rs ls ns ps ws n start
      laid-sheet l = record {
        readable = y.readable;
        in_places = in_places;
        in_wides = l;
        count_low = place-low;
        wide_low = λ t k. omega (arith, w t k);
      }

      pub laid-text :
          (prefix hint : List ℕ) →
          prefix ++ hint ≡ stem →
          whole_text (view rs ls ns ps ws stem start bare 80) rs ws terms indents n m
          ≡ let_layout (nodes rs ls ns) (naming prefix hint start bare) (n - 1)
      unfolding let_layout
      laid-text prefix hint e =
          subst
          (λ (x : List ℕ).
          Widths (nodes rs ls ns) (called_by ps x start bare) ws n →
          several x ≡ false →
          whole_text (view rs ls ns ps ws x start bare 80) rs ws terms indents n m
          ≡ let_layout (nodes rs ls ns) (naming prefix hint start bare) (n - 1)) e
          (λ q c. sym (whole q c) ∙ laid) w y.clean_stem
        where
          laid :
              text_with (nodes rs ls ns) (naming prefix hint start bare) (n - 1) (bounds terms indents m)
              ≡ let_layout (nodes rs ls ns) (naming prefix hint start bare) (n - 1)
          laid = ap (text_with (nodes rs ls ns) (naming prefix hint start bare) (n - 1)) laid-bound

          whole :
              Widths (nodes rs ls ns) (called_by ps (prefix ++ hint) start bare) ws n →
              several (prefix ++ hint) ≡ false →
              text_with (nodes rs ls ns) (naming prefix hint start bare) (n - 1) (bounds terms indents m)
              ≡ whole_text (view rs ls ns ps ws (prefix ++ hint) start bare 80) rs ws terms indents n m
          whole q c =
              whole_text-right rs ls ns ps ws terms indents (naming prefix hint start bare) n m y.readable v.met
              in_places q y.clean c (λ k l. laid-bundle.known k l) y.some

-- tables of zeros to start from
pub blank-tables :
    (k n : ℕ) →
    n ≤ k →
    Blank (replicate k 0) (replicate k 0) (replicate k 0) (replicate k 0) (replicate k 0) n
blank-tables k n l = record {
  counts_zero = λ i. omega (arith, zeros-get k i);
  sizes_zero = λ i. omega (arith, zeros-get k i);
  places_zero = λ i. omega (arith, zeros-get k i);
  in_counts = omega (arith, length-replicate {A = ℕ} k 0);
  in_sizes = omega (arith, length-replicate {A = ℕ} k 0);
  in_places = omega (arith, length-replicate {A = ℕ} k 0);
  in_terms = omega arith;
  in_indents = refl;
}
