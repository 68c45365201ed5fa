-- Each answer of the code is the definition's. Assumes nothing.
use mathlib.Core.Path.{◌≡◌, refl, ap, sym, ◌∙◌, subst}
use mathlib.Core.Bool.{true, false}
use mathlib.Core.List.{List, [], ◌∷◌}
use Prim.Native.Nat.{ℕ, ◌<◌, ◌≤◌}
use native.Mathlib.Omega.{arith}
use borrow.Author.Tests.{le-leb, lt-leb}
use lib.IntN.{ℤ}
use lib.ListN.{length, set, take}
use lib.Seq.{paste}
use Rattle.refusal.specs.declared.Refusal.TheVariants.{NoRoom, BadStore}
use Rattle.price.specs.Solved.{Blank}
use Rattle.price.proofs.ZeroLaws.{zeros, take-zeros-length, blank-lists}
use Rattle.term_rules.specs.Lent.{Store, store}
use Rattle.term_rules.specs.WellFormed.{well_formed}
use Rattle.term_rules.specs.Nodes.{literal}
use Rattle.term_rules.specs.Adding.{Adds, at, no_room, add}
use Rattle.term_add.specs.declared.Added.{Added}
use Rattle.term_add.specs.Interning.{Leaves}
use Rattle.std.specs.Prelude.{Option, Some, None, Ok, Err}
use Rattle.answer_rules.specs.Variants.{
  VariantsAfter,
  Lending,
  variant_literal,
  variants_kept,
  variants_refused,
  room_for_results,
}
use Rattle.variant_answers.specs.Kept.{lending}
use Rattle.variants_root.specs.Flat.{VariantsReady}
use Rattle.variants_root.specs.Several.{seen_variants, if_formed, literal_answer, LaidTable}
use Rattle.variants_root.specs.Chosen.{Picks, ZeroRanks}
use Rattle.variants_root.specs.declared.Choice.{Choice}

-- "17": by what the store is.
module _ (l : Lending) (a : VariantsAfter) where
  pub unformed-refuses : well_formed l.store ≡ false → variants_refused BadStore l ≡ if_formed l a
  unfolding if_formed
  unformed-refuses e = rw (e, if_formed)

  pub formed-is : well_formed l.store ≡ true → a ≡ if_formed l a
  unfolding if_formed
  formed-is e = rw (e, if_formed)

-- One result at the front of a list that has a place.
set_front : (l : List ℕ) (v : ℕ) → 0 < length l → set l 0 v ≡ paste l 0 (v ∷ []) 1
set_front [] v h = absurd (omega arith)
set_front (x ∷ l) v h = refl

-- A literal: no place for the result, no room for the term, or its one variant.
module _ (s : Store) (ws ts : List ℕ) (z : ℤ) (formed : well_formed s ≡ true) where
  abbrev l : Lending
  l = lending s ws ts

  no_place : room_for_results l 1 ≡ false → variants_refused NoRoom l ≡ literal_answer z l
  unfolding variant_literal
  no_place e = go (add s (literal z)) ∙ formed-is l (variant_literal l (add s (literal z))) formed
    where
      go : (a : Adds) → variants_refused NoRoom l ≡ variant_literal l a
      go (at i s') = rw (e, variant_literal)
      go no_room = refl

  pub literal-no-costs : length ws ≡ 0 → variants_refused NoRoom l ≡ literal_answer z l
  unfolding room_for_results
  literal-no-costs e = no_place (rw (lt-leb 1 (length ws) (omega arith)))

  pub literal-no-terms : (length ws ≡ 0 → ⊥) → length ts ≡ 0 → variants_refused NoRoom l ≡ literal_answer z l
  unfolding room_for_results
  literal-no-terms h e = no_place (rw (le-leb 1 (length ws) (omega (arith, h)), lt-leb 1 (length ts) (omega arith)))

  has-place : (length ws ≡ 0 → ⊥) → (length ts ≡ 0 → ⊥) → room_for_results l 1 ≡ true
  unfolding room_for_results
  has-place h k = rw (le-leb 1 (length ws) (omega (arith, h)), le-leb 1 (length ts) (omega (arith, k)))

  kept_at :
      (i : ℕ) (s' : Store) →
      room_for_results l 1 ≡ true →
      variant_literal l (at i s') ≡ variants_kept l (1 ∷ []) (i ∷ []) 1 s'
  unfolding variant_literal
  kept_at i s' e = rw (e, variant_literal)

  one_kept :
      (i : ℕ) (s' : Store) →
      (length ws ≡ 0 → ⊥) →
      (length ts ≡ 0 → ⊥) →
      seen_variants (Ok (record { count = 1; passes = 1 })) s' (set ws 0 1) (set ts 0 i)
      ≡ variants_kept l (1 ∷ []) (i ∷ []) 1 s'
  unfolding variants_kept
  one_kept i s' h k = rw (set_front ws 1 (omega (arith, h)), set_front ts i (omega (arith, k)))

  module _
      (rs : List ℕ) (ls : List ℤ) (ns : List ℕ) (r : Option Added) (w : Leaves s (add s (literal z)) r rs ls ns) where
    pub literal-full :
        r ≡ None → seen_variants (Err NoRoom) (store rs ls ns s.terms s.symbols) ws ts ≡ literal_answer z l
    unfolding variant_literal
    literal-full e =
        let a : no_room ≡ add s (literal z) = rw e at w.answer in
        ap (λ (x : Store). variants_refused NoRoom (lending x ws ts)) (w.kept e)
        ∙ ap (variant_literal l) a
        ∙ formed-is l (variant_literal l (add s (literal z))) formed

    pub literal-kept :
        (b : Added) →
        r ≡ Some b →
        (length ws ≡ 0 → ⊥) →
        (length ts ≡ 0 → ⊥) →
        seen_variants (Ok (record { count = 1; passes = 1 })) (store rs ls ns b.terms b.symbols) (set ws 0 1)
        (set ts 0 b.term)
        ≡ literal_answer z l
    literal-kept b e h k =
        let s' : Store = store rs ls ns b.terms b.symbols in
        let a : at b.term s' ≡ add s (literal z) = rw e at w.answer in
        one_kept b.term s' h k
        ∙ sym (kept_at b.term s' (has-place h k))
        ∙ ap (variant_literal l) a
        ∙ formed-is l (variant_literal l (add s (literal z))) formed

-- A table has at most 512 classes.
pub few_classes :
    {outputs heads starts children order functions labels : List ℕ} {values : List ℤ} {cells : List ℕ} {n : ℕ}
    {s : Store} →
    VariantsReady outputs heads starts children order functions labels values cells n s →
    n ≤ 512
few_classes r = omega (arith, r.classes, r.is.is.known.few_classes)

-- So has one that is laid.
pub laid-few :
    {n m w : ℕ} {order flat heads starts children functions labels cells : List ℕ} →
    LaidTable n m w order flat heads starts children functions labels cells →
    w ≤ 512
laid-few r = omega (arith, r.is.classes_are, r.is.is.is.known.few_classes)

-- The same lists with their own length for the number of classes.
pub ready_with :
    {outputs heads starts children order functions labels : List ℕ} {values : List ℤ} {cells : List ℕ} {n m :
    ℕ}
    {s : Store} →
    n ≡ m →
    VariantsReady outputs heads starts children order functions labels values cells n s →
    VariantsReady outputs heads starts children order functions labels values cells m s
ready_with {outputs} {heads} {starts} {children} {order} {functions} {labels} {values} {cells} {s = s} e r =
    subst (λ (k : ℕ). VariantsReady outputs heads starts children order functions labels values cells k s) e r

-- The costs of the call's own are zeros before, and so are the ranks.
pub blank-ranks :
    (n : ℕ) (costs ranks edges : List ℕ) →
    costs ≡ take (length ranks) (zeros n) →
    length ranks ≤ n →
    ZeroRanks ranks →
    length edges ≡ length ranks →
    Blank (length ranks) costs ranks edges
blank-ranks n costs ranks edges e h z l = record {
  fresh = record {
    long = ap length e ∙ sym (take-zeros-length (length ranks) n h);
    costs_zero = (blank-lists (length ranks) n costs e h).fresh.costs_zero;
    ranks_zero = z;
  };
  ranks_length = refl;
  edges_length = l;
}

-- What is told of a store that is well formed is told after it is checked too.
pub picks-formed :
    (rows edges ranks labels : List ℕ) (values : List ℤ) (prices list : List ℕ) (k : Choice) (s : Store)
    (told : Lending → VariantsAfter) →
    well_formed s ≡ true →
    Picks rows edges ranks labels values prices list k s told →
    Picks rows edges ranks labels values prices list k s (λ (l : Lending). if_formed l (told l))
picks-formed rows edges ranks labels values prices list k s told formed p = record {
  room = p.room;
  ready = p.ready;
  answers = λ ws ts a x.
      p.answers ws ts a x ∙ formed-is (lending s ws ts) (told (lending s ws ts)) formed;
}
