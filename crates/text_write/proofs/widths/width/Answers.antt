-- `widths::width` meets its contract: the head, and each child after a space. Assumes nothing.
use Prim.Native.Nat.{ℕ, ◌<◌}
use mathlib.Core.Path.{◌≡◌, refl, sym, ap, ◌∙◌}
use mathlib.Core.List.{List, [], ◌∷◌, ◌++◌}
use lib.ListN.{length, get_or}
use Rattle.term_rules.specs.Nodes.{Node}
use Rattle.text_rules.specs.Forms.{Called, each, form, child_text, line}
use Rattle.text_rules.proofs.FormLaws.{line_step, child_text-is}
use Rattle.text_pieces.specs.Pieces.{capped}
use Rattle.term_rules.specs.Lent.{kind_at, kids_at}
use Rattle.text_pieces.specs.Readable.{head_text}
use Rattle.text_pieces.specs.Read.{nodes_of}
use Rattle.text_pieces.specs.declared.nodes.Nodes.{Nodes}
use Rattle.text_pieces.specs.declared.Spelling.{Spelling}
use Rattle.text_write.proofs.PieceLaws.{lower-of-readable, form-of-leaf, form-of-applied}
use Rattle.text_write.proofs.MeasuringLaws.{measuring-none, measuring-again, measuring-end}
use Rattle.text_write.specs.Seen.{called_of}
use native.Mathlib.Omega.{arith}
use Rattle.text_write.proofs.widths.width.Goals as goal

-- what a call goes by
record Call : Type 0 where
  pub nodes : Nodes
  pub places : List ℕ
  pub spelling : Spelling
  pub t : ℕ
  pub below : t < nodes.n

abbrev call : (s : Nodes) → List ℕ → Spelling → (t : ℕ) → t < s.n → Call
call s ps c t k = record { nodes = s; places = ps; spelling = c; t = t; below = k }

abbrev node : Call → ℕ → Node
node s = nodes_of s.nodes

abbrev called : Call → ℕ → Called
called s = called_of s.places s.spelling

abbrev head : Call → List ℕ
head s = head_text (node s s.t)

abbrev child : Call → ℕ → List ℕ
child s = child_text (called s) (line (node s) (called s))

abbrev kids : Call → List ℕ
kids s = kids_at s.nodes.records.now s.t

below-t : (s : Call) (j : ℕ) → j < length (kids s) → get_or (kids s) j 0 < s.t
below-t s j l = s.nodes.readable.lower s.t s.below j l

-- the line, by the kind of the term
by_form : (s : Call) → line (node s) (called s) s.t ≡ form (32 ∷ []) (child s) (node s s.t)
by_form s =
    line_step (node s) (called s) s.nodes.n
    (lower-of-readable s.nodes.records.now s.nodes.literals.now s.nodes.names.now s.nodes.n
    s.nodes.readable)
    s.t s.below

by-leaf :
    (s : Call) →
    (kind_at s.nodes.records.now s.t ≡ 2 → ⊥) →
    line (node s) (called s) s.t ≡ head s
by-leaf s e =
    by_form s
    ∙ form-of-leaf s.nodes.records.now s.nodes.literals.now s.nodes.names.now s.nodes.n
    s.nodes.readable s.t s.below (32 ∷ []) (child s) e

by-app :
    (s : Call) →
    kind_at s.nodes.records.now s.t ≡ 2 →
    line (node s) (called s) s.t ≡ head s ++ (each (32 ∷ []) (child s) (kids s) ++ (41 ∷ []))
by-app s e =
    by_form s
    ∙ form-of-applied s.nodes.records.now s.nodes.literals.now s.nodes.names.now s.nodes.n
    s.nodes.readable s.t s.below (32 ∷ []) (child s) e

pub returns-then-kind_of-ne2 : goal.returns-then-kind_of-ne2
returns-then-kind_of-ne2 c =
    let s = call c.args.nodes.now c.args.places.now c.args.spelling.now c.args.t c.requires.t_lt_n in
    c.head_length-acc.ensures ∙ ap (λ (x : List ℕ). capped (length x)) (sym (by-leaf s (λ e. c.if-kind_of-ne2.true
    (c.kind_of.ensures ∙ e))))

pub loop-k-init : goal.loop-k-init
loop-k-init c =
    let s = call c.args.nodes.now c.args.places.now c.args.spelling.now c.args.t c.requires.t_lt_n in (
      c.children_of-ks.ensures,
      measuring-none (head s) (32 ∷ []) (child s) (kids s) c.head_length-acc.result
          c.head_length-acc.ensures,
    )

pub shown_width-child-requires : goal.shown_width-child-requires
shown_width-child-requires c =
    let s = call c.args.nodes.now c.args.places.now c.args.spelling.now c.args.t c.requires.t_lt_n in
    let k = below-t s c.loop-k.k-index (omega (arith, c.loop-k-test.true, ap length c.loop-k.invariant.0)) in
    record {
      k_in_bounds = rw c.loop-k.invariant.0 (omega (arith, k, c.requires.t_lt_n, c.requires.tables.in_places));
      k_in_bounds_2 = rw c.loop-k.invariant.0 (omega (arith, k, c.requires.t_lt_n, c.requires.tables.in_wides));
      k_bound = rw c.loop-k.invariant.0
          (c.requires.tables.count_low (get_or (kids s) c.loop-k.k-index 0) (omega (arith, k, c.requires.t_lt_n)));
    }

pub loop-k-preserved : goal.loop-k-preserved
loop-k-preserved c =
    let s = call c.args.nodes.now c.args.places.now c.args.spelling.now c.args.t c.requires.t_lt_n in
    let l = c.loop-k in
    let k = below-t s l.k-index (omega (arith, c.loop-k-test.true, ap length c.loop-k.invariant.0)) in
    let w = rw l.invariant.0 at c.shown_width-child.ensures in (
      l.invariant.0,
      measuring-again (head s) (32 ∷ []) (child s) (kids s) l.acc l.k-index l.invariant.1
          (omega (arith, c.loop-k-test.true, ap length c.loop-k.invariant.0)) 1 c.add.result
          c.shown_width-child.result _ refl c.add.ensures
          (w.right (line (node s) (called s) (get_or (kids s) l.k-index 0))
          (c.requires.widths (get_or (kids s) l.k-index 0) k)
          ∙ ap (λ (x : List ℕ). capped (length x))
          (sym (child_text-is (called s) (line (node s) (called s)) (get_or (kids s) l.k-index 0))))
          c.add-acc.ensures,
    )

pub returns : goal.returns
returns c =
    let s = call c.args.nodes.now c.args.places.now c.args.spelling.now c.args.t c.requires.t_lt_n in
    let l = c.loop-k in
    measuring-end (head s) (32 ∷ []) (child s) (kids s) l.acc l.k-index l.invariant.1
    (omega (arith, c.loop-k-test.false, ap length c.loop-k.invariant.0)) _ c.add-2.ensures
    ∙ ap (λ (x : List ℕ). capped (length x)) (sym (by-app s (sym c.kind_of.ensures ∙ c.if-kind_of-ne2.false)))
