-- The whole let text from its tables is the definition's. Assumes nothing.
use mathlib.Core.Path.{◌≡◌, refl, sym, ap, subst, ◌∙◌}
use mathlib.Core.Bool.{Bool, true, false}
use mathlib.Core.List.{List, [], ◌∷◌, ◌++◌, append_assoc, append-nil}
use Prim.{Dec, yes, no}
use Prim.Native.Nat.{ℕ, zero, suc, ◌+◌, ◌-◌, ◌<◌, ◌≤◌}
use native.Mathlib.Omega.{arith}
use native.Mathlib.Decide.{dec_lt, ℕ_discrete}
use lib.ListN.{length, get_or}
use lib.IntN.{ℤ}
use lib.Dec.{ltb}
use borrow.Author.Tests.{lt-ltb, le-ltb}
use Rattle.term_rules.specs.Nodes.{Node}
use Rattle.text_rules.specs.Forms.{children, Called, by_name, by_text, shown, child_text, line_in, line}
use Rattle.text_rules.specs.Bindings.{Bound, Place, nowhere, place, find}
use Rattle.text_rules.specs.LetText.{
  Naming,
  count_text,
  let_name,
  called_at,
  called,
  several,
  own,
  body_gap,
  let_line,
  let_lines,
  text_with,
}
use Rattle.text_rules.proofs.FormLaws.{form-same, child_text-is}
use Rattle.text_pieces.specs.Pieces.{capped, name_text, gap_text}
use Rattle.term_rules.specs.Lent.{arity_at, kids_at}
use Rattle.text_pieces.specs.Readable.{nodes, head_text, Inside, Readable}
use Rattle.text_pieces.proofs.heads.NodeLaws.{children-of-nodes}
use Rattle.term_layout.proofs.KidsLaws.{kids-length, kids-all}
use Rattle.text_counts.specs.Met.{bounds, place_no, Met}
use Rattle.text_counts.proofs.bindings.TableLaws.{bounds-none, bounds-step, bounds-length}
use Rattle.text_write.specs.Piece.{View, shown_above, body, view}
use Rattle.text_write.proofs.PieceLaws.{lower-of-readable}
use Rattle.text_write.specs.Widths.{called_by, Widths}
use Rattle.text_write.proofs.widths.WidthLaws.{called_by-named, called_by-text, shown-of-name, shown-of-text}
use Rattle.text_write.proofs.widths.FlatLaws.{shown_above-text}
use Rattle.text_lines.specs.Lines.{body_width, open_text, line_text, lines_to}
use Rattle.text_lines.proofs.CleanLaws.{several-append, several-of-count}
use Rattle.text_lines.proofs.OwnLaws.{CleanCall, own-broken, own-leaf, own_body}
use Rattle.text_lines.proofs.LineLaws.{body_width-leaf, body_width-wide, line_text-is, lines_to-none, lines_to-more}
use Rattle.text_lines.specs.Whole.{whole_text}
use Rattle.text_lines.proofs.lets.WholeLaws.{whole_text-is}

-- terms that are called the same below n have the same line
line_in-called :
    (node : ℕ → Node) (c d : ℕ → Called) (n : ℕ) →
    ((t : ℕ) → t < n → Inside t (children (node t))) →
    ((k : ℕ) → k < n → c k ≡ d k) →
    (f t : ℕ) →
    t < n →
    line_in node c f t ≡ line_in node d f t
unfolding line_in
line_in-called node c d n lower e zero t k = refl
line_in-called node c d n lower e (suc f) t k =
    form-same (32 ∷ []) (child_text c (line_in node c f)) (child_text d (line_in node d f)) (node t)
    (λ j l.
    let h : get_or (children (node t)) j 0 < t = lower t k j l in
    child_text-is c (line_in node c f) (get_or (children (node t)) j 0)
    ∙ (ap (λ (x : Called). shown x (line_in node c f (get_or (children (node t)) j 0)))
    (e (get_or (children (node t)) j 0) (omega arith))
    ∙ (ap (shown (d (get_or (children (node t)) j 0)))
    (line_in-called node c d n lower e f (get_or (children (node t)) j 0) (omega arith))
    ∙ sym (child_text-is d (line_in node d f) (get_or (children (node t)) j 0)))))

line-called :
    (node : ℕ → Node) (c d : ℕ → Called) (n : ℕ) →
    ((t : ℕ) → t < n → Inside t (children (node t))) →
    ((k : ℕ) → k < n → c k ≡ d k) →
    (t : ℕ) →
    t < n →
    line node c t ≡ line node d t
unfolding line
line-called node c d n lower e t k = line_in-called node c d n lower e (suc t) t k

-- ---- names
let_name-is : (nm : Naming) (k : ℕ) → let_name nm k ≡ name_text (nm.prefix ++ nm.hint) nm.start nm.bare_zero k
unfolding let_name name_text
let_name-is nm k = refl

called_is : (nm : Naming) (bs : List Bound) (t : ℕ) → called nm bs t ≡ called_at nm (find t 0 bs)
unfolding called
called_is nm bs t = refl

called_at-nowhere : (nm : Naming) → called_at nm nowhere ≡ by_text
unfolding called_at
called_at-nowhere nm = refl

called_at-place : (nm : Naming) (k : ℕ) → called_at nm (place k) ≡ by_name (let_name nm k)
unfolding called_at
called_at-place nm k = refl

module _ (nm : Naming) (clean_stem : several (nm.prefix ++ nm.hint) ≡ false) where
  let_name-clean : (k : ℕ) → several (let_name nm k) ≡ false
  unfolding let_name
  let_name-clean k =
      several-append (nm.prefix ++ nm.hint) (count_text nm.bare_zero (nm.start + k)) clean_stem
      (several-of-count nm.bare_zero (nm.start + k))

  called-clean : (bs : List Bound) (t : ℕ) → CleanCall (called nm bs t)
  called-clean bs t = subst CleanCall (sym (called_is nm bs t)) (by (find t 0 bs))
    where
      by : (p : Place) → CleanCall (called_at nm p)
      by nowhere = subst CleanCall (sym (called_at-nowhere nm)) tt
      by (place k) = subst CleanCall (sym (called_at-place nm k)) (let_name-clean k)

-- ---- the tables say how a term is called
module _
    (nm : Naming)
    (bs : List Bound)
    (ps : List ℕ)
    (n : ℕ)
    (right : (t : ℕ) → t < n → get_or ps t 0 ≡ place_no (find t 0 bs))
  where
    called_by-called :
        (k : ℕ) → k < n → called_by ps (nm.prefix ++ nm.hint) nm.start nm.bare_zero k ≡ called nm bs k
    called_by-called k l = by (find k 0 bs) refl
      where
        by :
            (p : Place) →
            find k 0 bs ≡ p →
            called_by ps (nm.prefix ++ nm.hint) nm.start nm.bare_zero k ≡ called nm bs k
        by nowhere e =
            called_by-text ps (nm.prefix ++ nm.hint) nm.start nm.bare_zero k (right k l ∙ ap place_no e)
            ∙ sym (called_is nm bs k ∙ (ap (called_at nm) e ∙ called_at-nowhere nm))
        by (place q) e =
            let h : get_or ps k 0 ≡ suc q = right k l ∙ ap place_no e in
            let z : get_or ps k 0 - 1 ≡ q = omega arith in
            called_by-named ps (nm.prefix ++ nm.hint) nm.start nm.bare_zero k (omega arith)
            ∙ (ap (λ (x : ℕ). by_name (name_text (nm.prefix ++ nm.hint) nm.start nm.bare_zero x)) z
            ∙ sym
            (called_is nm bs k
            ∙ (ap (called_at nm) e ∙ (called_at-place nm q ∙ ap by_name (let_name-is nm q)))))

shown_above-name :
    (v : View) (lim t : ℕ) (text : List ℕ) → lim < v.place t → shown_above v lim t text ≡ v.name (v.place t - 1)
unfolding shown_above
shown_above-name v lim t text l = rw (lt-ltb lim (v.place t) l, shown_above)

kids-some :
    (rs : List ℕ) (ls : List ℤ) (ns : List ℕ) (n : ℕ) →
    Readable rs ls ns n →
    (t : ℕ) →
    t < n →
    (arity_at rs t ≡ 0 → ⊥) →
    0 < length (kids_at rs t)
kids-some rs ls ns n r t l e =
    omega (arith, kids-all rs t (omega (arith, r.in_records)) (r.arity t l), e)

wide-same : (i w b : ℕ) → b ≡ i + capped w → ltb 80 (i + w) ≡ ltb 80 b
wide-same i w b e = by (dec_lt 80 (i + w))
  where
    by : Dec (80 < i + w) → ltb 80 (i + w) ≡ ltb 80 b
    by (yes l) = lt-ltb 80 (i + w) l ∙ sym (lt-ltb 80 b (omega arith))
    by (no l) = le-ltb 80 (i + w) (omega arith) ∙ sym (le-ltb 80 b (omega arith))

shown_above-called :
    (rs : List ℕ) (ls : List ℤ) (ns ps ws stem : List ℕ) (start : ℕ) (bare : Bool) (k : ℕ) (text : List ℕ) →
    shown_above (view rs ls ns ps ws stem start bare 80) 0 k text ≡ shown (called_by ps stem start bare k) text
shown_above-called rs ls ns ps ws stem start bare k text = by (dec_lt 0 (get_or ps k 0))
  where
    by :
        Dec (0 < get_or ps k 0) →
        shown_above (view rs ls ns ps ws stem start bare 80) 0 k text ≡ shown (called_by ps stem start bare k) text
    by (yes l) =
        shown_above-name (view rs ls ns ps ws stem start bare 80) 0 k text l
        ∙ (sym (shown-of-name (name_text stem start bare (get_or ps k 0 - 1)) text)
        ∙ ap (λ (x : Called). shown x text) (sym (called_by-named ps stem start bare k l)))
    by (no l) =
        shown_above-text (view rs ls ns ps ws stem start bare 80) 0 k text (omega arith)
        ∙ (sym (shown-of-text text)
        ∙ ap (λ (x : Called). shown x text) (sym (called_by-text ps stem start bare k (omega arith))))

-- ---- a binding's line
let_line-is :
    (name gap body : List ℕ) → body_gap (several body) ≡ gap → let_line name body ≡ ((open_text name ++ gap) ++ body)
    ++ (41 ∷ 10 ∷ [])
unfolding let_line
let_line-is name gap body e = rw (e, append_assoc, append_assoc, append_assoc)

body_gap-is : (b : Bool) → body_gap b ≡ gap_text b 2
unfolding body_gap gap_text
body_gap-is true = refl
body_gap-is false = refl

let_lines-none : (node : ℕ → Node) (nm : Naming) (called : ℕ → Called) (j : ℕ) → let_lines node nm called j [] ≡ []
unfolding let_lines
let_lines-none node nm called j = refl

let_lines-step :
    (node : ℕ → Node) (nm : Naming) (called : ℕ → Called) (j : ℕ) (b : Bound) (bs : List Bound) →
    let_lines node nm called j (b ∷ bs)
    ≡ let_line (let_name nm j) (own node called 2 b.indent b.term) ++ let_lines node nm called (j + 1) bs
unfolding let_lines
let_lines-step node nm called j b bs = refl

let_lines-more :
    (node : ℕ → Node) (nm : Naming) (called : ℕ → Called) (j : ℕ) (bs : List Bound) (b : Bound) →
    let_lines node nm called j (bs ++ (b ∷ []))
    ≡ let_lines node nm called j bs ++ let_line (let_name nm (j + length bs)) (own node called 2 b.indent b.term)
let_lines-more node nm called j [] b =
    let e : j + 0 ≡ j = omega arith in
    rw (
      let_lines-step node nm called j b [],
      let_lines-none node nm called (j + 1),
      let_lines-none node nm called j,
      append-nil,
      e,
    )
let_lines-more node nm called j (c ∷ bs) b =
    let e : j + length (c ∷ bs) ≡ j + 1 + length bs = omega arith in
    rw (
      let_lines-step node nm called j c (bs ++ (b ∷ [])),
      let_lines-step node nm called j c bs,
      let_lines-more node nm called (j + 1) bs b,
      append_assoc,
      e,
    )

-- ---- the whole
module _
    (rs : List ℕ)
    (ls : List ℤ)
    (ns ps ws terms indents : List ℕ)
    (nm : Naming)
    (n m : ℕ)
    (r : Readable rs ls ns n)
    (met : Met ps terms indents m)
    (in_places : n ≤ length ps)
    (w : Widths (nodes rs ls ns) (called_by ps (nm.prefix ++ nm.hint) nm.start nm.bare_zero) ws n)
    (clean : (t : ℕ) → t < n → several (head_text (nodes rs ls ns t)) ≡ false)
    (clean_stem : several (nm.prefix ++ nm.hint) ≡ false)
    (known : (k : ℕ) → k < m → get_or terms k 0 < n)
  where
    abbrev bs : List Bound
    bs = bounds terms indents m

    abbrev v : View
    v = view rs ls ns ps ws (nm.prefix ++ nm.hint) nm.start nm.bare_zero 80

    abbrev lower : (t : ℕ) → t < n → Inside t (children (nodes rs ls ns t))
    lower = lower-of-readable rs ls ns n r

    same-call : (k : ℕ) → k < n → called_by ps (nm.prefix ++ nm.hint) nm.start nm.bare_zero k ≡ called nm bs k
    same-call k l = called_by-called nm bs ps n (λ t lt. met.right t (omega arith)) k l

    wides : (t : ℕ) → t < n → get_or ws t 0 ≡ capped (length (line (nodes rs ls ns) (called nm bs) t))
    wides t l =
        w t l
        ∙ ap (λ (x : List ℕ). capped (length x))
        (line-called (nodes rs ls ns) (called_by ps (nm.prefix ++ nm.hint) nm.start nm.bare_zero) (called nm bs) n
        lower same-call t l)

    own_is : (m i t : ℕ) → t < n → own (nodes rs ls ns) (called nm bs) m i t ≡ body v m i t
    own_is m i t l =
        own_body (nodes rs ls ns) (called nm bs) n lower clean (called-clean nm clean_stem bs) v (λ t. refl) refl
        (λ k text lk.
        shown_above-called rs ls ns ps ws (nm.prefix ++ nm.hint) nm.start nm.bare_zero k text
        ∙ ap (λ (x : Called). shown x text) (same-call k lk))
        wides m i t l

    -- the gap of a binding, by its width
    gap_is :
        (i t : ℕ) →
        t < n →
        body_gap (several (own (nodes rs ls ns) (called nm bs) 2 i t)) ≡ gap_text (ltb 80 (body_width rs ws i t)) 2
    gap_is i t l = by (ℕ_discrete (arity_at rs t) 0)
      where
        kids : length (children (nodes rs ls ns t)) ≡ length (kids_at rs t)
        kids = ap length (children-of-nodes rs ls ns n r t l)

        by :
            Dec (arity_at rs t ≡ 0) →
            body_gap (several (own (nodes rs ls ns) (called nm bs) 2 i t)) ≡ gap_text (ltb 80 (body_width rs ws i t)) 2
        by (yes e) =
            ap body_gap
            (own-leaf (nodes rs ls ns) (called nm bs) n lower clean (called-clean nm clean_stem bs) 2 i t l
            (omega (arith, kids, kids-length rs t)))
            ∙ (body_gap-is false
            ∙ ap (λ (b : Bool). gap_text b 2)
            (sym (le-ltb 80 (body_width rs ws i t) (omega (arith, body_width-leaf rs ws i t e)))))
        by (no e) =
            ap body_gap
            (own-broken (nodes rs ls ns) (called nm bs) n lower clean (called-clean nm clean_stem bs) 2 i t l
            (omega (arith, kids, kids-some rs ls ns n r t l e)))
            ∙ (body_gap-is (ltb 80 (i + length (line (nodes rs ls ns) (called nm bs) t)))
            ∙ ap (λ (b : Bool). gap_text b 2)
            (wide-same i (length (line (nodes rs ls ns) (called nm bs) t)) (body_width rs ws i t)
            (body_width-wide rs ws i t e ∙ ap (λ (x : ℕ). i + x) (wides t l))))

    line-is :
        (k : ℕ) →
        k < m →
        let_line (let_name nm k) (own (nodes rs ls ns) (called nm bs) 2 (get_or indents k 0) (get_or terms k 0))
        ≡ line_text v rs ws (get_or indents k 0) (get_or terms k 0) k
    line-is k l =
        let_line-is (let_name nm k) (gap_text (ltb 80 (body_width rs ws (get_or indents k 0) (get_or terms k 0))) 2)
        (own (nodes rs ls ns) (called nm bs) 2 (get_or indents k 0) (get_or terms k 0))
        (gap_is (get_or indents k 0) (get_or terms k 0) (known k l))
        ∙ (ap
        (λ (x : List ℕ).
        ((open_text (let_name nm k) ++ gap_text (ltb 80 (body_width rs ws (get_or indents k 0) (get_or terms k 0)))
        2) ++ x)
        ++ (41 ∷ 10 ∷ []))
        (own_is 2 (get_or indents k 0) (get_or terms k 0) (known k l))
        ∙ (ap
        (λ (x : List ℕ).
        ((open_text x ++ gap_text (ltb 80 (body_width rs ws (get_or indents k 0) (get_or terms k 0))) 2)
        ++ body v 2 (get_or indents k 0) (get_or terms k 0))
        ++ (41 ∷ 10 ∷ []))
        (let_name-is nm k)
        ∙ sym (line_text-is v rs ws (get_or indents k 0) (get_or terms k 0) k)))

    lines_are :
        (k : ℕ) →
        k ≤ m →
        let_lines (nodes rs ls ns) nm (called nm bs) 0 (bounds terms indents k) ≡ lines_to v rs ws terms indents k
    lines_are zero l =
        ap (let_lines (nodes rs ls ns) nm (called nm bs) 0) (bounds-none terms indents)
        ∙ (let_lines-none (nodes rs ls ns) nm (called nm bs) 0 ∙ sym (lines_to-none v rs ws terms indents))
    lines_are (suc k) l =
        let c : 0 + length (bounds terms indents k) ≡ k = omega (arith, bounds-length terms indents k) in
        let s : suc k ≡ k + 1 = omega arith in
        ap (let_lines (nodes rs ls ns) nm (called nm bs) 0) (bounds-step terms indents k)
        ∙ (let_lines-more (nodes rs ls ns) nm (called nm bs) 0 (bounds terms indents k)
        (record { term = get_or terms k 0; indent = get_or indents k 0 })
        ∙ (ap
        (λ (x : ℕ).
        let_lines (nodes rs ls ns) nm (called nm bs) 0 (bounds terms indents k)
        ++ let_line (let_name nm x) (own (nodes rs ls ns) (called nm bs) 2 (get_or indents k 0) (get_or terms k 0))) c
        ∙ (ap
        (λ (x : List ℕ).
        x ++ let_line (let_name nm k) (own (nodes rs ls ns) (called nm bs) 2 (get_or indents k 0) (get_or terms k 0)))
        (lines_are k (omega arith))
        ∙ (ap (λ (x : List ℕ). lines_to v rs ws terms indents k ++ x) (line-is k (omega arith))
        ∙ (sym (lines_to-more v rs ws terms indents k)
        ∙ ap (lines_to v rs ws terms indents) (sym s))))))

    -- what is written is the definition's text
    pub whole_text-right : 0 < n → text_with (nodes rs ls ns) nm (n - 1) (bounds terms indents m) ≡ whole_text v rs ws
        terms indents n m
    unfolding text_with
    whole_text-right pos =
        ap (λ (x : List ℕ). x ++ (10 ∷ own (nodes rs ls ns) (called nm bs) 0 0 (n - 1))) (lines_are m (omega arith))
        ∙ (ap (λ (x : List ℕ). lines_to v rs ws terms indents m ++ (10 ∷ x)) (own_is 0 0 (n - 1) (omega arith))
        ∙ sym (whole_text-is v rs ws terms indents n m))
