-- `heads::put_head` meets its contract, by the kind of the term. Assumes nothing.
use Prim.Native.Nat.{ℕ, ◌^◌, ◌≤◌, ◌<◌}
use mathlib.Core.Path.{◌≡◌, sym, ap, ◌∙◌}
use mathlib.Core.List.{List, [], ◌∷◌}
use lib.ListN.{length, get_or, set, length-set}
use lib.IntN.{ℤ, pos}
use mir.Syntax.{w64}
use mir.Val.{to_z, of_z, hbits}
use lib.Signed.{mag}
use mir.Facts.{to_z-of_z}
use Rattle.decimal.proofs.WrittenLaws.{stands-first, stands-fits, stands-then, wrote-of-stands}
use Rattle.name.specs.Entries.{name_at, InEntries}
use Rattle.term_rules.specs.Lent.{kind_at, symbol_no}
use Rattle.text_pieces.specs.Readable.{nodes, head_text, Readable}
use Rattle.text_pieces.proofs.heads.NodeLaws.{head-of-literal, head-of-variable, head-of-application}
use native.Mathlib.Omega.{arith}
use Rattle.text_pieces.proofs.heads.put_head.Goals as goal

-- a literal is read as it stands
same-literal :
    (ls : List ℤ) (t : ℕ) →
    mag (get_or ls t (pos 0)) < 2 ^ hbits w64 →
    to_z w64 (of_z w64 (get_or ls t (pos 0))) ≡ get_or ls t (pos 0)
same-literal ls t l = to_z-of_z {w = w64} (record { sfits = l })

module _ (rs : List ℕ) (ls : List ℤ) (ns : List ℕ) (n : ℕ) (r : Readable rs ls ns n) (t : ℕ) (l : t < n) where
  -- where the name of a term that is no literal stands
  held : (kind_at rs t ≡ 0 → ⊥) → InEntries ns (symbol_no rs t)
  held z = r.name t l (omega arith)

  -- an application's head, from the tests on the kind that was read
  head-is :
      (k : ℕ) →
      k ≡ kind_at rs t →
      (k ≡ 0 → ⊥) →
      (k ≡ 1 → ⊥) →
      head_text (nodes rs ls ns t) ≡ 40 ∷ name_at ns (symbol_no rs t)
  head-is k e z o = head-of-application _ _ _ n r t l (λ q. z (e ∙ q)) (λ q. o (e ∙ q))

pub put_literal-requires : goal.put_literal-requires
put_literal-requires c =
    rw (same-literal c.args.nodes.now.literals.now c.args.t c.put_literal-arg-then-kind-eq0-1.given) (rw
    (head-of-literal c.args.nodes.now.records.now c.args.nodes.now.literals.now c.args.nodes.now.names.now
    c.args.nodes.now.n c.args.nodes.now.readable c.args.t c.requires.t_lt_n (sym c.kind_of-kind.ensures ∙
    c.if-kind-eq0.true)) at c.requires.t_in_bounds)

pub returns-then-kind-eq0 : goal.returns-then-kind-eq0
returns-then-kind-eq0 c =
    rw (head-of-literal c.args.nodes.now.records.now c.args.nodes.now.literals.now c.args.nodes.now.names.now
    c.args.nodes.now.n c.args.nodes.now.readable c.args.t c.requires.t_lt_n
    (sym c.kind_of-kind.ensures
    ∙ c.if-kind-eq0.true))
    (rw (same-literal c.args.nodes.now.literals.now c.args.t c.put_literal-arg-then-kind-eq0-1.given) at
    c.put_literal.ensures)

pub put_symbol-requires : goal.put_symbol-requires
put_symbol-requires c =
    let h = held c.args.nodes.now.records.now c.args.nodes.now.literals.now c.args.nodes.now.names.now
    c.args.nodes.now.n c.args.nodes.now.readable c.args.t c.requires.t_lt_n (λ e. c.if-kind-eq0.false
    (c.kind_of-kind.ensures ∙ e)) in
    let o : kind_at c.args.nodes.now.records.now c.args.t ≡ 1 = sym c.kind_of-kind.ensures ∙ c.if-kind-eq1.true in
    record {
      in_entries = rw c.symbol_of-k.ensures h;
      k_in_bounds = rw c.symbol_of-k.ensures (rw (head-of-variable c.args.nodes.now.records.now
          c.args.nodes.now.literals.now c.args.nodes.now.names.now c.args.nodes.now.n c.args.nodes.now.readable
          c.args.t c.requires.t_lt_n o) at c.requires.t_in_bounds);
    }

pub returns-then-kind-eq1 : goal.returns-then-kind-eq1
returns-then-kind-eq1 c =
    let o : kind_at c.args.nodes.now.records.now c.args.t ≡ 1 = sym c.kind_of-kind.ensures ∙ c.if-kind-eq1.true in
    rw (head-of-variable c.args.nodes.now.records.now c.args.nodes.now.literals.now c.args.nodes.now.names.now
    c.args.nodes.now.n c.args.nodes.now.readable c.args.t c.requires.t_lt_n o) (rw c.symbol_of-k.ensures at
    c.put_symbol.ensures)

pub bounds-out-0 : goal.bounds-out-0
bounds-out-0 c =
    omega (
      arith,
      c.requires.t_in_bounds,
      ap length (head-is c.args.nodes.now.records.now c.args.nodes.now.literals.now c.args.nodes.now.names.now
          c.args.nodes.now.n c.args.nodes.now.readable c.args.t c.requires.t_lt_n c.kind_of-kind.result
          c.kind_of-kind.ensures
          c.if-kind-eq0.false c.if-kind-eq1.false),
    )

pub slice_bounds-put_symbol-count : goal.slice_bounds-put_symbol-count
slice_bounds-put_symbol-count c =
    simp length-set (omega (
      arith,
      c.requires.t_in_bounds,
      ap length (head-is c.args.nodes.now.records.now c.args.nodes.now.literals.now c.args.nodes.now.names.now
          c.args.nodes.now.n c.args.nodes.now.readable c.args.t c.requires.t_lt_n c.kind_of-kind.result
          c.kind_of-kind.ensures
          c.if-kind-eq0.false c.if-kind-eq1.false),
    ))

pub slice_bounds-put_symbol-start : goal.slice_bounds-put_symbol-start
slice_bounds-put_symbol-start c =
    let h : 1 ≤ length (set c.args.out.now 0 40) =
    simp length-set (omega (
      arith,
      c.requires.t_in_bounds,
      ap length (head-is c.args.nodes.now.records.now c.args.nodes.now.literals.now c.args.nodes.now.names.now
          c.args.nodes.now.n c.args.nodes.now.readable c.args.t c.requires.t_lt_n c.kind_of-kind.result
          c.kind_of-kind.ensures
          c.if-kind-eq0.false c.if-kind-eq1.false),
    )) in
    h

pub put_symbol-requires-2 : goal.put_symbol-requires-2
put_symbol-requires-2 c =
    let h = held c.args.nodes.now.records.now c.args.nodes.now.literals.now c.args.nodes.now.names.now
    c.args.nodes.now.n c.args.nodes.now.readable c.args.t c.requires.t_lt_n (λ e. c.if-kind-eq0.false
    (c.kind_of-kind.ensures ∙ e)) in
    let e = ap length (head-is c.args.nodes.now.records.now c.args.nodes.now.literals.now c.args.nodes.now.names.now
    c.args.nodes.now.n c.args.nodes.now.readable c.args.t c.requires.t_lt_n c.kind_of-kind.result
    c.kind_of-kind.ensures
    c.if-kind-eq0.false c.if-kind-eq1.false) in
    record {
      in_entries = rw c.symbol_of-k.ensures h;
      k_in_bounds = rw c.symbol_of-k.ensures
          (stands-fits c.args.out.now (40 ∷ []) _ 1
          (stands-first c.args.out.now 40 (omega (arith, c.requires.t_in_bounds, e)))
          (name_at c.args.nodes.now.names.now (symbol_no c.args.nodes.now.records.now c.args.t))
          (omega (arith, c.requires.t_in_bounds, e)));
    }

pub returns : goal.returns
returns c =
    let o = c.args.out.now in
    let e =
    head-is c.args.nodes.now.records.now c.args.nodes.now.literals.now c.args.nodes.now.names.now c.args.nodes.now.n
    c.args.nodes.now.readable c.args.t c.requires.t_lt_n c.kind_of-kind.result c.kind_of-kind.ensures
    c.if-kind-eq0.false c.if-kind-eq1.false in
    rw e
    (wrote-of-stands o (40 ∷ name_at c.args.nodes.now.names.now (symbol_no c.args.nodes.now.records.now c.args.t)) _ _
    (stands-then o (40 ∷ []) _ 1 (stands-first o 40 (omega (arith, c.requires.t_in_bounds, ap length e))) (name_at
    c.args.nodes.now.names.now (symbol_no c.args.nodes.now.records.now c.args.t))
    c.put_symbol-2.new.out c.put_symbol-2.result
    (rw c.symbol_of-k.ensures at c.put_symbol-2.ensures)))
