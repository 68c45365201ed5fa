-- `heads::head_length` meets its contract, by the kind of the term. Assumes nothing.
use Prim.Native.Nat.{ℕ, ◌^◌, ◌≤◌, ◌<◌}
use mathlib.Core.Path.{◌≡◌, sym, ap, ◌∙◌}
use lib.ListN.{length, get_or}
use mathlib.Core.List.{List}
use lib.IntN.{ℤ, pos}
use mir.Syntax.{w64}
use mir.Val.{to_z, of_z, hbits}
use lib.Signed.{mag}
use mir.Facts.{to_z-of_z}
use Rattle.decimal.specs.Decimal.{literal_text}
use Rattle.name.specs.Entries.{length_at, name_at, InEntries}
use Rattle.term_rules.specs.Lent.{kind_at, symbol_no}
use Rattle.text_pieces.specs.Readable.{nodes, head_text, Readable}
use Rattle.text_pieces.proofs.heads.NodeLaws.{head-of-literal, head-of-variable, head-of-application, name-length}
use native.Mathlib.Omega.{arith}
use Rattle.text_pieces.proofs.heads.head_length.Goals as goal

-- a literal is read as it stands
same-literal :
    (ls : List ℤ) (t : ℕ) →
    mag (get_or ls t (pos 0)) < 2 ^ hbits w64 →
    to_z w64 (of_z w64 (get_or ls t (pos 0))) ≡ get_or ls t (pos 0)
same-literal ls t l = to_z-of_z {w = w64} (record { sfits = l })

module _ (rs : List ℕ) (ls : List ℤ) (ns : List ℕ) (n : ℕ) (r : Readable rs ls ns n) (t : ℕ) (l : t < n) where
  -- where the name of a term that is no literal stands
  held : (kind_at rs t ≡ 0 → ⊥) → InEntries ns (symbol_no rs t)
  held z = r.name t l (omega arith)

  -- the length that was read is the name's
  name-long :
      (x : ℕ) (k : ℕ) (z : kind_at rs t ≡ 0 → ⊥) →
      k ≡ symbol_no rs t →
      x ≡ length_at ns k →
      (x ≤ 31) × (x ≡ length (name_at ns (symbol_no rs t)))
  name-long x k z e y =
      let q = y ∙ ap (length_at ns) e in (
        omega (arith, q, (held z).short),
        q ∙ sym (name-length _ _ _ n r t l z),
      )

pub returns-then-kind-eq0 : goal.returns-then-kind-eq0
returns-then-kind-eq0 c =
    let e : kind_at c.args.nodes.now.records.now c.args.t ≡ 0 =
    sym c.kind_of-kind.ensures ∙ c.if-kind-eq0.true in
    let same : literal_text (to_z w64 (of_z w64 (get_or c.args.nodes.now.literals.now c.args.t (pos 0))))
    ≡ head_text (nodes c.args.nodes.now.records.now c.args.nodes.now.literals.now c.args.nodes.now.names.now
    c.args.t) =
    ap literal_text (same-literal c.args.nodes.now.literals.now c.args.t c.literal_length-arg-1.given)
    ∙ sym (head-of-literal _ _ _ c.args.nodes.now.n c.args.nodes.now.readable c.args.t c.requires.t_lt_n e) in
    let long : c.literal_length.result ≡ length (head_text (nodes c.args.nodes.now.records.now
    c.args.nodes.now.literals.now c.args.nodes.now.names.now c.args.t)) =
    c.literal_length.ensures ∙ ap length same in
    omega (arith, c.add.ensures, long)

pub returns-then-kind-eq1 : goal.returns-then-kind-eq1
returns-then-kind-eq1 c =
    let z : kind_at c.args.nodes.now.records.now c.args.t ≡ 0 → ⊥ = λ e. c.if-kind-eq0.false (c.kind_of-kind.ensures
    ∙ e) in
    let o : kind_at c.args.nodes.now.records.now c.args.t ≡ 1 = sym c.kind_of-kind.ensures ∙ c.if-kind-eq1.true in
    let e = head-of-variable _ _ _ c.args.nodes.now.n c.args.nodes.now.readable c.args.t c.requires.t_lt_n o in
    let l =
    name-long c.args.nodes.now.records.now c.args.nodes.now.literals.now c.args.nodes.now.names.now
    c.args.nodes.now.n c.args.nodes.now.readable c.args.t c.requires.t_lt_n c.length_of-long.result
    c.symbol_of-k.result z c.symbol_of-k.ensures
    c.length_of-long.ensures in
    omega (arith, ap length e, l.0, l.1)

pub returns : goal.returns
returns c =
    let z : kind_at c.args.nodes.now.records.now c.args.t ≡ 0 → ⊥ = λ e. c.if-kind-eq0.false (c.kind_of-kind.ensures
    ∙ e) in
    let o : kind_at c.args.nodes.now.records.now c.args.t ≡ 1 → ⊥ = λ e. c.if-kind-eq1.false (c.kind_of-kind.ensures
    ∙ e) in
    let e = head-of-application _ _ _ c.args.nodes.now.n c.args.nodes.now.readable c.args.t c.requires.t_lt_n z o in
    let l =
    name-long c.args.nodes.now.records.now c.args.nodes.now.literals.now c.args.nodes.now.names.now
    c.args.nodes.now.n c.args.nodes.now.readable c.args.t c.requires.t_lt_n c.length_of-long.result
    c.symbol_of-k.result z c.symbol_of-k.ensures
    c.length_of-long.ensures in
    omega (arith, ap length e, l.0, l.1)
