-- The laws of a term as it is read from the lent lists. Assumes nothing.
use mathlib.Core.Path.{◌≡◌, sym, ap, ◌∙◌}
use mathlib.Core.List.{List, [], ◌∷◌}
use Prim.{Dec, yes, no}
use Prim.Native.Nat.{ℕ, ◌<◌}
use native.Mathlib.Omega.{arith}
use native.Mathlib.Decide.{ℕ_discrete}
use lib.ListN.{length, get_or, take}
use lib.IntN.{ℤ, pos}
use borrow.Author.Tests.{eq-eqb, ne_eqb}
use Rattle.decimal.specs.Decimal.{literal_text}
use Rattle.name.specs.Entries.{name_at, length_at}
use Rattle.name.proofs.PutLaws.{name_at-length}
use Rattle.term_rules.specs.Lent.{by_kind, kind_at, symbol_no, arity_at, places_at, kids_at, record_in}
use Rattle.term_rules.specs.Nodes.{literal, variable, application, node_of, node_at}
use Rattle.text_rules.specs.Forms.{children}
use Rattle.text_pieces.specs.Readable.{nodes, head_text, Readable}

by_kind-0 : {A : Type 0} (k : ℕ) (l v a o : A) → k ≡ 0 → by_kind k l v a o ≡ l
unfolding by_kind
by_kind-0 k l v a o e = rw (eq-eqb k 0 e, by_kind)

by_kind-1 : {A : Type 0} (k : ℕ) (l v a o : A) → k ≡ 1 → by_kind k l v a o ≡ v
unfolding by_kind
by_kind-1 k l v a o e = rw (ne_eqb k 0 (λ (z : k ≡ 0). omega arith), eq-eqb k 1 e, by_kind)

by_kind-2 : {A : Type 0} (k : ℕ) (l v a o : A) → k ≡ 2 → by_kind k l v a o ≡ a
unfolding by_kind
by_kind-2 k l v a o e =
    rw (ne_eqb k 0 (λ (z : k ≡ 0). omega arith), ne_eqb k 1 (λ (z : k ≡ 1). omega arith), eq-eqb k 2 e, by_kind)

module _ (rs : List ℕ) (ls : List ℤ) (ns : List ℕ) (t : ℕ) where
  pub node-literal : kind_at rs t ≡ 0 → nodes rs ls ns t ≡ literal (get_or ls t (pos 0))
  unfolding node_at node_of record_in
  node-literal e = by_kind-0 (kind_at rs t) _ _ _ _ e

  pub node-variable : kind_at rs t ≡ 1 → nodes rs ls ns t ≡ variable (name_at ns (symbol_no rs t))
  unfolding node_at node_of record_in
  node-variable e = by_kind-1 (kind_at rs t) _ _ _ _ e

  pub node-application :
      kind_at rs t ≡ 2 → nodes rs ls ns t ≡ application (name_at ns (symbol_no rs t)) (kids_at rs t)
  unfolding node_at node_of record_in
  node-application e = by_kind-2 (kind_at rs t) _ _ _ _ e

take_none : {A : Type 0} (n : ℕ) (l : List A) → n ≡ 0 → take n l ≡ []
take_none n l e = rw e

module _ (rs : List ℕ) (ls : List ℤ) (ns : List ℕ) (n : ℕ) (r : Readable rs ls ns n) (t : ℕ) (k : t < n) where
  -- the children of a term are the part of the records that its count gives
  pub children-of-nodes : children (nodes rs ls ns t) ≡ kids_at rs t
  children-of-nodes = by (ℕ_discrete (kind_at rs t) 0) (ℕ_discrete (kind_at rs t) 1)
    where
      none : kind_at rs t < 2 → [] ≡ kids_at rs t
      none l = sym (take_none (arity_at rs t) (places_at rs t) (r.leaf t k l))

      by : Dec (kind_at rs t ≡ 0) → Dec (kind_at rs t ≡ 1) → children (nodes rs ls ns t) ≡ kids_at rs t
      by (yes e) d = ap children (node-literal rs ls ns t e) ∙ none (omega arith)
      by (no z) (yes e) = ap children (node-variable rs ls ns t e) ∙ none (omega arith)
      by (no z) (no o) = ap children (node-application rs ls ns t (omega (arith, r.kind t k)))

  -- the head, by the kind
  pub head-of-literal : kind_at rs t ≡ 0 → head_text (nodes rs ls ns t) ≡ literal_text (get_or ls t (pos 0))
  head-of-literal e = ap head_text (node-literal rs ls ns t e)

  pub head-of-variable : kind_at rs t ≡ 1 → head_text (nodes rs ls ns t) ≡ name_at ns (symbol_no rs t)
  head-of-variable e = ap head_text (node-variable rs ls ns t e)

  pub head-of-application :
      (kind_at rs t ≡ 0 → ⊥) → (kind_at rs t ≡ 1 → ⊥) → head_text (nodes rs ls ns t) ≡ 40 ∷ name_at ns (symbol_no rs t)
  head-of-application z o =
      ap head_text (node-application rs ls ns t (omega (arith, r.kind t k)))

  pub name-length : (kind_at rs t ≡ 0 → ⊥) → length (name_at ns (symbol_no rs t)) ≡ length_at ns (symbol_no rs t)
  name-length z = name_at-length ns (symbol_no rs t) (r.name t k (omega arith))
