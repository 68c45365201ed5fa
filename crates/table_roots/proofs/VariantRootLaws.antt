-- What a root is, and what variants answer for it. Assumes nothing.
use mathlib.Core.Path.{◌≡◌, refl, ap, sym, ◌∙◌}
use mathlib.Core.Bool.{true, false}
use mathlib.Core.List.{List}
use Prim.Native.Nat.{ℕ, ◌<◌}
use lib.Dec.{eqb}
use lib.ListN.{length}
use Rattle.refusal.specs.declared.Refusal.{Refusal}
use Rattle.refusal.specs.declared.Refusal.TheVariants.{BadRoot}
use Rattle.order.proofs.OrderLaws.{cases}
use Rattle.term_rules.specs.Nodes.{literal}
use Rattle.term_rules.specs.Adding.{add}
use Rattle.bits.specs.Got.{Got, got, refused as fault}
use Rattle.file_rules.specs.Table.{Table}
use Rattle.file_rules.specs.File.{table_at}
use Rattle.table_rules.specs.Rules.Classes.{sort_of, flat_class, is_root}
use Rattle.table_rules.specs.Rules.Terms.{literal_of}
use Rattle.table_rows.specs.Rooted.{root_of}
use Rattle.table_rows.specs.Loading.{fault as as_fault, literal as as_literal, class as as_class, asked_of, asked}
use Rattle.answer_rules.specs.Variants.{
  Lending,
  kept_rows,
  variant_literal,
  variants_of_rows,
  variants_of,
  variants_refused,
  variants_at,
}
use Rattle.table_rules.specs.Rules.Choosing.{prices_for, run_of}
use Rattle.variants_root.specs.Several.{if_formed, literal_answer, class_answer}
use Rattle.table_roots.proofs.RootLaws.{differ, root-bad, root-literal, root-class, sort-below, literal-below}

-- What variants answer, by the file, the root and its kind.
module _ (file : List ℕ) (s v most : ℕ) (l : Lending) where
  pub at-fault : (x : Refusal) → table_at file ≡ fault x → variants_at file s v most l ≡ variants_refused x l
  unfolding variants_at
  at-fault x e = rw (e, variants_at)

  module _ (t : Table) (k : ℕ) (e : table_at file ≡ got t k) where
    pub at-bad : is_root t s v ≡ false → variants_at file s v most l ≡ variants_refused BadRoot l
    unfolding variants_at
    at-bad q = rw (e, q, variants_at)

    module _ (p : is_root t s v ≡ true) where
      at-root : variants_at file s v most l ≡ if_formed l (variants_of t s v most l)
      unfolding variants_at if_formed
      at-root = rw (e, p, variants_at)

      at_literal : eqb (sort_of t s).kind 0 ≡ true → variants_at file s v most l ≡ literal_answer (literal_of t v) l
      unfolding variants_of
      at_literal q =
          let d : variants_of t s v most l ≡ variant_literal l (add l.store (literal (literal_of t v))) =
          rw (q, variants_of) in
          at-root ∙ ap (if_formed l) d

      at-class :
          eqb (sort_of t s).kind 0 ≡ false →
          variants_at file s v most l ≡ class_answer t s (flat_class t s v) most l
      unfolding variants_of
      at-class q =
          let d : variants_of t s v most l ≡ variants_of_rows t (prices_for t s) (run_of t s).passes l
          (kept_rows t (prices_for t s) (flat_class t s v) most) =
          rw (q, variants_of) in
          at-root ∙ ap (if_formed l) d

-- What was asked for, where it is a literal or a class: of which table, and what variants answer.
pub record LiteralRoot (file : List ℕ) (s v i : ℕ) : Type 0 where
  pub table : Table
  pub place : ℕ
  pub is : table_at file ≡ got table place
  pub below : i < length table.literals
  pub answer : (most : ℕ) (l : Lending) → literal_answer (literal_of table i) l ≡ variants_at file s v most l

pub record ClassRoot (file : List ℕ) (s v c : ℕ) : Type 0 where
  pub table : Table
  pub place : ℕ
  pub is : table_at file ≡ got table place
  pub sort : s < length table.sorts
  pub answer : (most : ℕ) (l : Lending) → class_answer table s c most l ≡ variants_at file s v most l

module _ (file : List ℕ) (s v : ℕ) where
  pub variants-refuse :
      (x : Refusal) (most : ℕ) (l : Lending) →
      as_fault x ≡ asked (table_at file) s v →
      variants_refused x l ≡ variants_at file s v most l
  unfolding asked
  variants-refuse x most l a = go (table_at file) refl
    where
      go : (g : Got Table) → table_at file ≡ g → variants_refused x l ≡ variants_at file s v most l
      go (fault y) e =
          let q : as_fault x ≡ as_fault y = rw e at a in
          let o : x ≡ y = cc in
          rw o (sym (at-fault file s v most l y e))
      go (got t k) e =
          let q : as_fault x ≡ asked_of (root_of t s v) = rw e at a in
          cases (is_root t s v)
          (λ p.
          cases (eqb (sort_of t s).kind 0)
          (λ d. differ (let z : as_fault x ≡ as_literal v = rw (root-literal t s v p d) at q in cc))
          (λ d. differ (let z : as_fault x ≡ as_class (flat_class t s v) = rw (root-class t s v p d) at q in cc)))
          (λ p.
          let z : as_fault x ≡ as_fault BadRoot = rw (root-bad t s v p) at q in
          let o : x ≡ BadRoot = cc in
          rw o (sym (at-bad file s v most l t k e p)))

  pub literal-root : (i : ℕ) → as_literal i ≡ asked (table_at file) s v → LiteralRoot file s v i
  unfolding asked
  literal-root i a = go (table_at file) refl
    where
      go : (g : Got Table) → table_at file ≡ g → LiteralRoot file s v i
      go (fault y) e = differ (let q : as_literal i ≡ as_fault y = rw e at a in cc)
      go (got t k) e =
          let q : as_literal i ≡ asked_of (root_of t s v) = rw e at a in
          cases (is_root t s v)
          (λ p.
          cases (eqb (sort_of t s).kind 0)
          (λ d.
          let z : as_literal i ≡ as_literal v = rw (root-literal t s v p d) at q in
          let o : i ≡ v = cc in
          record {
            table = t;
            place = k;
            is = e;
            below = rw o (literal-below t s v p d);
            answer = λ most l. rw o (sym (at_literal file s v most l t k e p d));
          })
          (λ d. differ (let z : as_literal i ≡ as_class (flat_class t s v) = rw (root-class t s v p d) at q in cc)))
          (λ p. differ (let z : as_literal i ≡ as_fault BadRoot = rw (root-bad t s v p) at q in cc))

  pub class-root : (c : ℕ) → as_class c ≡ asked (table_at file) s v → ClassRoot file s v c
  unfolding asked
  class-root c a = go (table_at file) refl
    where
      go : (g : Got Table) → table_at file ≡ g → ClassRoot file s v c
      go (fault y) e = differ (let q : as_class c ≡ as_fault y = rw e at a in cc)
      go (got t k) e =
          let q : as_class c ≡ asked_of (root_of t s v) = rw e at a in
          cases (is_root t s v)
          (λ p.
          cases (eqb (sort_of t s).kind 0)
          (λ d. differ (let z : as_class c ≡ as_literal v = rw (root-literal t s v p d) at q in cc))
          (λ d.
          let z : as_class c ≡ as_class (flat_class t s v) = rw (root-class t s v p d) at q in
          let o : c ≡ flat_class t s v = cc in
          record {
            table = t;
            place = k;
            is = e;
            sort = sort-below t s v p;
            answer = λ most l. rw o (sym (at-class file s v most l t k e p d));
          }))
          (λ p. differ (let z : as_class c ≡ as_fault BadRoot = rw (root-bad t s v p) at q in cc))
