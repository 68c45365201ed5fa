-- What a root is, and what best answers for it. Assumes nothing.
use mathlib.Core.Path.{◌≡◌, refl, ap, sym, ◌∙◌, subst}
use mathlib.Core.Bool.{true, false}
use mathlib.Core.List.{List}
use Prim.Native.Nat.{ℕ, ◌<◌}
use native.Mathlib.Omega.{arith}
use borrow.Author.Tests.{ltb-true, lt-ltb, eqb-false}
use lib.Dec.{eqb, ltb}
use lib.ListN.{length}
use Rattle.refusal.specs.declared.Refusal.{Refusal}
use Rattle.refusal.specs.declared.Refusal.TheVariants.{BadRoot}
use Rattle.order.proofs.OrderLaws.{cases}
use Rattle.term_rules.specs.Lent.{Store}
use Rattle.term_rules.specs.Nodes.{literal}
use Rattle.term_rules.specs.Adding.{add}
use Rattle.term_rules.proofs.TestLaws.{and_first, and_second}
use Rattle.bits.specs.Got.{Got, got, refused as fault}
use Rattle.file_rules.specs.Table.{Table}
use Rattle.file_rules.specs.File.{table_at}
use Rattle.table_rules.specs.Rules.Classes.{sort_of, class_count, flat_class, range_of, is_root}
use Rattle.table_rules.specs.Rules.Terms.{literal_of}
use Rattle.table_rules.proofs.Rules.ClassLaws.{flat_class-below}
use Rattle.table_rules.proofs.Rules.CoverLaws.{range_of-eq}
use Rattle.table_rows.specs.Rooted.{root_of}
use Rattle.table_rows.specs.declared.prepare.Root.TheVariants.{Class as RootClass, Literal as RootLiteral}
use Rattle.std.specs.Prelude.{Some, None}
use Rattle.table_rows.specs.Loading.{fault as as_fault, literal as as_literal, class as as_class, asked_of, asked}
use Rattle.answer_rules.specs.Answers.{refused}
use Rattle.table_rules.specs.Rules.Choosing.{answer_for, prices_for, run_of}
use Rattle.answer_rules.specs.Best.{best_literal, best_class, best_of, best_at}
use Rattle.best_root.specs.Single.{if_formed, literal_answer, class_answer}

pub differ : {P : Type 0} → ◌≡◌ {A = ℕ} 0 1 → P
differ z = absurd (omega arith)

-- A root out of range, a literal, a class.
module _ (t : Table) (s v : ℕ) where
  pub root-bad : is_root t s v ≡ false → root_of t s v ≡ None
  unfolding root_of
  root-bad p = rw (p, root_of)

  pub root-literal : is_root t s v ≡ true → eqb (sort_of t s).kind 0 ≡ true → root_of t s v ≡ Some (RootLiteral v)
  unfolding root_of
  root-literal p q = rw (p, q, root_of)

  pub root-class : is_root t s v ≡ true → eqb (sort_of t s).kind 0 ≡ false → root_of t s v ≡ Some (RootClass (flat_class t s v))
  unfolding root_of
  root-class p q = rw (p, q, root_of)

  pub sort-below : is_root t s v ≡ true → s < length t.sorts
  unfolding is_root
  sort-below p = ltb-true s (length t.sorts) (and_first (ltb s (length t.sorts)) (ltb v (range_of t s)) p)

  value-below : is_root t s v ≡ true → v < range_of t s
  unfolding is_root
  value-below p = ltb-true v (range_of t s) (and_second (ltb s (length t.sorts)) (ltb v (range_of t s)) p)

  pub literal-below : is_root t s v ≡ true → eqb (sort_of t s).kind 0 ≡ true → v < length t.literals
  unfolding range_of
  literal-below p q = rw (q, range_of) at (value-below p)

  pub value-in-sort : is_root t s v ≡ true → eqb (sort_of t s).kind 0 ≡ false → v < (sort_of t s).classes
  value-in-sort p q =
      subst (λ (n : ℕ). v < n) (range_of-eq t s (eqb-false (sort_of t s).kind 0 q)) (value-below p)

  class-below : is_root t s v ≡ true → eqb (sort_of t s).kind 0 ≡ false → flat_class t s v < class_count t
  class-below p q = flat_class-below t s v (sort-below p) (value-in-sort p q)

  -- A sort of the table and a value in its range are a root.
  pub root_in : s < length t.sorts → v < range_of t s → is_root t s v ≡ true
  unfolding is_root
  root_in h l = rw (lt-ltb s (length t.sorts) h, lt-ltb v (range_of t s) l)

-- What best answers, by the file, the root and its kind.
module _ (file : List ℕ) (s v : ℕ) (lent : Store) where
  pub best-fault : (x : Refusal) → table_at file ≡ fault x → best_at file s v lent ≡ refused x lent
  unfolding best_at
  best-fault x e = rw (e, best_at)

  module _ (t : Table) (k : ℕ) (e : table_at file ≡ got t k) where
    pub best-bad : is_root t s v ≡ false → best_at file s v lent ≡ refused BadRoot lent
    unfolding best_at
    best-bad p = rw (e, p, best_at)

    module _ (p : is_root t s v ≡ true) where
      pub best-rooted : best_at file s v lent ≡ if_formed lent (best_of t s v lent)
      unfolding best_at if_formed
      best-rooted = rw (e, p, best_at)

      pub best-literal : eqb (sort_of t s).kind 0 ≡ true → best_at file s v lent ≡ literal_answer (literal_of t v) lent
      unfolding best_of
      best-literal q =
          let d : best_of t s v lent ≡ best_literal lent (add lent (literal (literal_of t v))) = rw (q, best_of) in
          best-rooted ∙ ap (if_formed lent) d

      pub best-class :
          eqb (sort_of t s).kind 0 ≡ false → best_at file s v lent ≡ class_answer t s (flat_class t s v) lent
      unfolding best_of
      best-class q =
          let c : ℕ = flat_class t s v in
          let d : best_of t s v lent ≡ best_class t (prices_for t s) (run_of t s).passes c lent (answer_for (prices_for t s) c) = rw (q, best_of) in
          best-rooted ∙ ap (if_formed lent) d

-- What was asked for, where it is a literal or a class: of which table, and what best answers.
pub record LiteralRoot (file : List ℕ) (s v i : ℕ) : Type 0 where
  pub table : Table
  pub place : ℕ
  pub is : table_at file ≡ got table place
  pub below : i < length table.literals
  pub answer : (lent : Store) → literal_answer (literal_of table i) lent ≡ best_at file s v lent

pub record ClassRoot (file : List ℕ) (s v c : ℕ) : Type 0 where
  pub table : Table
  pub place : ℕ
  pub is : table_at file ≡ got table place
  pub sort : s < length table.sorts
  pub below : c < class_count table
  pub answer : (lent : Store) → class_answer table s c lent ≡ best_at file s v lent

module _ (file : List ℕ) (s v : ℕ) where
  pub best-refuses :
      (x : Refusal) (lent : Store) → as_fault x ≡ asked (table_at file) s v → refused x lent ≡ best_at file s v lent
  unfolding asked
  best-refuses x lent a = go (table_at file) refl
    where
      go : (g : Got Table) → table_at file ≡ g → refused x lent ≡ best_at file s v lent
      go (fault y) e =
          let q : as_fault x ≡ as_fault y = rw e at a in
          let o : x ≡ y = cc in
          rw o (sym (best-fault file s v lent y e))
      go (got t k) e =
          let q : as_fault x ≡ asked_of (root_of t s v) = rw e at a in
          cases (is_root t s v)
          (λ p.
          cases (eqb (sort_of t s).kind 0)
          (λ d. differ (let z : as_fault x ≡ as_literal v = rw (root-literal t s v p d) at q in cc))
          (λ d. differ (let z : as_fault x ≡ as_class (flat_class t s v) = rw (root-class t s v p d) at q in cc)))
          (λ p.
          let z : as_fault x ≡ as_fault BadRoot = rw (root-bad t s v p) at q in
          let o : x ≡ BadRoot = cc in
          rw o (sym (best-bad file s v lent t k e p)))

  pub literal-root : (i : ℕ) → as_literal i ≡ asked (table_at file) s v → LiteralRoot file s v i
  unfolding asked
  literal-root i a = go (table_at file) refl
    where
      go : (g : Got Table) → table_at file ≡ g → LiteralRoot file s v i
      go (fault y) e = differ (let q : as_literal i ≡ as_fault y = rw e at a in cc)
      go (got t k) e =
          let q : as_literal i ≡ asked_of (root_of t s v) = rw e at a in
          cases (is_root t s v)
          (λ p.
          cases (eqb (sort_of t s).kind 0)
          (λ d.
          let z : as_literal i ≡ as_literal v = rw (root-literal t s v p d) at q in
          let o : i ≡ v = cc in
          record {
            table = t;
            place = k;
            is = e;
            below = rw o (literal-below t s v p d);
            answer = λ lent. rw o (sym (best-literal file s v lent t k e p d));
          })
          (λ d. differ (let z : as_literal i ≡ as_class (flat_class t s v) = rw (root-class t s v p d) at q in cc)))
          (λ p. differ (let z : as_literal i ≡ as_fault BadRoot = rw (root-bad t s v p) at q in cc))

  pub class-root : (c : ℕ) → as_class c ≡ asked (table_at file) s v → ClassRoot file s v c
  unfolding asked
  class-root c a = go (table_at file) refl
    where
      go : (g : Got Table) → table_at file ≡ g → ClassRoot file s v c
      go (fault y) e = differ (let q : as_class c ≡ as_fault y = rw e at a in cc)
      go (got t k) e =
          let q : as_class c ≡ asked_of (root_of t s v) = rw e at a in
          cases (is_root t s v)
          (λ p.
          cases (eqb (sort_of t s).kind 0)
          (λ d. differ (let z : as_class c ≡ as_literal v = rw (root-literal t s v p d) at q in cc))
          (λ d.
          let z : as_class c ≡ as_class (flat_class t s v) = rw (root-class t s v p d) at q in
          let o : c ≡ flat_class t s v = cc in
          record {
            table = t;
            place = k;
            is = e;
            sort = sort-below t s v p;
            below = rw o (class-below t s v p d);
            answer = λ lent. rw o (sym (best-class file s v lent t k e p d));
          }))
          (λ p. differ (let z : as_class c ≡ as_fault BadRoot = rw (root-bad t s v p) at q in cc))
