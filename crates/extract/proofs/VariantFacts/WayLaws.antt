-- The ways that variants take: by the file, the root and the store. Assumes nothing.
use mathlib.Core.Path.{◌≡◌, refl, sym, subst, ◌∙◌}
use mathlib.Core.Bool.{true, false}
use mathlib.Core.List.{List}
use Prim.Native.Nat.{ℕ, ◌<◌}
use lib.Dec.{eqb}
use lib.ListN.{length}
use Rattle.refusal.specs.declared.Refusal.{Refusal}
use Rattle.refusal.specs.declared.Refusal.TheVariants.{BadRoot, BadStore}
use Rattle.order.proofs.OrderLaws.{cases}
use Rattle.bits.specs.Got.{Got, got, refused as fault}
use Rattle.term_rules.specs.WellFormed.{well_formed}
use Rattle.term_rules.specs.Nodes.{literal}
use Rattle.term_rules.specs.Adding.{add}
use Rattle.file_rules.specs.Table.{Table}
use Rattle.file_rules.specs.File.{table_at}
use Rattle.table_rows.proofs.LoadLaws.{accepted-of}
use Rattle.table_rows.proofs.Held.KnownLaws.{known-of-accepted}
use Rattle.table_rules.specs.Rules.Classes.{sort_of, flat_class, is_root}
use Rattle.table_rules.specs.Rules.Terms.{literal_of}
use Rattle.table_rules.specs.Rules.Facts.{Known}
use Rattle.answer_rules.specs.Variants.{
  VariantsAfter,
  Lending,
  kept_rows,
  variant_literal,
  variants_of_rows,
  variants_of,
  variants_refused,
  variants_at,
}
use Rattle.table_rules.specs.Rules.Choosing.{prices_for, run_of}
pub use Rattle.table_roots.proofs.VariantRootLaws.{at-fault, at-bad}
use Rattle.extract.proofs.VariantFacts.RootLaws.{sort-below}
use Rattle.extract.proofs.VariantFacts.OutcomeLaws.{Outcome, outcome, LiteralOutcome, literal-outcome}

module _ (file : List ℕ) (root v n : ℕ) (l : Lending) where
  module _ (t : Table) (p : ℕ) (e : table_at file ≡ got t p) where
    module _ (q : is_root t root v ≡ true) where
      pub at-unformed : well_formed l.store ≡ false → variants_at file root v n l ≡ variants_refused BadStore l
      unfolding variants_at
      at-unformed f = rw (e, q, f, variants_at)

      module _ (f : well_formed l.store ≡ true) where
        at-formed : variants_at file root v n l ≡ variants_of t root v n l
        unfolding variants_at
        at-formed = rw (e, q, f, variants_at)

        -- a base root
        pub at_literal :
            eqb (sort_of t root).kind 0 ≡ true → LiteralOutcome l (literal_of t v) (variants_at file root v n l)
        unfolding variants_of
        at_literal b =
            let d : variants_of t root v n l ≡ variant_literal l (add l.store (literal (literal_of t v))) =
            rw (b, variants_of) in
            subst (λ (a : VariantsAfter). LiteralOutcome l (literal_of t v) a) (sym (at-formed ∙ d))
            (literal-outcome l (literal_of t v))

        -- a class
        pub at-class :
            eqb (sort_of t root).kind 0 ≡ false →
            Outcome t (prices_for t root) (run_of t root).passes l (kept_rows t (prices_for t root) (flat_class t root v) n) (variants_at file root v n l)
        unfolding variants_of
        at-class b =
            let rows : List ℕ = kept_rows t (prices_for t root) (flat_class t root v) n in
            let d : variants_of t root v n l ≡ variants_of_rows t (prices_for t root) (run_of t root).passes l rows = rw (b, variants_of) in
            subst (λ (a : VariantsAfter). Outcome t (prices_for t root) (run_of t root).passes l rows a) (sym (at-formed ∙ d)) (outcome t (prices_for t root) (run_of t root).passes l rows)

  -- the first way that the file, the root and the store allow
  pub data Way : Type 0 where
    by_fault : (x : Refusal) → table_at file ≡ fault x → variants_at file root v n l ≡ variants_refused x l → Way
    by_root : variants_at file root v n l ≡ variants_refused BadRoot l → Way
    by_store : variants_at file root v n l ≡ variants_refused BadStore l → Way
    by_literal :
        (t : Table) →
        well_formed l.store ≡ true →
        LiteralOutcome l (literal_of t v) (variants_at file root v n l) →
        Way
    by_class :
        (t : Table) →
        Known t →
        root < length t.sorts →
        well_formed l.store ≡ true →
        Outcome t (prices_for t root) (run_of t root).passes l (kept_rows t (prices_for t root) (flat_class t root v) n) (variants_at file root v n l) →
        Way

  pub way : Way
  way = go (table_at file) refl
    where
      go : (g : Got Table) → table_at file ≡ g → Way
      go (fault x) e = by_fault x e (at-fault file root v n l x e)
      go (got t p) e =
          cases (is_root t root v)
          (λ q.
          cases (well_formed l.store)
          (λ f.
          cases (eqb (sort_of t root).kind 0) (λ b. by_literal t f (at_literal t p e q f b))
          (λ b.
          by_class t (known-of-accepted t (accepted-of file e)) (sort-below t root v q) f (at-class t p e q f b)))
          (λ f. by_store (at-unformed t p e q f)))
          (λ q. by_root (at-bad file root v n l t p e q))
