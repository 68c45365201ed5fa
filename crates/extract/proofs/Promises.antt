-- The promises of the crate `extract`, each from its law. Assumes nothing.
use mathlib.Core.Path.{◌≡◌, refl, ap, sym, ◌∙◌, subst}
use mathlib.Core.Bool.{true}
use mathlib.Core.List.{List}
use Prim.Native.Nat.{ℕ}
use Rattle.term_rules.specs.Lent.{Store}
use Rattle.term_rules.specs.WellFormed.{well_formed}
use Rattle.term_rules.specs.Nodes.{literal}
use Rattle.term_rules.specs.Adding.{add}
use Rattle.file_rules.specs.Table.{Table}
use Rattle.table_rules.specs.Rules.Classes.{flat_class}
use Rattle.table_rules.specs.Rules.Terms.{literal_of}
use Rattle.table_rules.specs.Rules.Choosing.{answer_for, prices_for, run_of}
use Rattle.answer_rules.specs.Answers.{value, After}
use Rattle.answer_rules.specs.Best.{BestTerm, best_at}
use Rattle.answer_rules.specs.Variants.{kept_rows, variants_at}
use Rattle.table_rules.proofs.Rules.CoverLaws.{ReachedClass}
use Rattle.extract.proofs.VariantFacts.OutcomeLaws.{dear-told, dear-refused}
use Rattle.extract.proofs.VariantFacts.WayLaws.{at-fault}
use Rattle.extract.proofs.VariantFacts.CallLaws.{
  variants_rest,
  variants_unchanged,
  variants-number,
  variants_not_eleven,
  bad-root-then as bad-root-told,
  bad-root-when,
  bad-store-then as bad-store-told,
  bad-store-when,
}
use Rattle.extract.proofs.VariantFacts.FirstLaws.{first_rows}
use Rattle.extract.proofs.VariantFacts.ClassLaws.{class-comes-back, class-passes as kept-passes, class-none}
use Rattle.extract.proofs.VariantFacts.ToldLaws.{
  rows-full-told,
  rows-full-refused,
  rows-room-told,
  rows-room-kept,
  literal-told,
}
use Rattle.extract.specs.Promises.{ClassRoot, BaseRoot, BaseOutcome, PassCount, Promises}
use Rattle.table_roots.proofs.RootLaws.{best-fault}
use Rattle.extract.proofs.VerdictLaws.{
  no-term-then,
  no-term-when,
  too-dear-then,
  too-dear-when,
  choice-when,
  found-then,
  room-then,
  room-when,
  no-room-then,
  no-room-when,
  number-told,
}
use Rattle.extract.proofs.WayLaws.{
  verdict,
  verdict-right,
  verdict-kept,
  class-way,
  base-way,
  base-outcome,
  class-passes,
  pass-count,
  known_of,
  bad-root-is,
  bad-root-then,
  bad-store-is,
  bad-store-then,
  refusal-unchanged,
}
use Rattle.extract.proofs.DeterminedLaws.{best-once}
use Rattle.extract.proofs.VariantDeterminedLaws.{variants-once}
use Rattle.extract.proofs.VariantWayLaws.{class-known, class-reached, class-true, class-outcome, base_kept}

told : {a b : After BestTerm} → a ≡ b → a.answer ≡ b.answer
told e = ap (λ (x : After BestTerm). x.answer) e

base :
    (file : List ℕ) (root v : ℕ) (t : Table) (s : Store) →
    BaseRoot file root v t →
    well_formed s ≡ true →
    BaseOutcome (literal_of t v) s (best_at file root v s).store (best_at file root v s).answer
base file root v t s r f =
    subst (λ (a : After BestTerm). BaseOutcome (literal_of t v) s a.store a.answer)
    (sym (base-way file root v s t r.held r f))
    (base-outcome s f (literal_of t v) (add s (literal (literal_of t v))) refl)

counted :
    (file : List ℕ) (root v : ℕ) (t : Table) (s : Store) →
    ClassRoot file root v t →
    well_formed s ≡ true →
    (b : BestTerm) →
    (best_at file root v s).answer ≡ value b →
    PassCount t root b.passes
counted file root v t s r f b e =
    let c : ℕ = flat_class t root v in
    pass-count t (known_of file root v s t r.held) root b.passes r.sort
    (class-passes t (prices_for t root) (run_of t root).passes c s (answer_for (prices_for t root) c) b (sym (told (class-way file root v s t r.held r f)) ∙ e))

pub promises : Promises
promises = record {
  no_term = λ file root v t s r f.
      let c : ℕ = flat_class t root v in
      let a = best_at file root v s in
      let w = verdict file root v s t r f in
      let x = verdict-right file root v s t r f in
      let k = verdict-kept file root v s t r f in
      (no-term-then t (prices_for t root) c s a w x k, no-term-when t (prices_for t root) c s a w x k);
  too_dear = λ file root v t s r f.
      let c : ℕ = flat_class t root v in
      let a = best_at file root v s in
      let w = verdict file root v s t r f in
      let x = verdict-right file root v s t r f in
      let k = verdict-kept file root v s t r f in
      (too-dear-then t (prices_for t root) c s a w x k, too-dear-when t (prices_for t root) c s a w x k);
  otherwise = λ file root v t s r f.
      choice-when t (prices_for t root) (flat_class t root v) s (best_at file root v s) (verdict file root v s t r f)
      (verdict-right file root v s t r f) (verdict-kept file root v s t r f);
  given_room = λ file root v t s r f.
      let c : ℕ = flat_class t root v in
      let a = best_at file root v s in
      let w = verdict file root v s t r f in
      let x = verdict-right file root v s t r f in
      let k = verdict-kept file root v s t r f in
      (λ e. room-then t (prices_for t root) c s a w k e.0 e.1, room-when t (prices_for t root) c s a w x k);
  comes_back = λ file root v t s r f.
      found-then t (prices_for t root) (flat_class t root v) s (best_at file root v s) (verdict file root v s t r f)
      (verdict-kept file root v s t r f);
  no_room = λ file root v t s r f.
      let c : ℕ = flat_class t root v in
      let a = best_at file root v s in
      let w = verdict file root v s t r f in
      let x = verdict-right file root v s t r f in
      let k = verdict-kept file root v s t r f in
      (no-room-then t (prices_for t root) c s a w k, no-room-when t (prices_for t root) c s a w x k);
  numbers = λ file root v t s r f.
      number-told t (prices_for t root) (flat_class t root v) s (best_at file root v s) (verdict file root v s t r f)
      (verdict-kept file root v s t r f);
  passes = counted;
  base_root = base;
  file_first = λ file root v s x e. best-fault file root v s x e;
  bad_root = λ file root v t s h.
      (bad-root-then file root v s t h, λ p. told (bad-root-is file root v s t h p));
  bad_store = λ file root v t s h p.
      (bad-store-then file root v s t h p, λ f. told (bad-store-is file root v s t h p f));
  unchanged = refusal-unchanged;
  one_answer = best-once;
  variants_kept = λ file root v n t l r f.
      first_rows t (class-known file root v n t l r) (ReachedClass t root) (prices_for t root)
      (class-true file root v n t l r) (flat_class t root v)
      (class-reached file root v n t l r) n;
  variants_come_back = λ file root v n t l r f.
      class-comes-back t (class-known file root v n t l r) (ReachedClass t root) (prices_for t root)
      (class-true file root v n t l r) (flat_class t root v)
      (class-reached file root v n t l r) n (run_of t root).passes l f (variants_at file root v n l) (class-outcome file root v n t l r f);
  variants_none = λ file root v n t l r f.
      class-none t (class-known file root v n t l r) (ReachedClass t root) (prices_for t root)
      (class-true file root v n t l r) (flat_class t root v)
      (class-reached file root v n t l r) n (run_of t root).passes l f (variants_at file root v n l) (class-outcome file root v n t l r f);
  variants_passes = λ file root v n t l r f k e.
      pass-count t (class-known file root v n t l r) root k.passes r.sort
      (kept-passes t (class-known file root v n t l r) (ReachedClass t root) (prices_for t root)
      (class-true file root v n t l r) (flat_class t root v)
      (class-reached file root v n t l r) n (run_of t root).passes l f (variants_at file root v n l) (class-outcome file root v n t l r f) k e);
  variants_base_root = λ file root v n t l r f.
      literal-told l (literal_of t v) f (variants_at file root v n l) (base_kept file root v n t l r f);
  variants_file_first = λ file root v n l x e. at-fault file root v n l x e;
  variants_bad_root = λ file root v n t l h.
      (bad-root-told file root v n l t h.end h.is, bad-root-when file root v n l t h.end h.is);
  variants_bad_store = λ file root v n t l h p. (
    bad-store-told file root v n l t h.end h.is p,
    bad-store-when file root v n l t h.end h.is p,
  );
  variants_too_dear = λ file root v n t l r f.
      let p = prices_for t root in
      let rows = kept_rows t p (flat_class t root v) n in
      let a = variants_at file root v n l in
      let o = class-outcome file root v n t l r f in
      (dear-told t p (run_of t root).passes l rows a o, dear-refused t p (run_of t root).passes l rows a o);
  variants_no_room = λ file root v n t l r f.
      let k = class-known file root v n t l r in
      let p = prices_for t root in
      let w = class-true file root v n t l r in
      let m = (run_of t root).passes in
      let q = class-reached file root v n t l r in
      let c : ℕ = flat_class t root v in
      let a = variants_at file root v n l in
      let o = class-outcome file root v n t l r f in (
        rows-full-told t k (ReachedClass t root) p w c q n m l f a o,
        λ x. rows-full-refused t k (ReachedClass t root) p w c q n m l f a o x.0 x.1,
      );
  variants_given_room = λ file root v n t l r f.
      let k = class-known file root v n t l r in
      let p = prices_for t root in
      let w = class-true file root v n t l r in
      let m = (run_of t root).passes in
      let q = class-reached file root v n t l r in
      let c : ℕ = flat_class t root v in
      let a = variants_at file root v n l in
      let o = class-outcome file root v n t l r f in (
        λ x. rows-room-told t k (ReachedClass t root) p w c q n m l f a o x.0 x.1,
        rows-room-kept t k (ReachedClass t root) p w c q n m l f a o,
      );
  variants_numbers = λ file root v n l. variants-number l file root v n;
  variants_not_eleven = λ file root v n l. variants_not_eleven l file root v n;
  variants_unchanged = λ file root v n l. variants_unchanged l file root v n;
  variants_rest = λ file root v n l. variants_rest l file root v n;
  variants_one_answer = variants-once;
}
