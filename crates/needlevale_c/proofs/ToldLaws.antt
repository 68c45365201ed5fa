-- What the promises of the calls on term structs rest on. Assumes nothing.
use mathlib.Core.Path.{◌≡◌, refl, sym, ap, ◌∙◌}
use mathlib.Core.List.{List}
use mathlib.Core.Logic.{◌⊎◌, inl, inr}
use Prim.Native.Nat.{ℕ}
use lib.IntN.{ℤ, pos, neg_ℤ}
use lib.ListN.{length}
use Rattle.refusal.specs.declared.Refusal.{Refusal}
use Rattle.refusal.specs.Answer.{Answer, value, refusal, refuse}
use Rattle.term_rules.specs.declared.Term.{Term}
use Rattle.term_rules.specs.Lent.{Store}
use Rattle.text_rules.specs.LetText.{Naming}
use Rattle.text.specs.Told.{plain_told}
use Rattle.text.specs.LetTold.{let_told}
use Rattle.lent.specs.Records.{lent_store}
use Rattle.answer_rules.specs.Answers.{After}
use Rattle.answer_rules.specs.Best.{BestTerm, best_at}
use Rattle.answer_rules.specs.Variants.{Kept, VariantsAfter, Lending, variants_at}
use Rattle.variant_answers.specs.Kept.{lending}
use Rattle.program_rules.proofs.Replies.KnownLaws.{Known, best-known, variants-known}
use Rattle.extract.proofs.Promises.{promises as flat}
use Rattle.c_told.specs.Below.{below_zero}
use Rattle.c_told.specs.Texts.{coded_text, let_coded}
use Rattle.needlevale_c.specs.Texts.{Writes, WritesLets}
use Rattle.c_told.specs.Choices.{best_with, variants_with}
use Rattle.needlevale_c.specs.Choices.{BestLeft, VariantsLeft}
use Rattle.c_told.specs.declared.texts.LetLength.{LetLength}
use Rattle.c_told.specs.declared.choices.Best.{Best}
use Rattle.c_told.specs.declared.choices.Variants.{Variants}
use Rattle.needlevale_c.specs.Structs.{PlainTold, LetsTold, BestTold, VariantsTold, BestStays, VariantsStay}
use Rattle.needlevale_c.proofs.CodeLaws.{is_below}
use Rattle.needlevale_c.proofs.texts.TextLaws.{PlainKnown, plain_known, LetKnown, let-known}

-- ---- texts
pub plain-told :
    (s : Store) (t : ℕ) (out after : List ℕ) (z : ℤ) → Writes (plain_told s t out) z after →
    PlainTold (plain_told s t out) (length out) z
plain-told s t out after z w = by (plain_known s t out)
  where
    by :
        PlainKnown (plain_told s t out).answer (length out) → PlainTold (plain_told s t out) (length out) z
    by (inl k) = inl (k.0, (w.number ∙ ap coded_text k.1.1, (k.1.0, k.1.1)))
    by (inr k) = inr (k.0, (w.number ∙ ap coded_text k.1, k.1))

pub lets_told :
    (s : Store) (nm : Naming) (t : ℕ) (out after : List ℕ) (z : LetLength) →
    WritesLets (let_told s nm t out) z after →
    LetsTold (let_told s nm t out) (length out) z
lets_told s nm t out after z w = by (let-known s nm t out)
  where
    by :
        LetKnown (let_told s nm t out).answer (length out) → LetsTold (let_told s nm t out) (length out) z
    by (inl k) = inl (k.0, (k.1.1.0, (w.numbers ∙ ap let_coded k.1.1.1, (k.1.0, k.1.1.1))))
    by (inr k) =
        inr (k.0, (ap (λ (x : LetLength). x.length) (w.numbers ∙ ap let_coded k.1), k.1))

-- ---- best
best-by :
    (a : Answer BestTerm) (n m : ℕ) (b : Best) →
    Known a →
    b ≡ best_with a n m →
    ((t : BestTerm) × ((b ≡ best_with (value t) n m) × (a ≡ value t)))
    ⊎ ((r : Refusal) × ((b.status ≡ below_zero r) × (a ≡ refuse r)))
best-by (value t) n m b h e = inl (t, (e, refl))
best-by (refusal k) n m b h e =
    inr (
      h.0,
      (
        ap (λ (x : Best). x.status) e ∙ ap (λ (x : ℕ). neg_ℤ (pos x)) h.1,
        ap refusal h.1,
      ),
    )

-- the answer of a refusal's status is a refusal
best-refusal :
    (a : Answer BestTerm) (n m : ℕ) (r : Refusal) → (best_with a n m).status ≡ below_zero r → (k : ℕ) × (a ≡ refusal k)
best-refusal (value t) n m r e = absurd (is_below r 0 (sym e))
best-refusal (refusal k) n m r e = (k, refl)

counts_of : (a : Answer BestTerm) (n m : ℕ) → ((best_with a n m).terms ≡ n) × ((best_with a n m).symbols ≡ m)
counts_of (value t) n m = (refl, refl)
counts_of (refusal k) n m = (refl, refl)

lent-counts :
    (ts : List Term) (ns : List (List ℕ)) (n m : ℕ) →
    ((lent_store ts ns n m).terms ≡ n) × ((lent_store ts ns n m).symbols ≡ m)
unfolding lent_store
lent-counts ts ns n m = (refl, refl)

module _ (file : List ℕ) (root v : ℕ) (ts ts' : List Term) (ns ns' : List (List ℕ)) (n m : ℕ) (b : Best) where
  abbrev wanted : After BestTerm
  wanted = best_at file root v (lent_store ts ns n m)

  pub best_told : BestLeft ts ns n m wanted b ts' ns' → BestTold wanted b
  best_told h =
      best-by wanted.answer wanted.store.terms wanted.store.symbols b
      (best-known (lent_store ts ns n m) file root v) h.numbers

  pub best_stays : BestLeft ts ns n m wanted b ts' ns' → BestStays ts ns n m b ts' ns'
  best_stays h r e =
      let k = best-refusal wanted.answer wanted.store.terms wanted.store.symbols r
      (sym (ap (λ (x : Best). x.status) h.numbers) ∙ e) in
      let same = flat.unchanged file root v (lent_store ts ns n m) k.0 k.1 in
      let c = counts_of wanted.answer wanted.store.terms wanted.store.symbols in
      let l = lent-counts ts ns n m in
      let u = h.lists.unchanged same in (
        u.0,
        u.1,
        ap (λ (x : Best). x.terms) h.numbers ∙ c.0 ∙ ap (λ (x : Store). x.terms) same ∙ l.0,
        ap (λ (x : Best). x.symbols) h.numbers ∙ c.1 ∙ ap (λ (x : Store). x.symbols) same ∙ l.1,
      )

-- ---- variants
variants-by :
    (a : Answer Kept) (n m : ℕ) (b : Variants) →
    Known a →
    b ≡ variants_with a n m →
    ((t : Kept) × ((b ≡ variants_with (value t) n m) × (a ≡ value t)))
    ⊎ ((r : Refusal) × ((b.status ≡ below_zero r) × (a ≡ refuse r)))
variants-by (value t) n m b h e = inl (t, (e, refl))
variants-by (refusal k) n m b h e =
    inr (
      h.0,
      (
        ap (λ (x : Variants). x.status) e ∙ ap (λ (x : ℕ). neg_ℤ (pos x)) h.1,
        ap refusal h.1,
      ),
    )

variants-refusal :
    (a : Answer Kept) (n m : ℕ) (r : Refusal) → (variants_with a n m).status ≡ below_zero r → (k : ℕ) × (a ≡ refusal k)
variants-refusal (value t) n m r e = absurd (is_below r 0 (sym e))
variants-refusal (refusal k) n m r e = (k, refl)

variant_counts : (a : Answer Kept) (n m : ℕ) → ((variants_with a n m).terms ≡ n) × ((variants_with a n m).symbols ≡ m)
variant_counts (value t) n m = (refl, refl)
variant_counts (refusal k) n m = (refl, refl)

module _ (file : List ℕ) (root v most : ℕ) (ts ts' : List Term) (ns ns' : List (List ℕ)) (n m : ℕ)
    (costs found ws us : List ℕ) (b : Variants) where
  abbrev lent : Lending
  lent = lending (lent_store ts ns n m) costs found

  abbrev asked : VariantsAfter
  asked = variants_at file root v most lent

  pub variants_told : VariantsLeft ts ns n m asked b ts' ns' ws us → VariantsTold asked b
  variants_told h =
      variants-by asked.answer asked.store.terms asked.store.symbols b (variants-known lent file root v most)
      h.numbers

  pub variants_stay : VariantsLeft ts ns n m asked b ts' ns' ws us → VariantsStay ts ns n m costs found b ts' ns' ws us
  variants_stay h r e =
      let k = variants-refusal asked.answer asked.store.terms asked.store.symbols r
      (sym (ap (λ (x : Variants). x.status) h.numbers) ∙ e) in
      let same = flat.variants_unchanged file root v most lent k.0 k.1 in
      let c = variant_counts asked.answer asked.store.terms asked.store.symbols in
      let l = lent-counts ts ns n m in
      let u = h.lists.unchanged same.store_is in (
        u.0,
        u.1,
        ap (λ (x : Variants). x.terms) h.numbers ∙ c.0 ∙ ap (λ (x : Store). x.terms) same.store_is ∙ l.0,
        ap (λ (x : Variants). x.symbols) h.numbers ∙ c.1 ∙ ap (λ (x : Store). x.symbols) same.store_is ∙ l.1,
        h.costs_are ∙ same.costs_are,
        h.terms_are ∙ same.terms_are,
      )
