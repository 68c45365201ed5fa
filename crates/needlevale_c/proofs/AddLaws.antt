-- What the promises of the store's calls on term structs rest on. Assumes nothing.
use mathlib.Core.Path.{◌≡◌, refl, sym, ap, ◌∙◌}
use mathlib.Core.List.{List}
use Prim.Native.Nat.{ℕ}
use Rattle.refusal.specs.declared.Refusal.{Refusal}
use Rattle.term_rules.specs.declared.Term.{Term}
use Rattle.term_rules.specs.Lent.{Store}
use Rattle.term.specs.Answers.{Answer, given, refused}
use Rattle.lent.specs.Records.{lent_store}
use Rattle.c_told.specs.Below.{below_zero}
use Rattle.c_told.specs.Terms.{added_with}
use Rattle.needlevale_c.specs.Terms.{AddedLeft}
use Rattle.needlevale_c.specs.Structs.{AddedStays}
use Rattle.c_told.specs.declared.terms.Adding.{Adding}
use Rattle.needlevale_c.proofs.CodeLaws.{is_below}

added-refusal :
    (a : Answer ℕ) (n m : ℕ) (r : Refusal) → (added_with a n m).status ≡ below_zero r → (k : ℕ) × (a ≡ refused k)
added-refusal (given i) n m r e = absurd (is_below r 0 (sym e))
added-refusal (refused k) n m r e = (k, refl)

added-counts : (a : Answer ℕ) (n m : ℕ) → ((added_with a n m).terms ≡ n) × ((added_with a n m).symbols ≡ m)
added-counts (given i) n m = (refl, refl)
added-counts (refused k) n m = (refl, refl)

lent-counts :
    (ts : List Term) (ns : List (List ℕ)) (n m : ℕ) →
    ((lent_store ts ns n m).terms ≡ n) × ((lent_store ts ns n m).symbols ≡ m)
unfolding lent_store
lent-counts ts ns n m = (refl, refl)

-- of a call that leaves the store where it refuses
pub added-stays :
    (ts ts' : List Term) (ns ns' : List (List ℕ)) (n m : ℕ) (wanted : Answer ℕ × Store) (z : Adding) →
    ((k : ℕ) → wanted.0 ≡ refused k → wanted.1 ≡ lent_store ts ns n m) →
    AddedLeft ts ns n m wanted z ts' ns' →
    AddedStays ts ns n m z ts' ns'
added-stays ts ts' ns ns' n m wanted z stays h r e =
    let k = added-refusal wanted.0 wanted.1.terms wanted.1.symbols r
    (sym (ap (λ (x : Adding). x.status) h.numbers) ∙ e) in
    let same = stays k.0 k.1 in
    let c = added-counts wanted.0 wanted.1.terms wanted.1.symbols in
    let l = lent-counts ts ns n m in
    let u = h.lists.unchanged same in (
      u.0,
      u.1,
      ap (λ (x : Adding). x.terms) h.numbers ∙ c.0 ∙ ap (λ (x : Store). x.terms) same ∙ l.0,
      ap (λ (x : Adding). x.symbols) h.numbers ∙ c.1 ∙ ap (λ (x : Store). x.symbols) same ∙ l.1,
    )
