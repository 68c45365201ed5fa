-- From the flat call's answer to the answer on lent lists. Assumes nothing.
use Rattle.std.proofs.Common.{ℕ, ◌≡◌, List, ◌++◌, length, take, drop, refl, sym, ap, ◌∙◌, Result, Ok, Err}
use Rattle.std.specs.Prelude.{ℤ}
use Rattle.refusal.specs.declared.Refusal.{Refusal}
use Rattle.lent_entries.specs.Entries.{entries_after}
use Rattle.term_rules.specs.declared.Term.{Term}
use Rattle.term_rules.specs.Lent.{Store, store}
use Rattle.term_add.specs.declared.Added.{Added}
use Rattle.lent.specs.declared.copied.StoreCopy.{StoreCopy}
use Rattle.lent.specs.Records.{lent_store, records_in}
use Rattle.lent.specs.Copies.{CopyOf}
use Rattle.lent.proofs.LeftLaws.{Faithful, Left, left, left-names, kept-names}
use Rattle.term.specs.Answers.{Answer, refused, refuse, seen_added}
use Rattle.lent_terms.specs.Lists.{LentAdded}

-- the lists that a call left are those of the store that is seen
added-faithful : (r : Result Added Refusal) (n m : ℕ) → Faithful (Answer ℕ × Store) (λ a. a.1) (λ rs ls bs. seen_added r
    rs ls bs n m)
added-faithful (Ok a) n m =
    record { records = λ rs ls bs. refl; literals = λ rs ls bs. refl; names = λ rs ls bs. refl }
added-faithful (Err r) n m =
    record { records = λ rs ls bs. refl; literals = λ rs ls bs. refl; names = λ rs ls bs. refl }

lent-left :
    (ts ts' : List Term) (ns ns' : List (List ℕ)) (n m : ℕ) (wanted : Answer ℕ × Store) (r : Result Added Refusal) →
    Left (Answer ℕ × Store) (λ a. a.1) ts ns n m wanted (λ rs ls bs. seen_added r rs ls bs n m) ts' ns' →
    LentAdded ts ns n m wanted r ts' ns'
lent-left ts ts' ns ns' n m wanted r l =
    record { answer = l.answer; records = l.records; entries = l.entries; held = l.held; unchanged = l.unchanged }

module _ (ts ts' : List Term) (ns : List (List ℕ)) (c : StoreCopy) (n m : ℕ) (model : Store → Answer ℕ × Store)
    (r : Result Added Refusal) (rs : List ℕ) (ls : List ℤ) (k : CopyOf ts ns c)
    (long : length rs ≡ length (take c.numbers c.flat.records))
    (wide : length ls ≡ length (take c.flat.room c.flat.literals))
    (back : ts' ≡ records_in (rs ++ drop c.numbers c.flat.records) (ls ++ drop c.flat.room c.flat.literals) c.flat.room
    ++ drop c.flat.room ts) where
  abbrev copied : Store
  copied = store (take c.numbers c.flat.records) (take c.flat.room c.flat.literals) (take c.bytes c.names) n m

  -- a call that leaves the names as they are
  pub added-same-names : seen_added r rs ls (take c.bytes c.names) n m ≡ model copied → LentAdded ts ns n m (model
      (lent_store ts ns n m)) r ts' ns
  added-same-names answer =
      lent-left ts ts' ns ns n m (model (lent_store ts ns n m)) r
      (left (Answer ℕ × Store) (λ a. a.1) (λ rs ls bs. seen_added r rs ls bs n m) (added-faithful r n m) ts ts' ns ns c n m
      model rs ls (take c.bytes c.names) k long wide refl answer back (kept-names ts ns c k))

  -- a call that leaves the bytes bs in front of the rest of its own
  pub added-names :
      (bs : List ℕ) (ns' : List (List ℕ)) → length bs ≡ length (take c.bytes c.names) →
      ns' ≡ entries_after ns (bs ++ drop c.bytes c.names) → seen_added r rs ls bs n m ≡ model copied →
      LentAdded ts ns n m (model (lent_store ts ns n m)) r ts' ns'
  added-names bs ns' size after answer =
      lent-left ts ts' ns ns' n m (model (lent_store ts ns n m)) r
      (left-names (Answer ℕ × Store) (λ a. a.1) (λ rs ls bs. seen_added r rs ls bs n m) (added-faithful r n m) ts ts' ns
      ns' c n m model rs ls bs k long wide size answer back after)

-- an answer that tells the term, with the counts of the store that it left: on a refusal they are as they were
told-err :
    (model : Store → Answer ℕ × Store) (s : Store) → ((k : ℕ) → (model s).0 ≡ refused k → (model s).1 ≡ s) →
    (x : Refusal) (t : Store) → (refuse x, t) ≡ model s → (refuse x, store t.records t.literals t.names s.terms s.symbols) ≡ model s
told-err model s kept x t e =
    let d : t ≡ s = ap (λ (p : Answer ℕ × Store). p.1) e ∙ kept _ (ap (λ (p : Answer ℕ × Store). p.0) (sym e)) in
    ap (λ (u : Store). (refuse x, store t.records t.literals t.names u.terms u.symbols)) (sym d) ∙ e

-- from what a call that adds has told, with its counts told too
pub told-refused :
    (model : Store → Answer ℕ × Store) (s : Store) → ((k : ℕ) → (model s).0 ≡ refused k → (model s).1 ≡ s) →
    (r : Result Added Refusal) (x : Refusal) (t : Store) → r ≡ Err x → (refuse x, t) ≡ model s →
    seen_added r t.records t.literals t.names s.terms s.symbols ≡ model s
told-refused model s kept r x t d e = rw d (told-err model s kept x t e)
