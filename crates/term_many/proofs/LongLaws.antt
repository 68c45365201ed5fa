-- What each add keeps: the lists of the store are as long as they were. Assumes nothing.
use Prim.Native.Nat.{ℕ}
use mathlib.Core.Path.{◌≡◌, refl, sym, ap, subst, ◌∙◌}
use mathlib.Core.List.{List}
use borrow.Author.Tests.{eqb-true, eqb-false}
use lib.Dec.{eqb}
use lib.ListN.{length}
use Rattle.term_rules.specs.Lent.{Store}
use Rattle.term_rules.specs.Nodes.{Node, literal, variable, application}
use Rattle.term_rules.proofs.TestLaws.{cases}
use Rattle.term.specs.Answers.{given}
use Rattle.term.specs.Outcomes.{NameAfter, NamesAfter, Gives, old, new}
use Rattle.term.proofs.DeterminedLaws.{given-refused}
use Rattle.term.proofs.Promises.{promises}
use Rattle.term_one.specs.Wanted.{Asked, node, fault, settled}
use Rattle.term_one.specs.One.{single, add_one}
use Rattle.term_many.specs.Made.{Long}

pub long-refl : (s : Store) → Long s s
long-refl s = record { records = refl; literals = refl; names = refl }

pub long-trans : {s t u : Store} → Long s t → Long t u → Long s u
long-trans a b = record {
  records = b.records ∙ a.records;
  literals = b.literals ∙ a.literals;
  names = b.names ∙ a.names;
}

module _ (s t : Store) where
  -- whether the name was known or not
  names-after : (n : List ℕ) → NameAfter s n t → length t.names ≡ length s.names
  names-after n h =
      cases (eqb (length t.names) (length s.names)) (eqb-true (length t.names) (length s.names))
      (λ b.
      let other = eqb-false (length t.names) (length s.names) b in
      (h.1 (λ k. other (ap length (h.0 k).names))).names.long)

  names-long : (a : Node) → NamesAfter s a t → length t.names ≡ length s.names
  names-long (literal z) h = ap length h.names
  names-long (variable n) h = names-after n h
  names-long (application n ks) h = names-after n h

  gives-long : (a : Node) (i : ℕ) → Gives s a i t → Long s t
  gives-long a i (old h e) = subst (Long s) (sym e) (long-refl s)
  gives-long a i (new h e d) =
      record { records = d.records.long; literals = d.literals.long; names = names-long a d.names }

single-long : (s : Store) (a : Node) (i : ℕ) → (single s a).0 ≡ given i → Long s (single s a).1
unfolding single
single-long s (literal z) i e = gives-long s _ (literal z) i ((promises.literal_added s z).gives i e)
single-long s (variable n) i e = gives-long s _ (variable n) i ((promises.variable_added s n).gives i e)
single-long s (application n ks) i e =
    gives-long s _ (application n ks) i ((promises.application_added s n ks).gives i e)

pub one-long :
    (s : Store) (got : List ℕ) (q : Asked) (i : ℕ) → (add_one s got q).0 ≡ given i → Long s (add_one s got q).1
unfolding add_one
one-long s got (node a) i e = single-long s (settled got a) i e
one-long s got (fault r) i e = given-refused (sym e)
