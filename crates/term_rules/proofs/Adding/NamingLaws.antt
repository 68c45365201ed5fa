-- A name that is put behind the others: the others stay sound, and it is sound. Assumes nothing.
use Prim.Native.Nat.{ℕ, ◌≤◌, ◌<◌}
use mathlib.Core.Path.{◌≡◌, sym, subst, ◌∙◌}
use mathlib.Core.Bool.{true}
use mathlib.Core.List.{List}
use native.Mathlib.Omega.{arith}
use lib.ListN.{length}
use lib.Dec.{leb}
use borrow.Author.Tests.{leb-true}
use Rattle.name.specs.Name.{valid, all_allowed}
use Rattle.name.specs.Entries.{entries_length, put_name}
use Rattle.name.proofs.PutLaws.{
  length_at-kept,
  byte_at-kept,
  name_at-kept,
  length_at-put,
  name_at-put,
  byte_at-past,
}
use Rattle.term_rules.specs.Facts.{SoundName}
use Rattle.term_rules.proofs.TestLaws.{and_first, and_second}

pub valid-short : (name : List ℕ) → valid name ≡ true → length name ≤ 31
unfolding valid
valid-short name e =
    leb-true (length name) 31
    (and_first (leb (length name) 31) (all_allowed name) (and_second (leb 1 (length name)) _ e))

module _ (t : List ℕ) (j : ℕ) (name : List ℕ) (long : entries_length j ≤ length t) (short : length name ≤ 31) where
  pub sound-before : (k : ℕ) → k < j → SoundName t k → SoundName (put_name t j name) k
  sound-before k l s =
      let e = length_at-kept t j name long short k l in
      record {
        short = omega (arith, e, s.short);
        allowed =
            subst (λ (n : List ℕ). valid n ≡ true) (sym (name_at-kept t j name long short k l s.short)) s.allowed;
        unused = λ i h b. byte_at-kept t j name long short k l i b ∙ s.unused i (omega (arith, e)) b;
      }

  pub sound-at : valid name ≡ true → SoundName (put_name t j name) j
  sound-at v =
      let e = length_at-put t j name long short in
      record {
        short = omega (arith, e);
        allowed = subst (λ (n : List ℕ). valid n ≡ true) (sym (name_at-put t j name long short)) v;
        unused = λ i h b. byte_at-past t j name long short i (omega (arith, e)) b;
      }
