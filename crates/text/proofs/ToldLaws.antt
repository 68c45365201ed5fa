-- The laws of what the call for plain text tells. Assumes nothing.
use mathlib.Core.Path.{◌≡◌}
use mathlib.Core.Bool.{true, false}
use mathlib.Core.List.{List}
use Prim.Native.Nat.{ℕ, ◌<◌, ◌≤◌}
use borrow.Author.Tests.{lt-ltb, le-ltb}
use Rattle.term_rules.specs.Lent.{Store}
use Rattle.term_rules.specs.WellFormed.{well_formed}
use Rattle.text_whole.specs.Placed.{refusal, told, plain_placed}
use Rattle.text.specs.Told.{plain_told}

module _ (s : Store) (t : ℕ) (out : List ℕ) where
  pub plain-store-refuses : well_formed s ≡ false → plain_told s t out ≡ told (refusal 17) out
  unfolding plain_told
  plain-store-refuses e = rw (e, plain_told)

  module _ (e : well_formed s ≡ true) where
    pub plain-term-refuses : s.terms ≤ t → plain_told s t out ≡ told (refusal 14) out
    unfolding plain_told
    plain-term-refuses l = rw (e, le-ltb t s.terms l, plain_told)

    pub plain-placed : t < s.terms → plain_told s t out ≡ plain_placed s t out
    unfolding plain_told
    plain-placed l = rw (e, lt-ltb t s.terms l, plain_told)
