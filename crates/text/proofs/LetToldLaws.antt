-- The laws of what the call for let text tells. Assumes nothing.
use mathlib.Core.Path.{◌≡◌}
use mathlib.Core.Bool.{true, false}
use mathlib.Core.List.{List}
use Prim.Native.Nat.{ℕ, ◌≤◌, ◌<◌}
use lib.ListN.{length}
use borrow.Author.Tests.{le-leb, lt-leb, lt-ltb, le-ltb}
use Rattle.name.specs.Name.{all_allowed, valid}
use Rattle.term_rules.specs.Lent.{Store}
use Rattle.term_rules.specs.WellFormed.{well_formed}
use Rattle.text_rules.specs.LetText.{Naming}
use Rattle.text_whole.specs.Placed.{told}
use Rattle.text_whole.specs.LetPlaced.{refusal, valid_prefix, let_placed}
use Rattle.text.specs.LetTold.{let_told}

module _ (s : Store) (nm : Naming) (t : ℕ) (out : List ℕ) where
  pub let-store-refuses : well_formed s ≡ false → let_told s nm t out ≡ told (refusal 17) out
  unfolding let_told
  let-store-refuses e = rw (e, let_told)

  module _ (e : well_formed s ≡ true) where
    pub let-term-refuses : s.terms ≤ t → let_told s nm t out ≡ told (refusal 14) out
    unfolding let_told
    let-term-refuses l = rw (e, le-ltb t s.terms l, let_told)

    module _ (l : t < s.terms) where
      pub let-prefix-refuses : valid_prefix nm.prefix ≡ false → let_told s nm t out ≡ told (refusal 4) out
      unfolding let_told
      let-prefix-refuses p = rw (e, lt-ltb t s.terms l, p, let_told)

      module _ (p : valid_prefix nm.prefix ≡ true) where
        pub let-hint-refuses : valid nm.hint ≡ false → let_told s nm t out ≡ told (refusal 4) out
        unfolding let_told
        let-hint-refuses h = rw (e, lt-ltb t s.terms l, p, h, let_told)

        module _ (h : valid nm.hint ≡ true) where
          pub let-start-refuses : 4294966271 < nm.start → let_told s nm t out ≡ told (refusal 3) out
          unfolding let_told
          let-start-refuses b = rw (e, lt-ltb t s.terms l, p, h, lt-leb nm.start 4294966271 b, let_told)

          pub let-placed : nm.start ≤ 4294966271 → let_told s nm t out ≡ let_placed s nm t out
          unfolding let_told
          let-placed b = rw (e, lt-ltb t s.terms l, p, h, le-leb nm.start 4294966271 b, let_told)

-- the walk of a prefix
pub prefix-long : (prefix : List ℕ) → 31 < length prefix → valid_prefix prefix ≡ false
unfolding valid_prefix
prefix-long prefix l = rw (lt-leb (length prefix) 31 l)

pub prefix-allowed : (prefix : List ℕ) → length prefix ≤ 31 → valid_prefix prefix ≡ all_allowed prefix
unfolding valid_prefix
prefix-allowed prefix l = rw (le-leb (length prefix) 31 l)
