-- What the two checks of a call for text find. Assumes nothing: these are definitions.
use Rattle.std.specs.Prelude.{ℕ, ◌≡◌, ◌<◌, ◌≤◌, Bool, true, List}
use Rattle.refusal.specs.declared.Refusal.{Refusal}
use Rattle.refusal.specs.Numbers.{refusal_no}
use Rattle.name.specs.Name.{valid}
use Rattle.term_rules.specs.Lent.{Store}
use Rattle.term_rules.specs.WellFormed.{well_formed}
use Rattle.text_rules.specs.LetText.{Naming}
use Rattle.text_whole.specs.Placed.{told, refusal}
use Rattle.text_whole.specs.LetPlaced.{refusal as let_refusal, naming, valid_prefix}
use Rattle.text.specs.Told.{plain_told}
use Rattle.text.specs.LetTold.{let_told}

-- the store is well formed, and has term t
pub record Held (s : Store) (t : ℕ) : Type 0 where
  pub formed : well_formed s ≡ true
  pub known : t < s.terms

-- one of the two does not hold: both calls tell this refusal
pub record Unheld (s : Store) (t : ℕ) (why : Refusal) : Type 0 where
  pub plain : (out : List ℕ) → plain_told s t out ≡ told (refusal (refusal_no why)) out
  pub lets : (nm : Naming) (out : List ℕ) → let_told s nm t out ≡ told (let_refusal (refusal_no why)) out

-- prefix, hint and start count can be taken
pub record Taken (prefix hint : List ℕ) (start : ℕ) : Type 0 where
  pub prefix_valid : valid_prefix prefix ≡ true
  pub hint_valid : valid hint ≡ true
  pub start_low : start ≤ 4294966271

-- one of the three cannot: the call for let text tells this refusal
pub record Untaken (prefix hint : List ℕ) (start : ℕ) (why : Refusal) : Type 0 where
  pub lets :
      (s : Store) (bare : Bool) (t : ℕ) (out : List ℕ) →
      Held s t →
      let_told s (naming prefix hint start bare) t out ≡ told (let_refusal (refusal_no why)) out
