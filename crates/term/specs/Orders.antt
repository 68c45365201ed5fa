-- The order of a call's refusals as a statement: document 01, 'Refusal numbers'. Assumes nothing: these are
-- definitions.
use Rattle.std.specs.Prelude.{ℕ, ◌≡◌, ◌↔◌, ◌⊎◌}
use Rattle.term.specs.Answers.{Answer, refused}

-- when each number is told
abbrev pub Telling : Type 1
Telling = ℕ → Type 0

-- none is
abbrev pub never : Telling
never k = ⊥

-- P is asked: where it fails, m is told, and nothing else; where it holds, the rest decides
abbrev pub must : Type 0 → ℕ → Telling → Telling
must P m rest k = ((P → ⊥) × (k ≡ m)) ⊎ (P × rest k)

-- "Given exactly when": the answer is number k just where k is told.
abbrev pub Refuses : {A : Type 0} → Answer A → Telling → Type 0
Refuses a told = (k : ℕ) → (a ≡ refused k) ↔ told k
