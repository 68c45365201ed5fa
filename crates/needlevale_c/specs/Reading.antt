-- What the numbers of the calls on term structs that only read tell. Assumes nothing: definitions.
use Rattle.std.specs.Prelude.{ℕ, ◌<◌, ◌≡◌, true, List, ◌↔◌, ◌⊎◌, ℤ, pos}
use Rattle.refusal.specs.declared.Refusal.{Refusal}
use Rattle.refusal.specs.Numbers.{refusal_no}
use Rattle.term_rules.specs.Lent.{Store}
use Rattle.term_rules.specs.WellFormed.{well_formed}
use Rattle.term_rules.specs.Nodes.{Node}
use Rattle.term.specs.Orders.{Telling, never, must}
use Rattle.term.specs.Outcomes.{AllIn, IsTerm, There}
use Rattle.c_told.specs.Below.{below_zero}
use Rattle.c_told.specs.declared.terms.Number.{Number}

-- "Each returns its number alone": the status is 0 or a refusal's, a refusal's just where that is told, and so 0 just
-- where none is; beside 0 stands a good value, beside a refusal nothing.
pub record Tells {B : Type 0} (told : Telling) (Good : B → Type 0) (nothing : B) (status : ℤ) (v : B) : Type 0 where
  pub known : (status ≡ pos 0) ⊎ ((r : Refusal) × (status ≡ below_zero r))
  pub refusals : (r : Refusal) → (status ≡ below_zero r) ↔ told (refusal_no r)
  pub good : status ≡ pos 0 → Good v
  pub none : (r : Refusal) → status ≡ below_zero r → v ≡ nothing

-- A count or a term's number.
abbrev pub TellsNumber : Telling → (ℕ → Type 0) → Number → Type 0
TellsNumber told Good z = Tells told Good 0 z.status z.number

-- A lookup of a node, once what is asked of it holds: "Lookup has its kind's order with 15 for 13".
abbrev pub TellsFound : Store → Node → (Telling → Telling) → Number → Type 0
TellsFound s node asked z = TellsNumber (asked (must (There s node) 15 never)) (IsTerm s node) z

-- "Size: 17", and "get, compare and sort: 17, 14", of the terms that they are asked of.
abbrev pub asks_store : Store → Telling
asks_store s = must (well_formed s ≡ true) 17 never

abbrev pub asks_term : Store → ℕ → Telling
asks_term s i = must (well_formed s ≡ true) 17 (must (i < s.terms) 14 never)

abbrev pub asks_two : Store → ℕ → ℕ → Telling
asks_two s i j = must (well_formed s ≡ true) 17 (must ((i < s.terms) × (j < s.terms)) 14 never)

abbrev pub asks_all : Store → List ℕ → Telling
asks_all s l = must (well_formed s ≡ true) 17 (must (AllIn s l) 14 never)
