-- What the call for plain text tells: document 01, 'Refusal numbers' and 'Terms'. Assumes nothing: a definition.
use Rattle.std.specs.Prelude.{ℕ, true, false, List, ltb}
use Rattle.term_rules.specs.Lent.{Store}
use Rattle.term_rules.specs.WellFormed.{well_formed}
use Rattle.text_whole.specs.Placed.{Answer, refusal, Told, told, plain_placed}

-- "Texts: 17, 14, [..] then 13": the plain text of term t
unfoldable pub plain_told : Store → ℕ → List ℕ → Told Answer
plain_told s t out =
    elim (well_formed s) [
      | false ↦ told (refusal 17) out
      | true ↦ elim (ltb t s.terms) [ false ↦ told (refusal 14) out | true ↦ plain_placed s t out ]
    ]
