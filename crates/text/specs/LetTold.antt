-- What the call for let text tells: document 01, 'Refusal numbers' and 'Terms'. Assumes nothing: a definition.
use Rattle.std.specs.Prelude.{ℕ, true, false, List, ltb, leb}
use Rattle.name.specs.Name.{valid}
use Rattle.term_rules.specs.Lent.{Store}
use Rattle.term_rules.specs.WellFormed.{well_formed}
use Rattle.text_rules.specs.LetText.{Naming}
use Rattle.text_whole.specs.Placed.{Told, told}
use Rattle.text_whole.specs.LetPlaced.{LetAnswer, refusal, valid_prefix, let_placed}

-- "Texts: 17, 14, then for let text 4 (prefix), 4 (hint), 3, then 13"
unfoldable pub let_told : Store → Naming → ℕ → List ℕ → Told LetAnswer
let_told s nm t out =
    elim (well_formed s) [
      | false ↦ told (refusal 17) out
      | true ↦
          elim (ltb t s.terms) [
            | false ↦ told (refusal 14) out
            | true ↦
                elim (valid_prefix nm.prefix) [
                  | false ↦ told (refusal 4) out
                  | true ↦
                      elim (valid nm.hint) [
                        | false ↦ told (refusal 4) out
                        | true ↦
                            elim (leb nm.start 4294966271) [
                              | false ↦ told (refusal 3) out
                              | true ↦ let_placed s nm t out
                            ]
                      ]
                ]
          ]
    ]
