-- A let text placed in the lent part, or NoRoom: document 01, 'Terms'. Assumes nothing: these are definitions.
use Rattle.std.specs.Prelude.{ℕ, ◌+◌, ◌≤◌, ◌<◌, ◌≡◌, Bool, false, ◌&&◌, List, ◌++◌, length, ℤ, leb, Result, Ok, Err}
use Rattle.refusal.specs.declared.Refusal.{Refusal}
use Rattle.refusal.specs.Numbers.{refusal_no}
use Rattle.name.specs.Name.{all_allowed}
use Rattle.term_rules.specs.Lent.{Store}
use Rattle.term_rules.specs.Nodes.{Node}
use Rattle.text_whole.specs.declared.Naming.{Naming as Given}
use Rattle.text_rules.specs.LetText.{Naming, several, bindings_of, let_layout, let_text, next_count}
use Rattle.text_pieces.specs.Readable.{nodes, head_text, Readable}
use Rattle.text_whole.specs.declared.LetText.{LetText}
use Rattle.text_whole.specs.Placed.{Told, told, placed}

-- the length of the text and the next unused count; or a refusal's number
pub data LetAnswer : Type 0 where
  written : ℕ → ℕ → LetAnswer
  refusal : ℕ → LetAnswer

abbrev pub let_answer_of : Result LetText Refusal → LetAnswer
let_answer_of (Ok text) = written text.length text.next
let_answer_of (Err r) = refusal (refusal_no r)

-- what the let names are made of, as it is given
abbrev pub naming : List ℕ → List ℕ → ℕ → Bool → Naming
naming prefix hint start bare_zero =
    record { prefix = prefix; hint = hint; start = start; bare_zero = bare_zero }

-- how let names are made, as the struct has it
abbrev pub naming_of : Given → Naming
naming_of g = naming g.prefix.now g.hint.now g.start g.bare

-- "(a let prefix may be empty)"
unfoldable pub valid_prefix : List ℕ → Bool
valid_prefix prefix = leb (length prefix) 31 && all_allowed prefix

-- the let text of term t and its next count, or 13
abbrev pub let_placed : Store → Naming → ℕ → List ℕ → Told LetAnswer
let_placed s nm t out =
    placed (let_text s nm t) (written (length (let_text s nm t)) (next_count s nm t)) (refusal 13) out

-- what the let text of the last of the first n terms relies on: they can be read, and no name holds a newline
pub record Layable (rs : List ℕ) (ls : List ℤ) (ns stem : List ℕ) (n start : ℕ) : Type 0 where
  pub readable : Readable rs ls ns n
  pub some : 0 < n
  pub clean : (t : ℕ) → t < n → several (head_text (nodes rs ls ns t)) ≡ false
  pub clean_stem : several stem ≡ false
  pub low : start ≤ 4294966271

-- the let text of term t, whichever part of the stem is the prefix and whichever the hint, and its next count; or 13
pub record Lays (node : ℕ → Node) (stem : List ℕ) (start : ℕ) (bare : Bool) (t : ℕ) (out : List ℕ)
    (a : LetAnswer) (after : List ℕ) : Type 0 where
  pub right :
      (prefix hint : List ℕ) →
      prefix ++ hint ≡ stem →
      told a after
      ≡ placed (let_layout node (naming prefix hint start bare) t)
      (written (length (let_layout node (naming prefix hint start bare) t)) (start + length (bindings_of node t)))
      (refusal 13) out
