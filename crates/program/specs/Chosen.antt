-- What the program is told of the variants that were chosen of a file. Assumes nothing: definitions.
use Rattle.std.specs.Prelude.{◌≡◌, true, List, ℕ, ℤ, length, Ok}
use Rattle.answer_rules.specs.Variants.{variants_at}
use Rattle.table_roots.specs.Chosen.{ChosenFor}
use Rattle.table_roots.specs.declared.Chosen.{Chosen}
use Rattle.program_rules.specs.Reply.{Replied, variants_call, in_room, put_in}

-- It was chosen of some file, for every well-formed store.
pub record FileChosen
    (root : Chosen) (rows edges ranks labels : List ℕ) (values : List ℤ) (prices list : List ℕ) : Type 0 where
  pub file : List ℕ
  pub sort : ℕ
  pub value : ℕ
  pub most : ℕ
  pub is : ChosenFor (Ok root) rows edges ranks labels values prices list true (variants_at file sort value most)

-- For every file that it can have been chosen of, the call's text stands at the start of the buffer, or nothing changes.
abbrev pub FileTold :
    Chosen →
    List ℕ →
    List ℕ →
    List ℕ →
    List ℕ →
    List ℤ →
    List ℕ →
    List ℕ →
    List ℕ →
    Replied →
    Type 0
FileTold root rows edges ranks labels values prices list out a =
    (file : List ℕ) (sort value most : ℕ) →
    ChosenFor (Ok root) rows edges ranks labels values prices list true (variants_at file sort value most) →
    a ≡ put_in (in_room (length out) (variants_call file sort value most)) out
