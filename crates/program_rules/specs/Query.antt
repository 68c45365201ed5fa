-- The query that stands before the table file: document 01, 'The program'. Assumes nothing: definitions.
use Rattle.std.specs.Prelude.{not, List, ℕ, eqb}
use Rattle.refusal.specs.declared.Refusal.TheVariants.{BadMode}
use Rattle.bits.specs.Got.{Got, got, then, must}
use Rattle.bits.specs.Field.{field}

-- What is asked: 0 best with let text, 1 variants, 2 best with plain text; of which sort and value; and how many
-- variants.
pub record Query : Type 0 where
  pub mode : ℕ
  pub sort : ℕ
  pub value : ℕ
  pub most : ℕ

abbrev pub asked : ℕ → ℕ → ℕ → ℕ → Query
asked mode sort value most = record { mode = mode; sort = sort; value = value; most = most }

-- "mode 2 bits .., sort 5, value 9, n 8; then the table file": each checked as it is read, BadMode at mode 3. The
-- four fields are three bytes, so the file starts at the fourth.
unfoldable pub query_at : List ℕ → Got Query
query_at input =
    then (field input 0 2) (λ mode a.
    must (not (eqb mode 3)) BadMode
    (then (field input a 5) (λ sort b.
    then (field input b 9) (λ value c.
    then (field input c 8) (λ most d.
    got (asked mode sort value most) d)))))
