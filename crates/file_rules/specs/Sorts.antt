-- The sorts of a table file: document 01, 'The table file', its first two lines. Assumes nothing: definitions.
use Rattle.std.specs.Prelude.{ℕ, ◌+◌, List, [], ◌∷◌, map, leb, eqb}
use Rattle.refusal.specs.declared.Refusal.TheVariants.{BadSize}
use Rattle.bits.specs.Got.{Got, got, then, must, pick, many}
use Rattle.bits.specs.Field.{field}
use Rattle.file_rules.specs.Table.{Sort}

-- The kind of each sort.
abbrev pub kinds_of : List Sort → List ℕ
kinds_of xs = map (λ (x : Sort). x.kind) xs

-- The classes of all sorts together.
unfoldable pub classes_of : List Sort → ℕ
classes_of [] = 0
classes_of (x ∷ xs) = x.classes + classes_of xs

-- "per sort: kind 1 bit (0 base, 1 eq ..); if eq, class count 10 bits, 0 to 512; all classes together at most 512",
-- where the sorts before it have t classes.
unfoldable pub sort_at : List ℕ → ℕ → ℕ → Got Sort
sort_at s at t =
    then (field s at 1) (λ kind p.
    pick (eqb kind 0) (got (record { kind = 0; classes = 0 }) p)
    (then (field s p 10) (λ n q.
    must (leb n 512) BadSize
    (must (leb (t + n) 512) BadSize
    (got (record { kind = 1; classes = n }) q)))))

-- n sorts.
unfoldable pub sorts_at : List ℕ → ℕ → ℕ → Got (List Sort)
sorts_at s n at = many (λ xs p. sort_at s p (classes_of xs)) n at []
