-- The functions of a table file: document 01, 'The table file', its fourth line. Assumes nothing: definitions.
use Rattle.std.specs.Prelude.{ℕ, zero, suc, ◌+◌, ◌*◌, Bool, false, not, ◌||◌, List, [], ◌∷◌, leb, ltb, eqb, length, get_or}
use Rattle.refusal.specs.declared.Refusal.TheVariants.{Short, BadSize, BadName, DupName, BadSort}
use Rattle.name.specs.Name.{all_allowed, same}
use Rattle.bits.specs.Bits.{number}
use Rattle.bits.specs.Got.{Got, got, then, must, pick, many}
use Rattle.bits.specs.Field.{field, holds}
use Rattle.file_rules.specs.Table.{Function}

-- The n bytes from position k.
unfoldable pub bytes_at : List ℕ → ℕ → ℕ → List ℕ
bytes_at s k zero = []
bytes_at s k (suc n) = number s k 8 ∷ bytes_at s (k + 8) n

-- "name length 5 bits (1 to 31); name bytes"; "a name's bytes as one field", so Short comes before a byte not allowed.
unfoldable pub name_at : List ℕ → ℕ → Got (List ℕ)
name_at s at =
    then (field s at 5) (λ n p.
    must (leb 1 n) BadName
    (must (holds s p (8 * n)) Short
    (must (all_allowed (bytes_at s p n)) BadName
    (got (bytes_at s p n) (p + 8 * n)))))

-- Whether one of the functions has the name.
unfoldable pub taken : List Function → List ℕ → Bool
taken [] name = false
taken (f ∷ fs) name = same f.name name || taken fs name

-- "Function names differ.": a name that none of the functions before has.
unfoldable pub new_name_at : List ℕ → List Function → ℕ → Got (List ℕ)
new_name_at s before at = then (name_at s at) (λ name p. must (not (taken before name)) DupName (got name p))

-- Whether there is a cost (1) or none (0), and the cost.
pub record Cost : Type 0 where
  pub has_cost : ℕ
  pub cost : ℕ

-- "has-cost 1 bit, then if set cost 64 bits"
unfoldable pub cost_at : List ℕ → ℕ → Got Cost
cost_at s at =
    then (field s at 1) (λ has p.
    pick (eqb has 0) (got (record { has_cost = 0; cost = 0 }) p)
    (then (field s p 64) (λ cost q.
    got (record { has_cost = 1; cost = cost }) q)))

pub record Flags : Type 0 where
  pub unextractable : ℕ
  pub hidden : ℕ

-- "unextractable 1; hidden 1"
unfoldable pub flags_at : List ℕ → ℕ → Got Flags
flags_at s at =
    then (field s at 1) (λ unextractable p.
    then (field s p 1) (λ hidden q.
    got (record { unextractable = unextractable; hidden = hidden }) q))

-- "output sort 5 bits, an eq sort"; BadSort: "sort number not below S, or a base output sort". The sorts have the
-- kinds.
unfoldable pub output_at : List ℕ → List ℕ → ℕ → Got ℕ
output_at s kinds at =
    then (field s at 5) (λ k p.
    must (ltb k (length kinds)) BadSort
    (must (eqb (get_or kinds k 0) 1) BadSort
    (got k p)))

-- "argument sorts 5 bits each"
unfoldable pub argument_at : List ℕ → ℕ → ℕ → Got ℕ
argument_at s sort_count at = then (field s at 5) (λ k p. must (ltb k sort_count) BadSort (got k p))

-- "arity 4 bits, 0 to 8; argument sorts 5 bits each"
unfoldable pub arguments_at : List ℕ → ℕ → ℕ → Got (List ℕ)
arguments_at s sort_count at =
    then (field s at 4) (λ n p.
    must (leb n 8) BadSize
    (many (λ xs q. argument_at s sort_count q) n p []))

-- "Each: name ..; has-cost ..; unextractable 1; hidden 1; output sort ..; arity ..; argument sorts", after the
-- functions before it.
unfoldable pub function_at : List ℕ → List ℕ → List Function → ℕ → Got Function
function_at s kinds before at =
    then (new_name_at s before at) (λ name p.
    then (cost_at s p) (λ cost q.
    then (flags_at s q) (λ flags t.
    then (output_at s kinds t) (λ output u.
    then (arguments_at s (length kinds) u) (λ arguments v.
    got
    (record {
      name = name;
      has_cost = cost.has_cost;
      cost = cost.cost;
      unextractable = flags.unextractable;
      hidden = flags.hidden;
      output = output;
      arguments = arguments;
    })
    v)))))

-- n functions.
unfoldable pub functions_at : List ℕ → List ℕ → ℕ → ℕ → Got (List Function)
functions_at s kinds n at = many (λ fs p. function_at s kinds fs p) n at []
