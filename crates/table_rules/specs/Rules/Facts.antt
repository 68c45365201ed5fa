-- What the extractor goes by in an accepted table, number for number. Assumes nothing: definitions.
use Rattle.std.specs.Prelude.{◌≡◌, true, ℕ, ◌+◌, ◌<◌, ◌≤◌, length, get_or}
use Rattle.name.specs.Name.{valid}
use Rattle.file_rules.specs.Table.{Table}
use Rattle.table_rules.specs.Rules.Classes.{sort_of, class_count, range_of}
use Rattle.table_rules.specs.Rules.Rows.{function_of, table_row_of}

-- The arity of row r's function.
abbrev pub arity_of : Table → ℕ → ℕ
arity_of t r = length (function_of t (table_row_of t r).function).arguments

pub record Known (t : Table) : Type 0 where
  pub few_sorts : length t.sorts ≤ 31
  pub few_classes : class_count t ≤ 512
  pub few_literals : length t.literals ≤ 511
  pub few_functions : length t.functions ≤ 127
  pub few_rows : length t.rows ≤ 1024
  pub name : (f : ℕ) → f < length t.functions → valid (function_of t f).name ≡ true
  pub cost : (f : ℕ) → f < length t.functions → (function_of t f).cost < 18446744073709551616
  pub output : (f : ℕ) → f < length t.functions → (function_of t f).output < length t.sorts
  pub output_eq : (f : ℕ) → f < length t.functions → (sort_of t (function_of t f).output).kind ≡ 1
  pub arity : (f : ℕ) → f < length t.functions → length (function_of t f).arguments ≤ 8
  pub argument :
      (f j : ℕ) →
      f < length t.functions →
      j < length (function_of t f).arguments →
      get_or (function_of t f).arguments j 0 < length t.sorts
  pub kind : (s : ℕ) → s < length t.sorts → (sort_of t s).kind ≤ 1
  pub function : (r : ℕ) → r < length t.rows → (table_row_of t r).function < length t.functions
  pub cells : (r : ℕ) → r < length t.rows → length (table_row_of t r).cells ≡ arity_of t r + 1
  pub output_cell :
      (r : ℕ) →
      r < length t.rows →
      get_or (table_row_of t r).cells (arity_of t r) 0
      < (sort_of t (function_of t (table_row_of t r).function).output).classes
  pub argument_cell :
      (r j : ℕ) →
      r < length t.rows →
      j < arity_of t r →
      get_or (table_row_of t r).cells j 0 < range_of t (get_or (function_of t (table_row_of t r).function).arguments j 0)
