-- The record that is made of its parts. Assumes nothing: these are definitions.
use Rattle.std.specs.Prelude.{ℕ, ◌-◌, List, ◌++◌, length, replicate, ℤ}
use Rattle.term_rules.specs.declared.Term.{Term}

-- the record of these parts, with zeros past its children
abbrev pub padded : ℕ → ℕ → ℕ → ℤ → List ℕ → Term
padded kind symbol count z ks = record {
  kind = kind;
  symbol = symbol;
  count = count;
  literal = z;
  children = ks ++ replicate (8 - length ks) 0;
}
