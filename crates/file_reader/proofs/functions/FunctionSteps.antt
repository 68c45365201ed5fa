-- Laws of the reading of a function, one for each way that it goes, and where its parts end. Assumes nothing.
use Prim.Native.Nat.{ℕ, ◌+◌, ◌≤◌}
use mathlib.Core.List.{List}
use mathlib.Core.Path.{◌≡◌}
use lib.ListN.{length}
use Rattle.refusal.specs.declared.Refusal.{Refusal}
use Rattle.bits.specs.Got.{got, refused, then}
use Rattle.bits.proofs.GotLaws.{all-at}
use Rattle.file_rules.specs.Table.{Function}
use Rattle.file_rules.specs.Functions.{Cost, Flags, new_name_at, cost_at, flags_at, output_at, arguments_at, function_at}
use Rattle.file_rules.proofs.ReadingLaws.{Read-to}
use Rattle.file_rules.proofs.FunctionLaws.{cost-kept, flags-kept, output-kept}
use Rattle.file_names.specs.Name.{free_name_at}
use Rattle.file_names.proofs.EntriesLaws.{free-kept}

-- Where each part ends.
pub name-near : (s table : List ℕ) (i at : ℕ) {p : ℕ} {P : List ℕ → Type 0} → Read-to (free_name_at s table i at) p P
    → p ≤ at + 253
name-near s table i at r = (all-at (rw r.is at (free-kept s table i at))).near

pub cost-near : (s : List ℕ) (at : ℕ) {p : ℕ} {P : Cost → Type 0} → Read-to (cost_at s at) p P → p ≤ at + 65
cost-near s at r = (all-at (rw r.is at (cost-kept s at))).near

pub flags-near : (s : List ℕ) (at : ℕ) {p : ℕ} {P : Flags → Type 0} → Read-to (flags_at s at) p P → p ≤ at + 2
flags-near s at r = (all-at (rw r.is at (flags-kept s at))).near

pub output-near : (s kinds : List ℕ) (at : ℕ) {p : ℕ} {P : ℕ → Type 0} → Read-to (output_at s kinds at) p P → p ≤ at + 5
output-near s kinds at r = (all-at (rw r.is at (output-kept s kinds at))).near

-- The function of its parts.
abbrev pub function_of : List ℕ → Cost → Flags → ℕ → List ℕ → Function
function_of name cost flags output arguments =
    record {
      name = name;
      has_cost = cost.has_cost;
      cost = cost.cost;
      unextractable = flags.unextractable;
      hidden = flags.hidden;
      output = output;
      arguments = arguments;
    }

module _ (s kinds : List ℕ) (fs : List Function) (at : ℕ) where
  pub function-stops-1 : {x : Refusal} → new_name_at s fs at ≡ refused x → function_at s kinds fs at ≡ refused x
  unfolding function_at then
  function-stops-1 e = rw e

  module _ {name : List ℕ} {p : ℕ} (a : new_name_at s fs at ≡ got name p) where
    pub function-stops-2 : {x : Refusal} → cost_at s p ≡ refused x → function_at s kinds fs at ≡ refused x
    unfolding function_at then
    function-stops-2 e = rw (a, e)

    module _ {cost : Cost} {q : ℕ} (b : cost_at s p ≡ got cost q) where
      pub function-stops-3 : {x : Refusal} → flags_at s q ≡ refused x → function_at s kinds fs at ≡ refused x
      unfolding function_at then
      function-stops-3 e = rw (a, b, e)

      module _ {flags : Flags} {t : ℕ} (c : flags_at s q ≡ got flags t) where
        pub function-stops-4 : {x : Refusal} → output_at s kinds t ≡ refused x → function_at s kinds fs at ≡ refused x
        unfolding function_at then
        function-stops-4 e = rw (a, b, c, e)

        module _ {output u : ℕ} (d : output_at s kinds t ≡ got output u) where
          pub function-ends : {n : ℕ} → length kinds ≡ n
              → function_at s kinds fs at ≡ then (arguments_at s n u)
              (λ arguments v. got (function_of name cost flags output arguments) v)
          unfolding function_at then
          function-ends e = rw (a, b, c, d, e)
