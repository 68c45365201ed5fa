-- What holds of a function that was read, and how many bits it takes at most. Assumes nothing.
use Prim.Native.Nat.{ℕ, zero, suc, ◌+◌, ◌*◌, ◌^◌, ◌≤◌, ◌<◌}
use mathlib.Core.Bool.{true, false}
use mathlib.Core.List.{List, []}
use mathlib.Core.Path.{◌≡◌, refl, ap}
use native.Mathlib.Omega.{arith}
use lib.ListN.{length, get_or, length-append}
use borrow.Author.Tests.{ltb-true, leb-true, eqb-true, le-leb, not-true}
use Rattle.name.specs.Name.{all_allowed, valid}
use Rattle.bits.specs.Got.{many}
use Rattle.bits.specs.Field.{field}
use Rattle.bits.proofs.FieldLaws.{field-read}
use Rattle.bits.proofs.GotLaws.{
  All,
  all-got,
  all_map,
  all-at,
  all_of,
  all_then,
  all-must,
  all-pick,
  many-all,
  many-length,
}
use Rattle.file_rules.specs.Table.{Function}
use Rattle.file_rules.specs.Every.{Every, every-nil}
use Rattle.file_rules.specs.Functions.{
  Cost,
  Flags,
  bytes_at,
  name_at,
  taken,
  new_name_at,
  cost_at,
  flags_at,
  output_at,
  argument_at,
  arguments_at,
  function_at,
}
use Rattle.file_rules.specs.Accepted.{FunctionOk}
use Rattle.file_rules.proofs.BlockLaws.{every-snoc}

pub bytes_at-length : (s : List ℕ) (k n : ℕ) → length (bytes_at s k n) ≡ n
unfolding bytes_at
bytes_at-length s k zero = refl
bytes_at-length s k (suc n) = ap suc (bytes_at-length s (k + 8) n)

valid-of : (name : List ℕ) → 1 ≤ length name → length name ≤ 31 → all_allowed name ≡ true → valid name ≡ true
unfolding valid
valid-of name a b c = rw (le-leb _ _ a, le-leb _ _ b, c)

pub record NameKept (at : ℕ) (name : List ℕ) (q : ℕ) : Type 0 where
  pub good : valid name ≡ true
  pub short : length name ≤ 31
  pub near : q ≤ at + 253

pub name-kept : (s : List ℕ) (at : ℕ) → All (NameKept at) (name_at s at)
unfolding name_at
name-kept s at =
    all_then (field s at 5) _ (λ n p e.
    let k = field-read s at 5 e in
    all-must _ _ _ (λ a. all-must _ _ _ (λ _. all-must _ _ _ (λ b.
    let one : 1 ≤ n = leb-true _ _ a in
    let l : length (bytes_at s p n) ≡ n = bytes_at-length s p n in
    let u : length (bytes_at s p n) ≤ 31 = omega (arith, k.small) in
    all-got
    (record {
      good = valid-of _ (omega arith) u b;
      short = u;
      near = omega (arith, k.small, k.end);
    })))))

-- A name that was read is new, too.
pub record NewKept (before : List Function) (at : ℕ) (name : List ℕ) (q : ℕ) : Type 0 where
  pub fresh : taken before name ≡ false
  pub kept : NameKept at name q

pub new-kept : (s : List ℕ) (before : List Function) (at : ℕ) → All (NewKept before at) (new_name_at s before at)
unfolding new_name_at
new-kept s before at =
    all_then (name_at s at) _ (λ name p e. all-must _ _ _ (λ b.
    all-got (record { fresh = not-true _ b; kept = all-at (rw e at (name-kept s at)) })))

pub record CostKept (at : ℕ) (x : Cost) (q : ℕ) : Type 0 where
  pub flag : x.has_cost < 2
  pub none : x.has_cost ≡ 0 → x.cost ≡ 0
  pub small : x.cost < 2 ^ 64
  pub near : q ≤ at + 65

pub cost-kept : (s : List ℕ) (at : ℕ) → All (CostKept at) (cost_at s at)
unfolding cost_at
cost-kept s at =
    all_then (field s at 1) _ (λ has p e.
    let k = field-read s at 1 e in
    all-pick _ _ _
    (λ _. all-got (record { flag = omega arith; none = λ z. refl; small = omega arith; near = omega (arith, k.end) }))
    (λ _. all_then (field s p 64) _ (λ cost q d.
    let m = field-read s p 64 d in
    all-got (record {
      flag = omega arith;
      none = λ z. absurd (one z);
      small = m.small;
      near = omega (arith, k.end, m.end);
    }))))
  where
    one : ◌≡◌ {A = ℕ} 1 0 → ⊥
    one z = omega arith

pub record FlagsKept (at : ℕ) (x : Flags) (q : ℕ) : Type 0 where
  pub unextractable_bit : x.unextractable < 2
  pub hidden_bit : x.hidden < 2
  pub near : q ≤ at + 2

pub flags-kept : (s : List ℕ) (at : ℕ) → All (FlagsKept at) (flags_at s at)
unfolding flags_at
flags-kept s at =
    all_then (field s at 1) _ (λ u p e.
    let k = field-read s at 1 e in
    all_then (field s p 1) _ (λ h q d.
    let m = field-read s p 1 d in
    all-got (record { unextractable_bit = k.small; hidden_bit = m.small; near = omega (arith, k.end, m.end) })))

pub record OutputKept (kinds : List ℕ) (at k q : ℕ) : Type 0 where
  pub known : k < length kinds
  pub eq : get_or kinds k 0 ≡ 1
  pub near : q ≤ at + 5

pub output-kept : (s kinds : List ℕ) (at : ℕ) → All (OutputKept kinds at) (output_at s kinds at)
unfolding output_at
output-kept s kinds at =
    all_then (field s at 5) _ (λ k p e.
    let m = field-read s at 5 e in
    all-must _ _ _ (λ a. all-must _ _ _ (λ b.
    all-got (record { known = ltb-true _ _ a; eq = eqb-true _ _ b; near = omega (arith, m.end) }))))

argument-kept : (s : List ℕ) (n at : ℕ) → All (λ k q. (k < n) × (q ≡ at + 5)) (argument_at s n at)
unfolding argument_at
argument-kept s n at =
    all_then (field s at 5) _ (λ k p e. all-must _ _ _ (λ b. all-got (ltb-true _ _ b, (field-read s at 5 e).end)))

record Some (n at : ℕ) (xs : List ℕ) (q : ℕ) : Type 0 where
  sorted : Every (λ k. k < n) xs
  near : q ≤ at + 5 * length xs

some-kept : (s : List ℕ) (n at m : ℕ) → All (Some n at) (many (λ xs q. argument_at s n q) m at [])
some-kept s n at m =
    many-all _ (Some n at)
    (λ xs p h.
    all_map
    (λ k q b. record {
      sorted = every-snoc h.sorted b.0;
      near = simp length-append (omega (arith, h.near, b.1));
    })
    (argument-kept s n p))
    m at [] (record { sorted = every-nil; near = omega arith })

pub record ArgumentsKept (n at : ℕ) (xs : List ℕ) (q : ℕ) : Type 0 where
  pub few : length xs ≤ 8
  pub sorted : Every (λ k. k < n) xs
  pub near : q ≤ at + 44

pub arguments-kept : (s : List ℕ) (n at : ℕ) → All (ArgumentsKept n at) (arguments_at s n at)
unfolding arguments_at
arguments-kept s n at =
    all_then (field s at 4) _ (λ m p e.
    let k = field-read s at 4 e in
    all-must _ _ _ (λ b.
    let l : m ≤ 8 = leb-true _ _ b in
    all_of _ (λ xs q d.
    let o = all-at (rw d at (some-kept s n p m)) in
    let c : length xs ≡ m = many-length _ m p d in
    record { few = omega arith; sorted = o.sorted; near = omega (arith, o.near, k.end) })))

-- A function that was read is as it should be, its name is new, and it takes at most 369 bits.
pub record FunctionKept (kinds : List ℕ) (before : List Function) (at : ℕ) (f : Function) (q : ℕ) : Type 0 where
  pub ok : FunctionOk kinds f
  pub fresh : taken before f.name ≡ false
  pub short : length f.name ≤ 31
  pub near : q ≤ at + 369

pub function-kept : (s kinds : List ℕ) (before : List Function) (at : ℕ)
    → All (FunctionKept kinds before at) (function_at s kinds before at)
unfolding function_at
function-kept s kinds before at =
    all_then (new_name_at s before at) _ (λ name p e₁.
    let n = all-at (rw e₁ at (new-kept s before at)) in
    all_then (cost_at s p) _ (λ cost q e₂.
    let c = all-at (rw e₂ at (cost-kept s p)) in
    all_then (flags_at s q) _ (λ flags t e₃.
    let f = all-at (rw e₃ at (flags-kept s q)) in
    all_then (output_at s kinds t) _ (λ output u e₄.
    let o = all-at (rw e₄ at (output-kept s kinds t)) in
    all_then (arguments_at s (length kinds) u) _ (λ arguments v e₅.
    let a = all-at (rw e₅ at (arguments-kept s (length kinds) u)) in
    all-got
    (record {
      ok =
          record {
            named = n.kept.good;
            flag = c.flag;
            none = c.none;
            small = c.small;
            unextractable_bit = f.unextractable_bit;
            hidden_bit = f.hidden_bit;
            known = o.known;
            eq = o.eq;
            few = a.few;
            sorted = a.sorted;
          };
      fresh = n.fresh;
      short = n.kept.short;
      near = omega (arith, n.kept.near, c.near, f.near, o.near, a.near);
    }))))))
