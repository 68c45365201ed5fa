-- A refusal's code is below zero and tells the refusal. Assumes nothing.
use mathlib.Core.Path.{◌≡◌, refl, sym, ap, ◌∙◌}
use Prim.Native.Nat.{ℕ, zero, suc, ◌≤◌}
use native.Mathlib.Omega.{arith}
use lib.IntN.{ℤ, pos, negsuc, neg_ℤ, nat_abs}
use Rattle.refusal.specs.declared.Refusal.{Refusal}
use Rattle.refusal.specs.Numbers.{refusal_no}
use Rattle.refusal.proofs.NumberLaws.{number-once}
use Rattle.program_rules.proofs.Replies.KnownLaws.{in_table}
use Rattle.c_told.specs.Below.{below_zero}

sign : ℤ → ℕ
sign (pos n) = 0
sign (negsuc n) = 1

sign_of : (k : ℕ) → 1 ≤ k → sign (neg_ℤ (pos k)) ≡ 1
unfolding sign
sign_of zero l =
    let f : ⊥ = omega (arith, l) in
    absurd f
sign_of (suc k) l = refl

pub is_below : (r : Refusal) (n : ℕ) → below_zero r ≡ pos n → ⊥
unfolding sign
is_below r n e =
    let s : ◌≡◌ {A = ℕ} 1 0 = sym (sign_of (refusal_no r) (in_table r).from_one) ∙ ap sign e in
    omega (arith, s)

size_of : (k : ℕ) → nat_abs (neg_ℤ (pos k)) ≡ k
size_of zero = refl
size_of (suc k) = refl

pub is_code : (k n : ℕ) → neg_ℤ (pos k) ≡ neg_ℤ (pos n) → k ≡ n
is_code k n e = sym (size_of k) ∙ ap nat_abs e ∙ size_of n

pub one_code : (r q : Refusal) → below_zero r ≡ below_zero q → r ≡ q
one_code r q e =
    number-once r q (is_code (refusal_no r) (refusal_no q) e)
