-- What holds of all functions that were read: their names differ. Assumes nothing.
use Prim.{Dec, yes, no}
use Prim.Native.Nat.{ℕ, zero, suc, ◌+◌, ◌*◌, ◌≤◌, ◌<◌}
use mathlib.Core.Bool.{Bool, true, false, ◌||◌}
use mathlib.Core.List.{List, [], ◌∷◌, ◌++◌}
use mathlib.Core.Path.{◌≡◌, refl}
use native.Mathlib.Decide.{dec_lt}
use native.Mathlib.Omega.{arith}
use lib.ListN.{length, length-append, get_or-append}
use lib.Seq.{get_or-append_seam}
use borrow.Author.Tests.{eq-eqb}
use Rattle.name.specs.Name.{same}
use Rattle.bits.specs.Got.{got}
use Rattle.bits.proofs.GotLaws.{All, all_map, many-all, many-length}
use Rattle.file_rules.specs.Table.{Function}
use Rattle.file_rules.specs.Every.{Every, every-nil}
use Rattle.file_rules.specs.Functions.{taken, functions_at}
use Rattle.file_rules.specs.Rows.{function_no}
use Rattle.file_rules.specs.Accepted.{FunctionOk, Differ}
use Rattle.file_rules.proofs.BlockLaws.{every-snoc}
use Rattle.file_rules.proofs.FunctionLaws.{function-kept}

pub same_refl : (xs : List ℕ) → same xs xs ≡ true
unfolding same
same_refl [] = refl
same_refl (x ∷ xs) = rw (eq-eqb x x refl, same_refl xs)

or_right : (a b : Bool) → (a || b) ≡ false → b ≡ false
or_right true b e = cc
or_right false b e = e

or_left : (a b : Bool) → (a || b) ≡ false → a ≡ false
or_left true b e = e
or_left false b e = refl

clash : (b : Bool) → b ≡ true → b ≡ false → ⊥
clash b e d =
    let z : ◌≡◌ {A = ℕ} 0 1 = cc in
    omega arith

-- A name that is not taken is no function's.
pub taken-no : (fs : List Function) (name : List ℕ) (k : ℕ) → taken fs name ≡ false → k < length fs
    → (function_no fs k).name ≡ name → ⊥
unfolding taken
taken-no [] name k e l d = omega arith
taken-no (f ∷ fs) name zero e l d =
    clash (same f.name name) (rw d (same_refl name)) (or_left (same f.name name) (taken fs name) e)
taken-no (f ∷ fs) name (suc k) e l d =
    taken-no fs name k (or_right (same f.name name) (taken fs name) e) (omega arith) d

module _ (fs : List Function) (f : Function) where
  before : (k : ℕ) → k < length fs → function_no (fs ++ (f ∷ [])) k ≡ function_no fs k
  before k l = get_or-append fs _ _ k l

  differ-by : (i j : ℕ) → Differ fs → taken fs f.name ≡ false → i < j → j < length fs + 1 → Dec (j < length fs)
      → (function_no (fs ++ (f ∷ [])) i).name ≡ (function_no (fs ++ (f ∷ [])) j).name → ⊥
  differ-by i j h t a b (yes l) e =
      h i j a l (rw (before i (omega arith), before j l) at e)
  differ-by i j h t a b (no n) e =
      let o : j ≡ length fs = omega arith in
      let g : function_no (fs ++ (f ∷ [])) j ≡ f = rw o (get_or-append_seam fs f [] (function_no [] 0)) in
      taken-no fs f.name i t (omega arith) (rw (before i (omega arith), g) at e)

  pub differ-snoc : Differ fs → taken fs f.name ≡ false → Differ (fs ++ (f ∷ []))
  differ-snoc h t i j a b e =
      let l : j < length fs + 1 = rw length-append at b in
      differ-by i j h t a l (dec_lt j (length fs)) e

-- The functions that were read.
pub record FunctionsKept (kinds : List ℕ) (at : ℕ) (fs : List Function) (q : ℕ) : Type 0 where
  pub ok : Every (FunctionOk kinds) fs
  pub differ : Differ fs
  pub near : q ≤ at + 369 * length fs

none_differ : Differ []
none_differ i j a b e = omega arith

pub functions-kept : (s kinds : List ℕ) (n at : ℕ) → All (FunctionsKept kinds at) (functions_at s kinds n at)
unfolding functions_at
functions-kept s kinds n at =
    many-all _ (FunctionsKept kinds at)
    (λ fs p h.
    all_map
    (λ f q k.
    record {
      ok = every-snoc h.ok k.ok;
      differ = differ-snoc fs f h.differ k.fresh;
      near = simp length-append (omega (arith, h.near, k.near));
    })
    (function-kept s kinds fs p))
    n at [] (record { ok = every-nil; differ = none_differ; near = omega arith })

pub functions-length : (s kinds : List ℕ) (n at : ℕ) {fs : List Function} {q : ℕ} → functions_at s kinds n at ≡ got fs q
    → length fs ≡ n
unfolding functions_at
functions-length s kinds n at e = many-length _ n at e
