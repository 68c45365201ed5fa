-- Functions that are spelt are read back. Assumes nothing.
use Prim.Native.Nat.{ℕ, zero, suc, ◌+◌, ◌*◌, ◌^◌, ◌≤◌, ◌<◌}
use mathlib.Core.Bool.{Bool, true, false, ◌&&◌}
use mathlib.Core.List.{List, [], ◌∷◌, ◌++◌}
use mathlib.Core.Path.{◌≡◌, refl, subst}
use native.Mathlib.Omega.{arith}
use lib.Dec.{eqb, leb}
use lib.ListN.{length, get_or, length-append, get_or-append}
use lib.Seq.{get_or-append_seam}
use borrow.Author.Tests.{le-leb, lt-ltb, eq-eqb, leb-true, eqb-true}
use Rattle.name.specs.Name.{allowed, all_allowed, valid, same}
use Rattle.bits.specs.Got.{got, then, must, pick}
use Rattle.bits.proofs.BitsLaws.{bits_of-length}
use Rattle.bits.proofs.FieldLaws.{holds-of-le}
use Rattle.file_rules.specs.Table.{Function}
use Rattle.file_rules.specs.Every.{Every, every-nil, every-cons}
use Rattle.file_rules.specs.Arrays.{blocks}
use Rattle.file_rules.specs.Functions.{
  bytes_at,
  name_at,
  taken,
  new_name_at,
  cost_at,
  flags_at,
  output_at,
  argument_at,
  arguments_at,
  function_at,
  functions_at,
}
use Rattle.file_rules.specs.Rows.{function_no}
use Rattle.file_rules.specs.Accepted.{FunctionOk, Differ}
use Rattle.file_rules.proofs.BlockLaws.{blocks-length}
use Rattle.file_rules.specs.Code.{code, code_many, code_cost, code_function}
use Rattle.file_rules.proofs.Coding.SpellLaws.{Spells, code-length}
use Rattle.file_rules.proofs.Encoding.BackLaws.{
  spells-left,
  spells-right,
  spells-end,
  number-back,
  field_back,
  codes-long,
  every-mid,
  many-back,
}

and_left : (a b : Bool) → (a && b) ≡ true → a ≡ true
and_left true b e = refl
and_left false b e = e

and_right : (a b : Bool) → (a && b) ≡ true → b ≡ true
and_right true b e = e
and_right false b e = cc

-- The bytes of a name are bytes.
allowed-byte : (b : ℕ) → allowed b ≡ true → b < 2 ^ 8
unfolding allowed
allowed-byte b e =
    let l : b ≤ 126 = leb-true b 126 (and_left (leb b 126) _ (and_right (leb 33 b) _ e)) in
    omega arith

bytes-allowed : (name : List ℕ) → all_allowed name ≡ true → Every (λ b. b < 2 ^ 8) name
unfolding all_allowed
bytes-allowed [] e = every-nil
bytes-allowed (b ∷ bs) e =
    every-cons (allowed-byte b (and_left (allowed b) _ e)) (bytes-allowed bs (and_right (allowed b) _ e))

bytes_back : {s : List ℕ} {k q : ℕ} {name : List ℕ} → Every (λ b. b < 2 ^ 8) name → Spells s k q (blocks (code 8) name)
    → bytes_at s k (length name) ≡ name
unfolding bytes_at blocks
bytes_back every-nil p = refl
bytes_back {k = k} (every-cons {x = b} {xs = bs} h hs) p =
    let l = spells-left (code 8 b) (blocks (code 8) bs) p in
    let o : length (code 8 b) + k ≡ k + 8 = rw code-length (omega arith) in
    let r = rw o at (spells-right (code 8 b) (blocks (code 8) bs) p) in
    rw (number-back 8 b l h, bytes_back {k = k + 8} hs r)

bytes-end : {s : List ℕ} {k q : ℕ} (name : List ℕ) → Spells s k q (blocks (code 8) name) → k + 8 * length name ≡ q
bytes-end name p =
    let e : length (blocks (code 8) name) ≡ length name * 8 = blocks-length (code 8) 8 (codes-long 8 name) in
    omega (arith, p.size)

pub name_back : {s : List ℕ} {at q : ℕ} (name : List ℕ) → valid name ≡ true → Spells s at q (code_many 5 (code 8) name)
    → name_at s at ≡ got name q
unfolding name_at then must valid
name_back {s} {at} {q} name v p =
    let n = length name in
    let l = spells-left (code 5 n) (blocks (code 8) name) p in
    let r = spells-right (code 5 n) (blocks (code 8) name) p in
    let w = and_right (leb 1 n) _ v in
    let a : 1 ≤ n = leb-true 1 n (and_left (leb 1 n) _ v) in
    let b : n ≤ 31 = leb-true n 31 (and_left (leb n 31) _ w) in
    let good : all_allowed name ≡ true = and_right (leb n 31) _ w in
    let e : length (code 5 n) + at + 8 * n ≡ q = bytes-end name r in
    let h : length (code 5 n) + at + 8 * n ≤ 8 * length s = rw (e, ← bits_of-length s) p.here in
    rw (
      field_back 5 n l (omega arith),
      le-leb 1 n a,
      holds-of-le s _ (8 * n) h,
      bytes_back (bytes-allowed name good) r,
      good,
      e,
    )

same-eq : (a b : List ℕ) → same a b ≡ true → a ≡ b
unfolding same
same-eq [] [] e = refl
same-eq [] (y ∷ b) e = cc
same-eq (x ∷ a) [] e = cc
same-eq (x ∷ a) (y ∷ b) e =
    rw (eqb-true x y (and_left (eqb x y) _ e), same-eq a b (and_right (eqb x y) _ e))

not-same-by : (a b : List ℕ) (t : Bool) → same a b ≡ t → (a ≡ b → ⊥) → t ≡ false
not-same-by a b true e n = absurd (n (same-eq a b e))
not-same-by a b false e n = refl

-- A name that no function has is not taken.
not_taken : (fs : List Function) (name : List ℕ) → ((k : ℕ) → k < length fs → (function_no fs k).name ≡ name → ⊥)
    → taken fs name ≡ false
unfolding taken
not_taken [] name h = refl
not_taken (f ∷ fs) name h =
    let a : same f.name name ≡ false = not-same-by f.name name _ refl (h 0 (omega arith)) in
    let b : taken fs name ≡ false = not_taken fs name (λ k l. h (suc k) (omega arith)) in
    rw (a, b)

-- Where names differ, a function's name is not taken by those before it.
new-mid : (before : List Function) (f : Function) (after : List Function) → Differ (before ++ (f ∷ after))
    → taken before f.name ≡ false
new-mid before f after h =
    let all = before ++ (f ∷ after) in
    let g : function_no all (length before) ≡ f = get_or-append_seam before f after (function_no [] 0) in
    let n : length all ≡ length before + suc (length after) = length-append before (f ∷ after) in
    not_taken before f.name (λ k l e.
    let b : function_no all k ≡ function_no before k = get_or-append before (f ∷ after) (function_no [] 0) k l in
    h k (length before) l (omega arith) (rw (b, g) e))

pub new-back : {s : List ℕ} {at q : ℕ} (before : List Function) (name : List ℕ) → valid name ≡ true
    → taken before name ≡ false → Spells s at q (code_many 5 (code 8) name) → new_name_at s before at ≡ got name q
unfolding new_name_at then must
new-back before name v t p = rw (name_back name v p, t)

cost-by : {s : List ℕ} {at q : ℕ} (has c : ℕ) → has < 2 → (has ≡ 0 → c ≡ 0) → c < 2 ^ 64
    → Spells s at q (code_cost has c) → cost_at s at ≡ got (record { has_cost = has; cost = c }) q
unfolding cost_at then pick
cost-by zero c h z f p =
    rw (field_back 1 0 (spells-left (code 1 0) _ p) h, z refl, spells-end (spells-right (code 1 0) _ p))
cost-by (suc zero) c h z f p =
    rw (field_back 1 1 (spells-left (code 1 1) _ p) h, field_back 64 c (spells-right (code 1 1) _ p) f)
cost-by (suc (suc k)) c h z f p = let o : ⊥ = omega arith in absurd o

flags-back : {s : List ℕ} {at q : ℕ} (u h : ℕ) → u < 2 → h < 2 → Spells s at q (code 1 u ++ code 1 h)
    → flags_at s at ≡ got (record { unextractable = u; hidden = h }) q
unfolding flags_at then
flags-back u h a b p =
    let l = spells-left (code 1 u) (code 1 h) p in
    let r = spells-right (code 1 u) (code 1 h) p in
    rw (field_back 1 u l a, field_back 1 h r b)

output-back : {s : List ℕ} {at q : ℕ} (kinds : List ℕ) (k : ℕ) → length kinds ≤ 31 → k < length kinds
    → get_or kinds k 0 ≡ 1 → Spells s at q (code 5 k) → output_at s kinds at ≡ got k q
unfolding output_at then must
output-back kinds k few l e p =
    rw (field_back 5 k p (omega arith), lt-ltb k (length kinds) l, eq-eqb (get_or kinds k 0) 1 e)

argument-back : {s : List ℕ} {at q : ℕ} (n k : ℕ) → n ≤ 31 → k < n → Spells s at q (code 5 k)
    → argument_at s n at ≡ got k q
unfolding argument_at then must
argument-back n k few l p = rw (field_back 5 k p (omega arith), lt-ltb k n l)

arguments-back : {s : List ℕ} {at q : ℕ} (n : ℕ) (ks : List ℕ) → n ≤ 31 → length ks ≤ 8 → Every (λ k. k < n) ks
    → Spells s at q (code_many 4 (code 5) ks) → arguments_at s n at ≡ got ks q
unfolding arguments_at then must
arguments-back {s} n ks few short ok p =
    let l = spells-left (code 4 (length ks)) _ p in
    let r = spells-right (code 4 (length ks)) _ p in
    let m = many-back (code 5) (λ xs q. argument_at s n q) ks
    (λ before k after a b e. argument-back n k few (every-mid before k after (rw e at ok))) r in
    rw (field_back 4 (length ks) l (omega arith), le-leb (length ks) 8 short) m

-- A function, after the functions before it.
pub function-back : {s : List ℕ} {at q : ℕ} (kinds : List ℕ) (before : List Function) (f : Function)
    → length kinds ≤ 31 → FunctionOk kinds f → taken before f.name ≡ false → Spells s at q (code_function f)
    → function_at s kinds before at ≡ got f q
unfolding function_at code_function then
function-back kinds before f few o t p =
    let a = code_many 5 (code 8) f.name in
    let b = code_cost f.has_cost f.cost in
    let c = code 1 f.unextractable ++ code 1 f.hidden in
    let d = code 5 f.output in
    let p₁ = spells-right a _ p in
    let p₂ = spells-right b _ p₁ in
    let p₃ = spells-right c _ p₂ in
    rw (
      new-back before f.name o.named t (spells-left a _ p),
      cost-by f.has_cost f.cost o.flag o.none o.small (spells-left b _ p₁),
      flags-back f.unextractable f.hidden o.unextractable_bit o.hidden_bit (spells-left c _ p₂),
      output-back kinds f.output few o.known o.eq (spells-left d _ p₃),
      arguments-back (length kinds) f.arguments few o.few o.sorted (spells-right d _ p₃),
    )

pub functions-back : {s : List ℕ} {at q : ℕ} (kinds : List ℕ) (fs : List Function) → length kinds ≤ 31
    → Every (FunctionOk kinds) fs → Differ fs → Spells s at q (blocks code_function fs)
    → functions_at s kinds (length fs) at ≡ got fs q
unfolding functions_at
functions-back kinds fs few ok differ p =
    many-back code_function _ fs
    (λ before f after a b e.
    let d : Differ (before ++ (f ∷ after)) = subst Differ e differ in
    function-back kinds before f few (every-mid before f after (rw e at ok)) (new-mid before f after d))
    p
