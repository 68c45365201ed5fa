-- Laws of the table of names so far. Assumes nothing.
use Prim.Native.Nat.{ℕ, zero, suc, ◌+◌, ◌-◌, ◌≤◌, ◌<◌}
use mathlib.Core.Bool.{Bool, true, false, not, ◌||◌}
use mathlib.Core.List.{List, [], ◌++◌}
use mathlib.Core.Path.{◌≡◌, refl, ap, ◌∙◌, fun_ext}
use native.Mathlib.Omega.{arith}
use native.Mathlib.Numerals.{add-one}
use lib.ListN.{length, drop, replicate, drop_of_length-le}
use lib.Seq.{drop-cons}
use Rattle.refusal.specs.declared.Refusal.{Refusal}
use Rattle.refusal.specs.declared.Refusal.TheVariants.{DupName}
use Rattle.name.specs.Name.{same}
use Rattle.name.specs.Entries.{
  entry_width,
  entries_length,
  table_length,
  Entries,
  length_at,
  name_at as name_held,
  entry,
  find_from,
  find_name,
}
use Rattle.std.specs.Prelude.{Option, Some}
use Rattle.name.proofs.EntryLaws.{entry_length, length_at-of-entry, name_at-of-entry}
use Rattle.bits.specs.Got.{got, refused, then, must}
use Rattle.bits.proofs.GotLaws.{All, all-got, all-at, all_then, all-must}
use Rattle.file_rules.specs.Table.{Function}
use Rattle.file_rules.specs.Rows.{function_no}
use Rattle.file_rules.specs.Functions.{taken, name_at, new_name_at}
use Rattle.file_rules.specs.Arrays.{pad_with, blocks}
use Rattle.file_rules.proofs.FunctionLaws.{NameKept, name-kept}
use Rattle.file_rules.proofs.BlockLaws.{every_map, every_get, blocks-drop, blocks-length}
use Rattle.file_rules.proofs.ArraysLaws.{pad_with-length}
use Rattle.file_names.specs.Name.{HoldsNames, free_name_at, is_missing, is_free}

abbrev pub entry_of : Function → List ℕ
entry_of f = entry f.name

-- The entries from entry k on.
from-entry : {table : List ℕ} {i : ℕ} {fs : List Function} → HoldsNames table i fs → (k : ℕ) → k < i
    → (z : List ℕ) × (drop (entries_length k) table ≡ entry (function_no fs k).name ++ z)
unfolding pad_with
from-entry {table} {i} {fs} h k l =
    let o : k < length fs = omega (arith, h.count) in
    let long = every_map (λ (f : Function) (s : length f.name ≤ 31). entry_length f.name s) h.short in (
      blocks entry_of (drop (suc k) fs) ++ replicate (table_length - length (blocks entry_of fs)) 0,
      rw h.are (blocks-drop entry_of entry_width long k _ _ o),
    )

-- The length and the name that stand at entry k.
module _ {table : List ℕ} {i : ℕ} {fs : List Function} (h : HoldsNames table i fs) (k : ℕ) (l : k < i) where
  pub length-at : length_at table k ≡ length (function_no fs k).name
  length-at =
      let e = from-entry h k l in
      length_at-of-entry table (function_no fs k).name e.0 k e.1

  pub name-at : name_held table k ≡ (function_no fs k).name
  name-at =
      let e = from-entry h k l in
      name_at-of-entry table (function_no fs k).name e.0 k e.1

-- The table of at most 128 names has room for 128, and each entry in it is one.
module _ {table : List ℕ} {i : ℕ} {fs : List Function} (h : HoldsNames table i fs) (few : i ≤ 128) where
  pub names-length : length (blocks entry_of fs) ≡ entries_length i
  names-length =
      rw (← h.count)
      (blocks-length entry_of entry_width
      (every_map (λ (f : Function) (s : length f.name ≤ 31). entry_length f.name s) h.short))

  pub held-length : length table ≡ table_length
  held-length = rw h.are (pad_with-length 0 table_length (blocks entry_of fs) (omega (arith, names-length)))

  pub held-entries : Entries table i
  held-entries =
      record {
        long = omega (arith, held-length);
        short = λ k l. rw (length-at h k l) (every_get h.short k _ (omega (arith, h.count)));
      }

missing-by : (b : Bool) (k : ℕ) (f : Option ℕ) (t : Bool) → is_missing f ≡ not t
    → is_missing (elim b [ true ↦ Some k | false ↦ f ]) ≡ not (b || t)
unfolding is_missing
missing-by true k f t e = refl
missing-by false k f t e = e

missing-from : {table : List ℕ} {i : ℕ} {fs : List Function} → HoldsNames table i fs → (name : List ℕ) (n k : ℕ)
    → k + n ≡ i
    → is_missing (find_from table name k n) ≡ not (taken (drop k fs) name)
unfolding find_from taken is_missing
missing-from {fs = fs} h name zero k e =
    let z : length fs ≤ k = omega (arith, h.count) in
    rw (drop_of_length-le fs z)
missing-from {table} {i} {fs} h name (suc n) k e =
    let o : k < length fs = omega (arith, h.count) in
    let l : k < i = omega arith in
    let t : Bool = taken (drop (suc k) fs) name in
    rw (drop-cons fs k (function_no [] 0) o)
    (missing-by (same (name_held table k) name) k (find_from table name (k + 1) n) t
    (rw add-one (missing-from h name n (suc k) (omega arith)))
    ∙ ap (λ (x : List ℕ). not (same x name || t)) (name-at h k l))

-- A name is free in the table exactly when none of the functions has it.
pub free-when-new : {table : List ℕ} {i : ℕ} {fs : List Function} → HoldsNames table i fs → (name : List ℕ)
    → is_free table i name ≡ not (taken fs name)
unfolding is_free find_name
free-when-new {i = i} h name = missing-from h name i 0 (omega arith)

module _ (s table : List ℕ) (i at : ℕ) where
  pub free-refused : {r : Refusal} → name_at s at ≡ refused r → free_name_at s table i at ≡ refused r
  unfolding free_name_at then
  free-refused e = rw e

  module _ {name : List ℕ} {q : ℕ} (e : name_at s at ≡ got name q) where
    pub free-name : is_free table i name ≡ true → free_name_at s table i at ≡ got name q
    unfolding free_name_at then must
    free-name b = rw (e, b)

    pub free-taken : is_free table i name ≡ false → free_name_at s table i at ≡ refused DupName
    unfolding free_name_at then must
    free-taken b = rw (e, b)

  pub free-kept : All (NameKept at) (free_name_at s table i at)
  unfolding free_name_at
  free-kept = all_then (name_at s at) _ (λ name p e. all-must _ _ _ (λ _. all-got (all-at (rw e at (name-kept s at)))))

  -- A name that is free in the table of the functions is new to them.
  pub free-is-new : {fs : List Function} → HoldsNames table i fs → free_name_at s table i at ≡ new_name_at s fs at
  unfolding free_name_at new_name_at
  free-is-new {fs} h = ap (then (name_at s at)) (fun_ext (λ name. fun_ext (λ p. rw (free-when-new h name))))
