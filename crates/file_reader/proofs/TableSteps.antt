-- Laws of the reading of a whole file, one for each way that it goes. Assumes nothing.
use Prim.Native.Nat.{ℕ, ◌+◌, ◌≤◌}
use mathlib.Core.List.{List}
use mathlib.Core.Path.{◌≡◌, refl, sym, ap, ◌∙◌, fun_ext}
use native.Mathlib.Omega.{arith}
use lib.IntN.{ℤ}
use lib.ListN.{length, take, length-map}
use lib.Dec.{leb}
use lib.Seq.{take_at}
use Rattle.std.specs.Prelude.{Result, Ok, Err}
use Rattle.std.specs.Result.{IsErrAnd}
use Rattle.refusal.specs.declared.Refusal.{Refusal}
use Rattle.refusal.specs.declared.Refusal.TheVariants.{BadSize}
use Rattle.bits.specs.Got.{Got, got, refused, then, must}
use Rattle.bits.specs.Field.{field}
use Rattle.bits.proofs.GotLaws.{all-at}
use Rattle.file_rules.specs.declared.Counts.{Counts}
use Rattle.file_rules.specs.Table.{Sort, Function, Row, Table}
use Rattle.file_rules.specs.Every.{Every}
use Rattle.file_rules.specs.Sorts.{kinds_of}
use Rattle.file_rules.specs.Reading.{OnGot}
use Rattle.file_rules.specs.File.{version_at, sorts_part, literals_part, functions_part, rows_part, end_at, table_at}
use Rattle.file_rules.specs.Arrays.{pad_with, HoldsSorts, HoldsFunctions}
use Rattle.file_rules.proofs.ReadingLaws.{exit-is, Read-to}
use Rattle.file_rules.proofs.ArraysLaws.{pad_with-length}
use Rattle.file_rules.proofs.TableLaws.{version-end, sorts-in, literals-in, FunctionsIn, functions-in}
use Rattle.file_rows.proofs.InLaws.{rows_are}
use Rattle.file_reader.specs.Parts.{rows_part_in, tail_in}
use Rattle.file_reader.specs.Outcome.{Answers}

-- The rows and the end of the file.
module _ (s kinds classes : List ℕ) (l count : ℕ) (outputs arities arguments : List ℕ) (at : ℕ) where
  pub tail-stops : {x : Refusal} → rows_part_in s kinds classes l count outputs arities arguments at ≡ refused x
      → tail_in s kinds classes l count outputs arities arguments at ≡ refused x
  unfolding tail_in then
  tail-stops e = rw e

  module _ {rows : List Row} {p : ℕ}
      (e : rows_part_in s kinds classes l count outputs arities arguments at ≡ got rows p) where
    pub tail-cut : {x : Refusal} → end_at s p ≡ refused x
        → tail_in s kinds classes l count outputs arities arguments at ≡ refused x
    unfolding tail_in then
    tail-cut d = rw (e, d)

    pub tail-ends : {v q : ℕ} → end_at s p ≡ got v q
        → tail_in s kinds classes l count outputs arities arguments at ≡ got rows q
    unfolding tail_in then
    tail-ends d = rw (e, d)

-- The rows and the end, after the definition.
unfoldable tail_at : List ℕ → List Sort → ℕ → List Function → ℕ → Got (List Row)
tail_at s sorts l functions at =
    then (rows_part s sorts l functions at) (λ rows p. then (end_at s p) (λ end q. got rows q))

-- The two are the same where the arrays hold the sorts and the functions.
tail-is : (s : List ℕ) {kinds classes : List ℕ} {sorts : List Sort} → HoldsSorts kinds classes sorts
    → {names declared costs unextractable hidden outputs arities arguments : List ℕ} {fs : List Function}
    → HoldsFunctions names declared costs unextractable hidden outputs arities arguments fs
    → Every (λ (f : Function). length f.arguments ≤ 8) fs → (l at : ℕ)
    → tail_in s kinds classes l (length fs) outputs arities arguments at ≡ tail_at s sorts l fs at
unfolding tail_in tail_at rows_part_in rows_part
tail-is s o h tight l at =
    ap (λ (g : Got (List Row)). then g (λ rows p. then (end_at s p) (λ end q. got rows q)))
    (ap (then (field s at 11))
    (fun_ext (λ n. fun_ext (λ p. ap (must (leb n 1024) BadSize) (rows_are s o h tight l n p)))))

join-end : (g : Got ℕ) (t : Table) (rows : List Row) (f : List Row → Table) → f rows ≡ t
    → then g (λ end q. got t q) ≡ then (then g (λ end q. got rows q)) (λ rows q. got (f rows) q)
unfolding then
join-end (got v q) t rows f e = rw e
join-end (refused x) t rows f e = refl

join : (g : Got (List Row)) (e : ℕ → Got ℕ) (f : List Row → Table)
    → then g (λ rows p. then (e p) (λ end q. got (f rows) q)) ≡ then
    (then g (λ rows p. then (e p) (λ end q. got rows q))) (λ rows q. got (f rows) q)
unfolding then
join (got rows p) e f = join-end (e p) (f rows) rows f refl
join (refused x) e f = refl

-- The kinds of the sorts stand at the front of their array.
pub take-kinds : {kinds classes : List ℕ} {sorts : List Sort} {n : ℕ} → HoldsSorts kinds classes sorts
    → length sorts ≡ n
    → take n kinds ≡ kinds_of sorts
unfolding pad_with
take-kinds {sorts = sorts} {n = n} h e =
    rw h.kinds_are (take_at (kinds_of sorts) _ n (length-map sorts (λ (x : Sort). x.kind) ∙ e))

module _ (s : List ℕ) where
  pub table-stops-1 : {x : Refusal} → version_at s 0 ≡ refused x → table_at s ≡ refused x
  unfolding table_at then
  table-stops-1 e = rw e

  module _ {v a : ℕ} (e₁ : version_at s 0 ≡ got v a) where
    pub table-stops-2 : {x : Refusal} → sorts_part s a ≡ refused x → table_at s ≡ refused x
    unfolding table_at then
    table-stops-2 e = rw (e₁, e)

    module _ {sorts : List Sort} {b : ℕ} (e₂ : sorts_part s a ≡ got sorts b) where
      pub table-stops-3 : {x : Refusal} → literals_part s b ≡ refused x → table_at s ≡ refused x
      unfolding table_at then
      table-stops-3 e = rw (e₁, e₂, e)

      module _ {literals : List ℤ} {c : ℕ} (e₃ : literals_part s b ≡ got literals c) where
        pub table-stops-4 : {x : Refusal} → functions_part s (kinds_of sorts) c ≡ refused x → table_at s ≡ refused x
        unfolding table_at then
        table-stops-4 e = rw (e₁, e₂, e₃, e)

        module _ {functions : List Function} {d : ℕ} (e₄ : functions_part s (kinds_of sorts) c ≡ got functions d) where
          table-from : table_at s
              ≡ then (tail_at s sorts (length literals) functions d)
              (λ rows q. got (record { sorts = sorts; literals = literals; functions = functions; rows = rows }) q)
          unfolding table_at tail_at then
          table-from =
              rw (e₁, e₂, e₃, e₄)
              (join (rows_part s sorts (length literals) functions d) (end_at s)
              (λ (rows : List Row). record { sorts = sorts; literals = literals; functions = functions; rows = rows }))

          -- The arrays hold the sorts and the functions, and the counts are theirs.
          module _ {kinds classes : List ℕ} (o : HoldsSorts kinds classes sorts)
              {names declared costs unextractable hidden outputs arities arguments : List ℕ}
              (h : HoldsFunctions names declared costs unextractable hidden outputs arities arguments functions)
              (tight : Every (λ (f : Function). length f.arguments ≤ 8) functions) {l count : ℕ}
              (m : length literals ≡ l) (n : length functions ≡ count) where
            tail-was : tail_in s kinds classes l count outputs arities arguments d ≡ tail_at s sorts
                (length literals) functions d
            tail-was = rw (← m, ← n) (tail-is s o h tight (length literals) d)

            pub table-stops-5 : {x : Refusal} → tail_in s kinds classes l count outputs arities arguments d ≡ refused x
                → table_at s ≡ refused x
            unfolding then
            table-stops-5 e = table-from ∙ rw (← tail-was, e)

            pub table-ends : {rows : List Row} {q : ℕ}
                → tail_in s kinds classes l count outputs arities arguments d ≡ got rows q
                → table_at s ≡ got (record { sorts = sorts; literals = literals; functions = functions; rows = rows }) q
            unfolding then
            table-ends e = table-from ∙ rw (← tail-was, e)

module _ {P : Table → Type 0} where
  pub answers-got : {g : Got Table} {t : Table} {k n l m r : ℕ} → g ≡ got t k → length t.sorts ≡ n
      → length t.literals ≡ l
      → length t.functions ≡ m → length t.rows ≡ r → P t
      → Answers g (Ok (record { sorts = n; literals = l; functions = m; rows = r })) P
  unfolding OnGot
  answers-got e a b c d h = rw e (record { answer = rw (a, b, c, d); filled = h })

  pub answers-refused : {g : Got Table} {x : Refusal} → g ≡ refused x → Answers g (Err x) P
  unfolding OnGot
  answers-refused e = rw e (record { answer = refl; filled = tt })

  pub answers-exit : {g : Got Table} (r : Result Counts Refusal) {x : Refusal} → IsErrAnd r (λ y. y ≡ x) → g ≡ refused x
      → Answers g r P
  answers-exit r h e = rw (exit-is r h) (answers-refused e)

-- Where the parts end.
pub version-near : (s : List ℕ) {a : ℕ} {P : ℕ → Type 0} → Read-to (version_at s 0) a P → a ≡ 4
version-near s {a} r =
    let e : a ≡ 0 + 4 = all-at (rw r.is at (version-end s 0)) in
    omega arith

pub sorts-near : (s : List ℕ) (at : ℕ) {sorts : List Sort} {q : ℕ} → sorts_part s at ≡ got sorts q
    → (length sorts ≤ 31) × (q ≤ at + 346)
sorts-near s at e =
    let k = all-at (rw e at (sorts-in s at)) in
    (k.count, k.near)

pub literals-near : (s : List ℕ) (at : ℕ) {literals : List ℤ} {q : ℕ} → literals_part s at ≡ got literals q
    → q ≤ at + 32713
literals-near s at e = (all-at (rw e at (literals-in s at))).near

pub functions-near : (s kinds : List ℕ) (at : ℕ) {fs : List Function} {q : ℕ} → functions_part s kinds at ≡ got fs q
    → FunctionsIn kinds at fs q
functions-near s kinds at e = all-at (rw e at (functions-in s kinds at))

-- The array of kinds is 32 long.
pub kinds-length : {kinds classes : List ℕ} {sorts : List Sort} → HoldsSorts kinds classes sorts → length sorts ≤ 31
    → length kinds ≡ 32
kinds-length {sorts = sorts} h b =
    let n : length (kinds_of sorts) ≡ length sorts = length-map sorts (λ (x : Sort). x.kind) in
    rw h.kinds_are (pad_with-length 0 32 (kinds_of sorts) (omega arith))

pub kinds-few : (sorts : List Sort) → length sorts ≤ 31 → length (kinds_of sorts) ≤ 31
kinds-few sorts b =
    let n : length (kinds_of sorts) ≡ length sorts = length-map sorts (λ (x : Sort). x.kind) in
    omega arith

-- Functions over the same kinds.
pub functions-over : (s : List ℕ) (at : ℕ) {xs ys : List ℕ} {g : Got (List Function)} → xs ≡ ys
    → functions_part s xs at ≡ g → functions_part s ys at ≡ g
functions-over s at e d = sym (ap (λ (k : List ℕ). functions_part s k at) e) ∙ d
