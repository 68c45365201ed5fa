-- Laws of what a reader of a part promises. Assumes nothing.
use Prim.Native.Nat.{ℕ}
use mathlib.Core.List.{List}
use mathlib.Core.Path.{◌≡◌, refl, sym, ap, ◌∙◌}
use native.Mathlib.Omega.{arith}
use lib.ListN.{length}
use Rattle.std.specs.Prelude.{Result, Ok, Err}
use Rattle.std.specs.Result.{IsErrAnd}
use Rattle.refusal.specs.declared.Refusal.{Refusal}
use Rattle.bits.specs.Got.{Got, got, refused, then}
use Rattle.file_rules.specs.declared.Counted.{Counted}
use Rattle.file_rules.specs.Reading.{step_of, OnGot, Reads, part_of, Counts}

-- The exit of a `?` answers the refusal that it met.
pub exit-is : {T : Type 0} (r : Result T Refusal) {x : Refusal} → IsErrAnd r (λ y. y ≡ x) → r ≡ Err x
exit-is (Ok k) h = absurd h
exit-is (Err y) h = rw h

-- Something was read up to k, and P holds of it.
pub record Read-to {A : Type 0} (g : Got A) (k : ℕ) (P : A → Type 0) : Type 0 where
  pub what : A
  pub is : g ≡ got what k
  pub has : P what

not-by : {A : Type 0} (g : Got A) {x : Refusal} → Err x ≡ step_of g → g ≡ refused x
not-by (got a j) e = cc
not-by (refused y) e = cc

module _ {A : Type 0} {P : A → Type 0} where
  pub reads-got : {g : Got A} {a : A} {k : ℕ} → g ≡ got a k → P a → Reads g (Ok k) P
  unfolding OnGot
  reads-got e h = record { answer = rw e; filled = rw e h }

  pub reads-refused : {g : Got A} {x : Refusal} → g ≡ refused x → Reads g (Err x) P
  unfolding OnGot
  reads-refused e = record { answer = rw e; filled = rw e tt }

  -- At the exit of a `?`, which answers the refusal that it met.
  pub reads-exit : {g : Got A} (r : Result ℕ Refusal) {x : Refusal} → IsErrAnd r (λ y. y ≡ x) → g ≡ refused x
      → Reads g r P
  reads-exit r h e = rw (exit-is r h) (reads-refused e)

  done-by : (g : Got A) {k : ℕ} → Ok k ≡ step_of g → OnGot g P → Read-to g k P
  unfolding OnGot
  done-by (got a j) {k} e h =
      let d : k ≡ j = cc in
      record { what = a; is = rw d; has = h }
  done-by (refused x) e h =
      let z : ◌≡◌ {A = ℕ} 0 1 = cc in
      let n : ⊥ = omega arith in
      absurd n

  pub reads-done : {g : Got A} {r : Result ℕ Refusal} {k : ℕ} → Reads g r P → r ≡ Ok k → Read-to g k P
  reads-done {g} h e = done-by g (sym e ∙ h.answer) h.filled

  pub reads-not : {g : Got A} {r : Result ℕ Refusal} {x : Refusal} → Reads g r P → r ≡ Err x → g ≡ refused x
  reads-not {g} h e = not-by g (sym e ∙ h.answer)

weaken-by : {A : Type 0} {P Q : A → Type 0} (g : Got A) → OnGot g P → ((a : A) (k : ℕ) → g ≡ got a k → P a → Q a)
    → OnGot g Q
unfolding OnGot
weaken-by (got a k) h f = f a k refl h
weaken-by (refused r) h f = tt

-- What follows of what was read holds too.
pub reads-weaken : {A : Type 0} {P Q : A → Type 0} {g h : Got A} {r : Result ℕ Refusal} → g ≡ h → Reads g r P
    → ((a : A) (k : ℕ) → g ≡ got a k → P a → Q a) → Reads h r Q
reads-weaken {g} e p f = rw (← e) (record { answer = p.answer; filled = weaken-by g p.filled f })

via-by : {A B : Type 0} {P : A → Type 0} {Q : B → Type 0} (g : Got A) (f : A → B) {r : Result ℕ Refusal}
    → Reads g r P → ((a : A) (k : ℕ) → g ≡ got a k → P a → Q (f a)) → Reads (then g (λ a k. got (f a) k)) r Q
unfolding then OnGot
via-by (got a k) f p h = record { answer = p.answer; filled = h a k refl p.filled }
via-by (refused x) f p h = record { answer = p.answer; filled = tt }

-- What was read last is a part of the whole.
pub reads-via : {A B : Type 0} {P : A → Type 0} {Q : B → Type 0} {g : Got A} {h : Got B} (f : A → B)
    {r : Result ℕ Refusal} → h ≡ then g (λ a k. got (f a) k) → Reads g r P → ((a : A) (k : ℕ) → g ≡ got a k → P a → Q (f a)) → Reads h r Q
reads-via {g = g} f e p h = rw e (via-by g f p h)

-- Some things were read and counted, and P holds of them.
pub record Counted-as {A : Type 0} (g : Got (List A)) (c : Counted) (P : List A → Type 0) : Type 0 where
  pub what : List A
  pub is : g ≡ got what c.next
  pub size : length what ≡ c.count
  pub has : P what

part-not-by : {A : Type 0} (g : Got (List A)) {x : Refusal} → Err x ≡ part_of g → g ≡ refused x
part-not-by (got a j) e = cc
part-not-by (refused y) e = cc

module _ {A : Type 0} {P : List A → Type 0} where
  -- The reader of many things counts them.
  pub counts-of-done : {g : Got (List A)} {n k : ℕ} → Read-to g k P
      → (d : (xs : List A) (j : ℕ) → g ≡ got xs j → length xs ≡ n)
      → Counts g (Ok (record { count = n; next = k })) P
  unfolding OnGot
  counts-of-done {n = n} {k = k} r d =
      let m : length r.what ≡ n = d r.what k r.is in
      rw r.is (record { answer = rw m; filled = r.has })

  pub counts-got : {g : Got (List A)} {xs : List A} {n k : ℕ} → g ≡ got xs k → length xs ≡ n → P xs
      → Counts g (Ok (record { count = n; next = k })) P
  unfolding OnGot
  counts-got e m h = rw e (record { answer = rw m; filled = h })

  pub counts-refused : {g : Got (List A)} {x : Refusal} → g ≡ refused x → Counts g (Err x) P
  unfolding OnGot
  counts-refused e = rw e (record { answer = refl; filled = tt })

  pub counts-exit : {g : Got (List A)} (r : Result Counted Refusal) {x : Refusal} → IsErrAnd r (λ y. y ≡ x)
      → g ≡ refused x → Counts g r P
  counts-exit r h e = rw (exit-is r h) (counts-refused e)

  part_by : (g : Got (List A)) {c : Counted} → Ok c ≡ part_of g → OnGot g P → Counted-as g c P
  unfolding OnGot
  part_by (got xs j) {c} e h =
      let d : c ≡ record { count = length xs; next = j } = cc in
      record {
        what = xs;
        is = ap (λ (x : Counted). got xs x.next) (sym d);
        size = ap (λ (x : Counted). x.count) (sym d);
        has = h;
      }
  part_by (refused x) e h =
      let z : ◌≡◌ {A = ℕ} 0 1 = cc in
      let n : ⊥ = omega arith in
      absurd n

  pub counts-done : {g : Got (List A)} {r : Result Counted Refusal} {c : Counted} → Counts g r P → r ≡ Ok c
      → Counted-as g c P
  counts-done {g} h e = part_by g (sym e ∙ h.answer) h.filled

  pub counts-not : {g : Got (List A)} {r : Result Counted Refusal} {x : Refusal} → Counts g r P → r ≡ Err x
      → g ≡ refused x
  counts-not {g} h e = part-not-by g (sym e ∙ h.answer)
