-- No newline stands in a line: names, literals and forms of them. Assumes nothing.
use mathlib.Core.Path.{◌≡◌, refl, sym, ◌∙◌}
use mathlib.Core.Bool.{Bool, true, false, ◌&&◌, ◌||◌, and-eq-true_iff}
use mathlib.Core.List.{List, [], ◌∷◌, ◌++◌}
use Prim.{Dec, yes, no}
use Prim.Native.Nat.{ℕ, zero, suc, ◌+◌, ◌/◌, ◌%◌, ◌<◌}
use native.Mathlib.Omega.{arith}
use native.Mathlib.Decide.{dec_lt}
use lib.ListN.{length, get_or}
use lib.Dec.{eqb, leb}
use lib.IntN.{ℤ, pos, negsuc}
use borrow.Author.Tests.{ne_eqb, lt-leb}
use Rattle.decimal.specs.Decimal.{digits, literal_text}
use Rattle.decimal.proofs.DigitLaws.{digits-one, digits_more}
use Rattle.name.specs.Name.{allowed, all_allowed}
use Rattle.term_rules.specs.Nodes.{Node, literal, variable, application}
use Rattle.text_rules.specs.Forms.{children, each, form}
use Rattle.text_rules.specs.LetText.{several, any_several, new_line, count_text}
use Rattle.text_rules.proofs.FormLaws.{each_none, each_step, form-of-application}
use Rattle.text_pieces.proofs.PieceLaws.{count_text-bare, count_text-digits}
use Rattle.text_pieces.specs.Readable.{head_text}

pub several-none : several [] ≡ false
unfolding several
several-none = refl

pub several-step : (b : ℕ) (bs : List ℕ) → (b ≡ 10 → ⊥) → several bs ≡ false → several (b ∷ bs) ≡ false
unfolding several
several-step b bs n e = rw (ne_eqb b 10 n) e

pub several-space : several (32 ∷ []) ≡ false
unfolding several
several-space = refl

several-end : several (41 ∷ []) ≡ false
unfolding several
several-end = refl

pub several-new_line : (k : ℕ) → several (new_line k) ≡ true
unfolding several new_line
several-new_line k = refl

or-false : (c x y : Bool) → (c || x) ≡ false → (x ≡ false → y ≡ false) → (c || y) ≡ false
or-false true x y e h = e
or-false false x y e h = h e

or-true : (c x : Bool) → x ≡ true → (c || x) ≡ true
or-true true x e = refl
or-true false x e = e

or-keeps : (c x y : Bool) → (c || x) ≡ true → (x ≡ true → y ≡ true) → (c || y) ≡ true
or-keeps true x y e h = refl
or-keeps false x y e h = h e

pub several-append : (a b : List ℕ) → several a ≡ false → several b ≡ false → several (a ++ b) ≡ false
unfolding several
several-append [] b p q = q
several-append (x ∷ a) b p q =
    or-false (eqb x 10) (several a) (several (a ++ b)) p (λ (h : several a ≡ false). several-append a b h q)

several-right : (a b : List ℕ) → several b ≡ true → several (a ++ b) ≡ true
unfolding several
several-right [] b e = e
several-right (x ∷ a) b e = or-true (eqb x 10) (several (a ++ b)) (several-right a b e)

several-left : (a b : List ℕ) → several a ≡ true → several (a ++ b) ≡ true
unfolding several
several-left [] b e = let z : ◌≡◌ {A = ℕ} 0 1 = cc in absurd (omega arith)
several-left (x ∷ a) b e = or-keeps (eqb x 10) (several a) (several (a ++ b)) e (several-left a b)

-- ---- names and numbers
allowed-not-newline : (b : ℕ) → allowed b ≡ true → b ≡ 10 → ⊥
unfolding allowed
allowed-not-newline b e n =
    let l : leb 33 b ≡ true = ((and-eq-true_iff (leb 33 b) _).0 e).0 in
    let f : leb 33 b ≡ false = lt-leb 33 b (omega arith) in
    let w : true ≡ false = sym l ∙ f in
    let z : ◌≡◌ {A = ℕ} 0 1 = cc in omega arith

pub several-of-allowed : (name : List ℕ) → all_allowed name ≡ true → several name ≡ false
unfolding all_allowed
several-of-allowed [] e = several-none
several-of-allowed (b ∷ bs) e =
    let both = (and-eq-true_iff (allowed b) (all_allowed bs)).0 e in
    several-step b bs (allowed-not-newline b both.0) (several-of-allowed bs both.1)

several-digits-in : (f x : ℕ) → x < f → several (digits x) ≡ false
several-digits-in zero x l = let z : ⊥ = omega arith in absurd z
several-digits-in (suc f) x l = by (several-digits-in f) (dec_lt x 10)
  where
    by : ((y : ℕ) → y < f → several (digits y) ≡ false) → Dec (x < 10) → several (digits x) ≡ false
    by ih (yes p) = rw (digits-one x p) (several-step (x + 48) [] (λ (e : x + 48 ≡ 10). omega arith) several-none)
    by ih (no p) =
        rw (digits_more x (omega arith))
        (several-append (digits (x / 10)) ((x % 10 + 48) ∷ []) (ih (x / 10) (omega arith))
        (several-step (x % 10 + 48) [] (λ (e : x % 10 + 48 ≡ 10). omega arith) several-none))

pub several-of-digits : (x : ℕ) → several (digits x) ≡ false
several-of-digits x = several-digits-in (suc x) x (omega arith)

pub several-of-literal : (z : ℤ) → several (literal_text z) ≡ false
unfolding literal_text
several-of-literal (pos n) = several-of-digits n
several-of-literal (negsuc n) =
    several-step 45 (digits (suc n)) (λ (e : 45 ≡ 10). omega arith) (several-of-digits (suc n))

pub several-of-count : (b : Bool) (n : ℕ) → several (count_text b n) ≡ false
several-of-count b n = by (b && eqb n 0) refl
  where
    by : (c : Bool) → (b && eqb n 0) ≡ c → several (count_text b n) ≡ false
    by true e = rw (count_text-bare b n e) several-none
    by false e = rw (count_text-digits b n e) (several-of-digits n)

-- ---- forms
each-clean :
    (gap : List ℕ) (g : ℕ → List ℕ) (ks : List ℕ) →
    several gap ≡ false →
    ((j : ℕ) → j < length ks → several (g (get_or ks j 0)) ≡ false) →
    several (each gap g ks) ≡ false
each-clean gap g [] c e = rw (each_none gap g) several-none
each-clean gap g (k ∷ ks) c e =
    rw (each_step gap g k ks)
    (several-append gap (g k ++ each gap g ks) c
    (several-append (g k) (each gap g ks) (e 0 (omega arith))
    (each-clean gap g ks c (λ j l. e (suc j) (omega arith)))))

pub form-clean :
    (gap : List ℕ) (g : ℕ → List ℕ) (x : Node) →
    several (head_text x) ≡ false →
    several gap ≡ false →
    ((j : ℕ) → j < length (children x) → several (g (get_or (children x) j 0)) ≡ false) →
    several (form gap g x) ≡ false
unfolding form
form-clean gap g (literal z) h c e = h
form-clean gap g (variable n) h c e = h
form-clean gap g (application n ks) h c e =
    several-append (40 ∷ n) (each gap g ks ++ (41 ∷ [])) h
    (several-append (each gap g ks) (41 ∷ []) (each-clean gap g ks c e) several-end)

-- a broken form has several lines
pub form-broken :
    (gap : List ℕ) (g : ℕ → List ℕ) (x : Node) →
    0 < length (children x) →
    several gap ≡ true →
    several (form gap g x) ≡ true
form-broken gap g (literal z) l e = let z : ⊥ = omega arith in absurd z
form-broken gap g (variable n) l e = let z : ⊥ = omega arith in absurd z
form-broken gap g (application n []) l e = let z : ⊥ = omega arith in absurd z
form-broken gap g (application n (k ∷ ks)) l e =
    rw (form-of-application gap g n (k ∷ ks))
    (several-right (40 ∷ n) (each gap g (k ∷ ks) ++ (41 ∷ []))
    (several-left (each gap g (k ∷ ks)) (41 ∷ [])
    (rw (each_step gap g k ks) (several-left gap (g k ++ each gap g ks) e))))

pub any_none :
    (g : ℕ → List ℕ) (ks : List ℕ) →
    ((j : ℕ) → j < length ks → several (g (get_or ks j 0)) ≡ false) →
    any_several g ks ≡ false
unfolding any_several
any_none g [] e = refl
any_none g (k ∷ ks) e = rw (e 0 (omega arith)) (any_none g ks (λ j l. e (suc j) (omega arith)))
