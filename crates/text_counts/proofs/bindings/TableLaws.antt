-- The laws of the tables of bindings, and the loop over a term's children. Assumes nothing.
use mathlib.Core.Path.{◌≡◌, refl, sym, ap, subst, ◌∙◌}
use mathlib.Core.Bool.{Bool}
use mathlib.Core.List.{List, [], ◌∷◌, ◌++◌}
use Prim.{Dec, yes, no}
use Prim.Native.Nat.{ℕ, zero, suc, ◌+◌, ◌<◌, ◌≤◌}
use native.Mathlib.Omega.{arith}
use native.Mathlib.Numerals.{add-one}
use native.Mathlib.Decide.{ℕ_discrete}
use lib.ListN.{length, get_or, set, drop, length-set, length-append, drop_of_length-le}
use lib.Seq.{drop-cons, get_or-set_same, get_or-set_other}
use borrow.Author.Tests.{eq-eqb, ne_eqb}
use Rattle.text_rules.specs.Counts.{in_turn}
use Rattle.text_rules.specs.Bindings.{Bound, nowhere, find}
use Rattle.text_pieces.specs.Readable.{Inside}
use Rattle.text_counts.specs.Met.{bounds, place_no, zeros, Met, met_at}
use Rattle.text_counts.specs.Loans.{SameLengths}
use Rattle.text_counts.specs.Long.{Long}
use Rattle.text_counts.specs.declared.bindings.Found.{Found}
use Rattle.text_counts.proofs.bindings.FindLaws.{one, find-last, find-other}
use Rattle.text_counts.proofs.bindings.MeetLaws.{turn_step, turn-none, met-above}

-- Tables that are 1,024 long and keep their lengths are so after.
pub long-kept : (a b : Found) → SameLengths a b → Long a → Long b
long-kept a b s l = (s.places ∙ l.0, (s.terms ∙ l.1.0, s.indents ∙ l.1.1))

pub bounds-step :
    (terms indents : List ℕ) (m : ℕ) →
    bounds terms indents (suc m) ≡ bounds terms indents m ++ one (get_or terms m 0) (get_or indents m 0)
unfolding bounds
bounds-step terms indents m = refl

pub bounds-none : (terms indents : List ℕ) → bounds terms indents 0 ≡ []
unfolding bounds
bounds-none terms indents = refl

pub bounds-length : (terms indents : List ℕ) (m : ℕ) → length (bounds terms indents m) ≡ m
bounds-length terms indents zero = ap length (bounds-none terms indents)
bounds-length terms indents (suc m) =
    rw (bounds-step, length-append) (rw (bounds-length terms indents m) (omega arith))

bounds-set :
    (terms indents : List ℕ) (m b t i : ℕ) →
    m ≤ b →
    bounds (set terms b t) (set indents b i) m ≡ bounds terms indents m
bounds-set terms indents zero b t i l =
    bounds-none (set terms b t) (set indents b i) ∙ sym (bounds-none terms indents)
bounds-set terms indents (suc m) b t i l =
    rw (
      bounds-step (set terms b t) (set indents b i) m,
      bounds-step terms indents m,
      bounds-set terms indents m b t i (omega arith),
      get_or-set_other terms b m t 0 (λ (q : m ≡ b). omega arith),
      get_or-set_other indents b m i 0 (λ (q : m ≡ b). omega arith),
    )

bounds-push :
    (terms indents : List ℕ) (m t i : ℕ) →
    m < length terms →
    length indents ≡ length terms →
    bounds (set terms m t) (set indents m i) (m + 1) ≡ bounds terms indents m ++ one t i
bounds-push terms indents m t i l e =
    rw (
      add-one,
      bounds-step (set terms m t) (set indents m i) m,
      bounds-set terms indents m m t i (omega arith),
      get_or-set_same terms m t 0 l,
      get_or-set_same indents m i 0 (omega arith),
    )

-- ---- room
zeros-none : (x : ℕ) (xs : List ℕ) → x ≡ 0 → zeros (x ∷ xs) ≡ suc (zeros xs)
unfolding zeros
zeros-none x xs e = rw (eq-eqb x 0 e, zeros)

zeros-some : (x : ℕ) (xs : List ℕ) → (x ≡ 0 → ⊥) → zeros (x ∷ xs) ≡ zeros xs
unfolding zeros
zeros-some x xs e = rw (ne_eqb x 0 e, zeros)

zeros-set : (xs : List ℕ) (t v : ℕ) → t < length xs → get_or xs t 0 ≡ 0 → zeros xs ≡ suc (zeros (set xs t (suc v)))
zeros-set [] t v l e = let z : ⊥ = omega arith in absurd z
zeros-set (x ∷ xs) zero v l e =
    zeros-none x xs e ∙ ap suc (sym (zeros-some (suc v) xs (λ (q : suc v ≡ 0). omega arith)))
zeros-set (x ∷ xs) (suc t) v l e = by (zeros-set xs t v (omega arith) e) (ℕ_discrete x 0)
  where
    by : zeros xs ≡ suc (zeros (set xs t (suc v))) → Dec (x ≡ 0) → zeros (x ∷ xs) ≡ suc (zeros (x ∷ set xs t (suc v)))
    by ih (yes q) = zeros-none x xs q ∙ (ap suc ih ∙ ap suc (sym (zeros-none x (set xs t (suc v)) q)))
    by ih (no q) = zeros-some x xs q ∙ (ih ∙ ap suc (sym (zeros-some x (set xs t (suc v)) q)))

pub zeros-length : (xs : List ℕ) → zeros xs ≤ length xs
unfolding zeros
zeros-length [] = omega arith
zeros-length (x ∷ xs) = by (zeros-length xs) (ℕ_discrete x 0)
  where
    by : zeros xs ≤ length xs → Dec (x ≡ 0) → zeros (x ∷ xs) ≤ length (x ∷ xs)
    by ih (yes q) = omega (arith, zeros-none x xs q)
    by ih (no q) = omega (arith, zeros-some x xs q)

-- ---- a term is bound
module _ (places terms indents : List ℕ) (m t i : ℕ) (v : Met places terms indents m) (l : t < length places)
    (new : find t 0 (bounds terms indents m) ≡ nowhere) where
  pub bound-room : m < length terms
  bound-room = omega (arith, v.free, zeros-set places t 0 l (v.right t l ∙ ap place_no new))

  pub bounds-more : bounds (set terms m t) (set indents m i) (m + 1) ≡ bounds terms indents m ++ one t i
  bounds-more = bounds-push terms indents m t i bound-room v.long

  right_by :
      (u : ℕ) →
      u < length places →
      Dec (u ≡ t) →
      get_or (set places t (m + 1)) u 0 ≡ place_no (find u 0 (bounds terms indents m ++ one t i))
  right_by u lu (yes q) =
      let w : m + 1 ≡ suc (0 + length (bounds terms indents m)) = omega (arith, bounds-length terms indents m) in
      subst
      (λ (x : ℕ). get_or (set places t (m + 1)) x 0 ≡ place_no (find x 0 (bounds terms indents m ++ one t i))) (sym q)
      (get_or-set_same places t (m + 1) 0 l ∙ (w ∙ sym (ap place_no (find-last t i 0 (bounds terms indents m) new))))
  right_by u lu (no q) =
      get_or-set_other places t u (m + 1) 0 q
      ∙ (v.right u lu
      ∙ sym (ap place_no (find-other u t i 0 (bounds terms indents m) (λ (w : t ≡ u). q (sym w)))))

  pub met-more : Met (set places t (m + 1)) (set terms m t) (set indents m i) (m + 1)
  met-more =
      let z : get_or places t 0 ≡ 0 = v.right t l ∙ ap place_no new in
      let s : m + 1 ≡ suc m = add-one m in
      record {
        right = λ u lu.
            rw bounds-more
            (right_by u (subst (λ (x : ℕ). u < x) (length-set places t (m + 1)) lu) (ℕ_discrete u t));
        free = rw (length-set terms m t, s) (omega (arith, v.free, zeros-set places t m l z));
        long = length-set indents m i ∙ (v.long ∙ sym (length-set terms m t));
      }

-- ---- the loop over the children: those passed have been met
pub record Turning (kids : ℕ → List ℕ) (wanted : ℕ → Bool) (i t : ℕ) (ks places₀ terms₀ indents₀ : List ℕ) (m : ℕ)
    (places terms indents : List ℕ) (b j : ℕ) : Type 0 where
  pub at : j ≤ length ks
  pub places_long : length places ≡ length places₀
  pub terms_long : length terms ≡ length terms₀
  pub indents_long : length indents ≡ length indents₀
  pub met : Met places terms indents b
  pub out : find t 0 (bounds terms indents b) ≡ nowhere
  pub same :
      in_turn (met_at kids wanted (i + 2)) (drop j ks) (bounds terms indents b)
      ≡ in_turn (met_at kids wanted (i + 2)) ks (bounds terms₀ indents₀ m)

module _ (kids : ℕ → List ℕ) (wanted : ℕ → Bool) (n : ℕ) (lower : (t : ℕ) → t < n → Inside t (kids t)) (i t : ℕ)
    (ks places₀ terms₀ indents₀ : List ℕ) (m : ℕ) (places terms indents : List ℕ) (b j : ℕ)
    (v : Turning kids wanted i t ks places₀ terms₀ indents₀ m places terms indents b j) where
  pub turning-again :
      (places' terms' indents' : List ℕ) (b' : ℕ) →
      j < length ks →
      get_or ks j 0 < t →
      t < n →
      length places' ≡ length places →
      length terms' ≡ length terms →
      length indents' ≡ length indents →
      Met places' terms' indents' b' →
      bounds terms' indents' b' ≡ met_at kids wanted (i + 2) (get_or ks j 0) (bounds terms indents b) →
      Turning kids wanted i t ks places₀ terms₀ indents₀ m places' terms' indents' b' (j + 1)
  turning-again places' terms' indents' b' l low known lp lt li w e = record {
    at = omega arith;
    places_long = lp ∙ v.places_long;
    terms_long = lt ∙ v.terms_long;
    indents_long = li ∙ v.indents_long;
    met = w;
    out =
        subst (λ (x : List Bound). find t 0 x ≡ nowhere) (sym e)
        (met-above kids wanted n lower t (i + 2) (get_or ks j 0) (bounds terms indents b) (omega arith) low v.out);
    same =
        subst
        (λ (x : List Bound).
        in_turn (met_at kids wanted (i + 2)) (drop (j + 1) ks) x
        ≡ in_turn (met_at kids wanted (i + 2)) ks (bounds terms₀ indents₀ m)) (sym e)
        (rw add-one
        (sym (turn_step (met_at kids wanted (i + 2)) (get_or ks j 0) (drop (suc j) ks) (bounds terms indents b))
        ∙ rw (← drop-cons ks j 0 l) v.same));
  }

  pub turning-end :
      length ks ≤ j → bounds terms indents b ≡ in_turn (met_at kids wanted (i + 2)) ks (bounds terms₀ indents₀ m)
  turning-end l =
      sym (turn-none (met_at kids wanted (i + 2)) (bounds terms indents b))
      ∙ rw (drop_of_length-le ks l) at v.same
