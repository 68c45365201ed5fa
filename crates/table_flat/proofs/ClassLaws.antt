-- Laws of flat class numbers: a class is never keyed without its sort. Assumes nothing.
use Prim.Native.Nat.{ℕ, zero, suc, ◌+◌, ◌-◌, ◌≤◌, ◌<◌}
use mathlib.Core.Path.{◌≡◌, refl, ap, ◌∙◌}
use mathlib.Core.List.{List, [], ◌∷◌}
use native.Mathlib.Omega.{arith}
use native.Mathlib.Decide.{ℕ_discrete, dec_lt}
use native.Mathlib.Numerals.{add-one}
use lib.ListN.{length, get_or, set}
use lib.Seq.{get_or-set_same, get_or-set_other}
use Rattle.table_flat.specs.Classes.{total, first_class, Bases}

pub first_class-next : (classes : List ℕ) (s : ℕ) → first_class classes
    (suc s) ≡ first_class classes s + get_or classes s 0
unfolding total
first_class-next [] zero = refl
first_class-next [] (suc s) = refl
first_class-next (x ∷ xs) zero = omega arith
first_class-next (x ∷ xs) (suc s) = omega (arith, first_class-next xs s)

pub first_class-mono : (classes : List ℕ) (s d : ℕ) → first_class classes s ≤ first_class classes (s + d)
first_class-mono classes s zero = let e : s + 0 ≡ s = omega arith in rw e (omega arith)
first_class-mono classes s (suc d) =
    let e : s + suc d ≡ suc (s + d) = omega arith in
    rw e (omega (arith, first_class-next classes (s + d), first_class-mono classes s d))

module _ (classes : List ℕ) where
  pub first_class-most : (s u : ℕ) → s ≤ u → first_class classes s ≤ first_class classes u
  first_class-most s u h =
      let e : s + (u - s) ≡ u = omega arith in
      rw e at (first_class-mono classes s (u - s))

  -- The numbers of a sort end before those of each later one begin.
  pub flat-before : (s u v : ℕ) → s < u → v < get_or classes s 0 → first_class classes s + v < first_class classes u
  flat-before s u v h l = omega (arith, first_class-next classes s, first_class-most (suc s) u h)

  -- Different pairs of a sort and a value have different numbers.
  pub flat-unique :
      (s u v w : ℕ) →
      v < get_or classes s 0 →
      w < get_or classes u 0 →
      first_class classes s + v ≡ first_class classes u + w →
      (s ≡ u) × (v ≡ w)
  flat-unique s u v w l m e = go (ℕ_discrete s u) (dec_lt s u)
    where
      go : Dec (s ≡ u) → Dec (s < u) → (s ≡ u) × (v ≡ w)
      go (yes d) t = (
        d,
        (let g : first_class classes s ≡ first_class classes u = ap
            (first_class classes) d in omega arith),
      )
      go (no d) (yes t) = absurd (omega (arith, flat-before s u v t l))
      go (no d) (no t) =
          let h : u < s = omega arith in
          absurd (omega (arith, flat-before u s w h m))

-- The loop that numbers the sorts.
pub record Numbering (n : ℕ) (classes bases : List ℕ) (sum s : ℕ) : Type 0 where
  pub at : s ≤ n
  pub is : sum ≡ first_class classes s
  pub done : Bases s classes bases

module _ (n : ℕ) (classes bases : List ℕ) where
  pub numbering_start : Numbering n classes bases 0 0
  unfolding total
  numbering_start = record { at = omega arith; is = refl; done = λ s h. absurd (omega arith) }

  module _ (sum s : ℕ) (v : Numbering n classes bases sum s) where
    pub numbering-room : s < n → first_class classes n ≤ 512 → sum + get_or classes s 0 ≤ 512
    numbering-room h few =
        omega (arith, v.is, first_class-next classes s, first_class-most classes (suc s) n h)

    pub numbering-step :
        s < n → s < length bases → Numbering n classes (set bases s sum) (sum + get_or classes s 0) (s + 1)
    numbering-step h l = record {
      at = omega arith;
      is = rw add-one (omega (arith, v.is, first_class-next classes s));
      done = λ u k. go u k (ℕ_discrete u s);
    }
      where
        go : (u : ℕ) → u < s + 1 → Dec (u ≡ s) → get_or (set bases s sum) u 0 ≡ first_class classes u
        go u k (yes d) = rw (d, get_or-set_same bases s sum 0 l) v.is
        go u k (no d) = get_or-set_other bases s u sum 0 d ∙ v.done u (omega arith)

    pub numbering-end : n ≤ s → (sum ≡ first_class classes n) × Bases n classes bases
    numbering-end h =
        let e : s ≡ n = omega (arith, v.at) in
        (rw e at v.is, λ u k. v.done u (omega arith))
