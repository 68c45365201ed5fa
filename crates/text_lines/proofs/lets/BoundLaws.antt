-- What holds of every binding: its term is known, and its indent is bounded by its depth. Assumes nothing.
use mathlib.Core.Path.{◌≡◌, refl, sym, subst, ◌∙◌}
use mathlib.Core.Bool.{Bool, true, false}
use mathlib.Core.List.{List, [], ◌∷◌, ◌++◌}
use Prim.{Dec, yes, no}
use Prim.Native.Nat.{ℕ, zero, suc, ◌+◌, ◌*◌, ◌-◌, ◌^◌, ◌<◌, ◌≤◌}
use native.Mathlib.Omega.{arith}
use native.Mathlib.Decide.{ℕ_discrete}
use lib.ListN.{length, get_or}
use Rattle.text_rules.specs.Counts.{in_turn}
use Rattle.text_rules.specs.Bindings.{Bound, Place, nowhere, place, find, to_bind, bind, meet_in, bindings}
use Rattle.term_rules.specs.Lent.{kids_at}
use Rattle.text_pieces.specs.Readable.{Inside}
use Rattle.text_counts.specs.Tallies.{Linked}
use Rattle.text_counts.specs.Met.{bounds, place_no, Met, AllMet}
use Rattle.text_counts.proofs.bindings.FindLaws.{find-hit, find-miss, find_none}
use Rattle.text_counts.proofs.bindings.MeetLaws.{turn-keeps, bind-no, bind-yes, whether, meet_in-step}
use Rattle.text_counts.proofs.bindings.TableLaws.{bounds-step, bounds-length}
use Rattle.text_lines.specs.Lines.{Bundle}

unfoldable All : (Bound → Type 0) → List Bound → Type 0
All P [] = Unit
All P (b ∷ bs) = P b × All P bs

all_none : (P : Bound → Type 0) → All P []
unfolding All
all_none P = tt

all_more : (P : Bound → Type 0) (bs : List Bound) (b : Bound) → All P bs → P b → All P (bs ++ (b ∷ []))
unfolding All
all_more P [] b a p = (p, tt)
all_more P (c ∷ bs) b a p = (a.0, all_more P bs b a.1 p)

all_split : (P : Bound → Type 0) (bs : List Bound) (b : Bound) → All P (bs ++ (b ∷ [])) → All P bs × P b
unfolding All
all_split P [] b a = (tt, a.0)
all_split P (c ∷ bs) b a = let r = all_split P bs b a.1 in ((a.0, r.0), r.1)

-- a known term, at an indent that its depth allows
record Fine (n top : ℕ) (b : Bound) : Type 0 where
  known : b.term < n
  deep : b.indent + 2 * b.term ≤ top

module _ (kids : ℕ → List ℕ) (wanted : ℕ → Bool) (n top : ℕ) (lower : (t : ℕ) → t < n → Inside t (kids t)) where
  bind-fine :
      (b : Bool) (t i : ℕ) (bs : List Bound) →
      t < n →
      i + 2 * t ≤ top →
      All (Fine n top) bs →
      All (Fine n top) (bind b t i bs)
  bind-fine true t i bs k l a =
      subst (All (Fine n top)) (sym (bind-yes t i bs)) (all_more (Fine n top) bs _ a (record { known = k; deep = l }))
  bind-fine false t i bs k l a = subst (All (Fine n top)) (sym (bind-no t i bs)) a

  whether-fine :
      (p : Place) (bs cs : List Bound) →
      All (Fine n top) bs →
      All (Fine n top) cs →
      All (Fine n top) (whether p bs cs)
  whether-fine (place q) bs cs a c = a
  whether-fine nowhere bs cs a c = c

  meet_in-fine :
      (f i t : ℕ) (bs : List Bound) →
      t < n →
      i + 2 * t ≤ top →
      All (Fine n top) bs →
      All (Fine n top) (meet_in kids wanted f i t bs)
  unfolding meet_in
  meet_in-fine zero i t bs k l a = a
  meet_in-fine (suc f) i t bs k l a =
      subst (All (Fine n top)) (sym (meet_in-step kids wanted f i t bs))
      (whether-fine (find t 0 bs) bs (bind (wanted t) t i (in_turn (meet_in kids wanted f (i + 2)) (kids t) bs)) a
      (bind-fine (wanted t) t i (in_turn (meet_in kids wanted f (i + 2)) (kids t) bs) k l
      (turn-keeps (All (Fine n top)) (meet_in kids wanted f (i + 2)) (kids t) bs
      (λ j lj cs ac.
      let h : get_or (kids t) j 0 < t = lower t k j lj in
      meet_in-fine f (i + 2) (get_or (kids t) j 0) cs (omega arith) (omega arith) ac) a)))

bindings-fine :
    (kids : ℕ → List ℕ) (n : ℕ) →
    ((t : ℕ) → t < n → Inside t (kids t)) →
    (root : ℕ) →
    root < n →
    All (Fine n (2 * root)) (bindings kids root)
unfolding bindings
bindings-fine kids n lower root k =
    turn-keeps (All (Fine n (2 * root))) (meet_in kids (to_bind kids root) root 2) (kids root) []
    (λ j lj cs ac.
    let h : get_or (kids root) j 0 < root = lower root k j lj in
    meet_in-fine kids (to_bind kids root) n (2 * root) lower root 2 (get_or (kids root) j 0) cs (omega arith) (omega
    arith)
    ac) (all_none (Fine n (2 * root)))

bounds-get :
    (P : Bound → Type 0) (terms indents : List ℕ) (m k : ℕ) →
    k < m →
    All P (bounds terms indents m) →
    P (record { term = get_or terms k 0; indent = get_or indents k 0 })
bounds-get P terms indents zero k l a = let z : ⊥ = omega arith in absurd z
bounds-get P terms indents (suc m) k l a =
    by (bounds-get P terms indents m k) (ℕ_discrete k m)
    (all_split P (bounds terms indents m) _ (subst (All P) (bounds-step terms indents m) a))
  where
    by :
        (k < m → All P (bounds terms indents m) → P (record {
          term = get_or terms k 0;
          indent = get_or indents k 0;
        })) →
        Dec (k ≡ m) →
        All P (bounds terms indents m) × P (record { term = get_or terms m 0; indent = get_or indents m 0 }) →
        P (record { term = get_or terms k 0; indent = get_or indents k 0 })
    by ih (yes e) r =
        subst (λ (x : ℕ). P (record { term = get_or terms x 0; indent = get_or indents x 0 })) (sym e) r.1
    by ih (no e) r = ih (omega arith) r.0

-- the tables of the bindings are sound
pub bundle-of-met :
    (rs places terms indents : List ℕ) (n m start : ℕ) →
    Linked rs n →
    0 < n →
    length terms ≤ 1024 →
    start ≤ 2 ^ 32 →
    AllMet rs places terms indents n m →
    Bundle terms indents n m start
bundle-of-met rs places terms indents n m start w pos few low v = record {
  in_terms = omega (arith, v.met.free);
  in_indents = omega (arith, v.met.free, v.met.long);
  known = λ k l. (each k l).known;
  deep = λ k l. omega (arith, (each k l).deep, w.few);
  low = omega (arith, v.met.free);
}
  where
    each : (k : ℕ) → k < m → Fine n (2 * (n - 1)) (record { term = get_or terms k 0; indent = get_or indents k 0 })
    each k l =
        bounds-get (Fine n (2 * (n - 1))) terms indents m k l
        (subst (All (Fine n (2 * (n - 1)))) (sym v.same)
        (bindings-fine (kids_at rs) n w.lower (n - 1) (omega arith)))

-- a place is the number of a binding
find-low : (t n q : ℕ) (bs : List Bound) → find t n bs ≡ place q → q < n + length bs
find-low t n q [] e =
    let w : nowhere ≡ place q = sym (find_none t n) ∙ e in
    let z : ◌≡◌ {A = ℕ} 0 1 = cc in absurd (omega arith)
find-low t n q (b ∷ bs) e = by (find-low t (n + 1) q bs) (ℕ_discrete b.term t)
  where
    by : (find t (n + 1) bs ≡ place q → q < n + 1 + length bs) → Dec (b.term ≡ t) → q < n + length (b ∷ bs)
    by ih (yes h) =
        let w : place n ≡ place q =
        sym (subst (λ (x : ℕ). find x n (b ∷ bs) ≡ place n) h (find-hit b.term n b.indent bs)) ∙ e in
        let s : n ≡ q = cc in omega arith
    by ih (no h) = omega (arith, ih (sym (find-miss t n b bs h) ∙ e))

place-low : (p : Place) (m : ℕ) → ((q : ℕ) → p ≡ place q → q < m) → place_no p ≤ m
place-low nowhere m h = omega arith
place-low (place q) m h = omega (arith, h q refl)

pub place-at-most :
    (places terms indents : List ℕ) (m : ℕ) →
    Met places terms indents m →
    (t : ℕ) →
    t < length places →
    get_or places t 0 ≤ m
place-at-most places terms indents m v t l =
    let h =
    place-low (find t 0 (bounds terms indents m)) m
    (λ q e. omega (arith, find-low t 0 q (bounds terms indents m) e, bounds-length terms indents m)) in
    omega (arith, v.right t l, h)
