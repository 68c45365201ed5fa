-- A let text has at most as many bindings as there are terms below its root, so its next count stays below 2^32.
-- Assumes nothing.
use mathlib.Core.Path.{◌≡◌, refl, sym, ap, subst, ◌∙◌}
use mathlib.Core.Bool.{Bool, true, false}
use mathlib.Core.List.{List, [], ◌++◌}
use Prim.{Dec, yes, no}
use Prim.Native.Nat.{ℕ, zero, suc, ◌+◌, ◌≤◌, ◌<◌}
use native.Mathlib.Omega.{arith}
use native.Mathlib.Decide.{ℕ_discrete}
use lib.ListN.{length, get_or, length-append}
use Rattle.term_rules.specs.Lent.{Store}
use Rattle.term_rules.specs.WellFormed.{well_formed}
use Rattle.term_rules.specs.Nodes.{Node, literal, variable, application, node_at}
use Rattle.term.proofs.Promises.{promises as store-promises}
use Rattle.text_rules.specs.Forms.{children}
use Rattle.text_rules.specs.Counts.{in_turn}
use Rattle.text_rules.specs.Bindings.{Bound, Place, nowhere, place, find, to_bind, bind, meet_in, bindings}
use Rattle.text_rules.specs.LetText.{Naming, bindings_of, next_count}
use Rattle.text_counts.proofs.bindings.FindLaws.{one, find_none, find-last, find-other}
use Rattle.text_counts.proofs.bindings.MeetLaws.{turn-keeps, bind-no, bind-yes, whether, meet_in-step}

-- ---- the terms below n that have no binding
abbrev is_free : Place → ℕ
is_free nowhere = 1
is_free (place p) = 0

unfoldable free : ℕ → List Bound → ℕ
free zero bs = 0
free (suc n) bs = is_free (find n 0 bs) + free n bs

free-none : (n : ℕ) → free n [] ≡ n
unfolding free
free-none zero = refl
free-none (suc n) = omega (arith, ap is_free (find_none n 0), free-none n)

free-above : (n t i : ℕ) (bs : List Bound) → n ≤ t → free n (bs ++ one t i) ≡ free n bs
unfolding free
free-above zero t i bs l = refl
free-above (suc n) t i bs l =
    omega (
      arith,
      ap is_free (find-other n t i 0 bs (λ (e : t ≡ n). omega arith)),
      free-above n t i bs (omega arith),
    )

free-less :
    (n t i : ℕ) (bs : List Bound) → t < n → find t 0 bs ≡ nowhere → free n (bs ++ one t i) + 1 ≡ free n bs
unfolding free
free-less zero t i bs l e = let z : ⊥ = omega arith in absurd z
free-less (suc n) t i bs l e = by (free-less n t i bs) (ℕ_discrete t n)
  where
    by :
        (t < n → find t 0 bs ≡ nowhere → free n (bs ++ one t i) + 1 ≡ free n bs) →
        Dec (t ≡ n) →
        is_free (find n 0 (bs ++ one t i)) + free n (bs ++ one t i) + 1 ≡ is_free (find n 0 bs) + free n bs
    by ih (yes d) =
        let p : is_free (find n 0 (bs ++ one t i)) ≡ 0 =
        subst (λ (x : ℕ). is_free (find x 0 (bs ++ one t i)) ≡ 0) d (ap is_free (find-last t i 0 bs e)) in
        let q : is_free (find n 0 bs) ≡ 1 =
        subst (λ (x : ℕ). is_free (find x 0 bs) ≡ 1) d (ap is_free e) in
        omega (arith, free-above n t i bs (omega arith))
    by ih (no d) =
        omega (arith, ap is_free (find-other n t i 0 bs d), ih (omega arith) e)

-- ---- what meeting a term keeps
module _
    (kids : ℕ → List ℕ)
    (wanted : ℕ → Bool)
    (n : ℕ)
    (lower : (t : ℕ) → t < n → (j : ℕ) → j < length (kids t) → get_or (kids t) j 0 < t)
  where
    -- there is a term below n for each binding and each term without one
    abbrev Room : List Bound → Type 0
    Room bs = length bs + free n bs ≤ n

    -- room, and no binding of any term above t that had none
    record Keeps (t : ℕ) (before after : List Bound) : Type 0 where
      room : Room before → Room after
      above : (u : ℕ) → t < u → find u 0 before ≡ nowhere → find u 0 after ≡ nowhere

    bind-keeps :
        (b : Bool) (t i : ℕ) (before bs : List Bound) →
        t < n →
        find t 0 bs ≡ nowhere →
        (Room before → Room bs) →
        ((u : ℕ) → t < u → find u 0 before ≡ nowhere → find u 0 bs ≡ nowhere) →
        Keeps t before (bind b t i bs)
    bind-keeps true t i before bs k e r a =
        subst (Keeps t before) (sym (bind-yes t i bs))
        (record {
          room = λ q. omega (arith, r q, length-append bs (one t i), free-less n t i bs k e);
          above = λ u l f. find-other u t i 0 bs (λ (d : t ≡ u). omega arith) ∙ a u l f;
        })
    bind-keeps false t i before bs k e r a =
        subst (Keeps t before) (sym (bind-no t i bs)) (record { room = r; above = a })

    -- one step, where the children's keep
    step_keeps :
        (f i t : ℕ) (bs : List Bound) →
        t < n →
        ((k : ℕ) (cs : List Bound) → k < t → Keeps k cs (meet_in kids wanted f (i + 2) k cs)) →
        Keeps t bs (meet_in kids wanted (suc f) i t bs)
    step_keeps f i t bs k child =
        subst (Keeps t bs) (sym (meet_in-step kids wanted f i t bs)) (by (find t 0 bs) refl)
      where
        after : List Bound
        after = in_turn (meet_in kids wanted f (i + 2)) (kids t) bs

        turned : Room bs → Room after
        turned r =
            turn-keeps Room (meet_in kids wanted f (i + 2)) (kids t) bs
            (λ j lj cs rc. (child (get_or (kids t) j 0) cs (lower t k j lj)).room rc) r

        still : (u : ℕ) → t ≤ u → find u 0 bs ≡ nowhere → find u 0 after ≡ nowhere
        still u lu e =
            turn-keeps (λ (x : List Bound). find u 0 x ≡ nowhere) (meet_in kids wanted f (i + 2)) (kids t) bs
            (λ j lj cs ec.
            let h : get_or (kids t) j 0 < t = lower t k j lj in
            (child (get_or (kids t) j 0) cs h).above u (omega arith) ec) e

        by : (p : Place) → find t 0 bs ≡ p → Keeps t bs (whether p bs (bind (wanted t) t i after))
        by (place q) e = record { room = λ r. r; above = λ u lu eu. eu }
        by nowhere e =
            bind-keeps (wanted t) t i bs after k (still t (omega arith) e) turned (λ u lu eu. still u (omega arith) eu)

    meet-keeps : (f i t : ℕ) (bs : List Bound) → t < n → t < f → Keeps t bs (meet_in kids wanted f i t bs)
    meet-keeps zero i t bs k l = let z : ⊥ = omega arith in absurd z
    meet-keeps (suc f) i t bs k l =
        step_keeps f i t bs k (λ x cs h. meet-keeps f (i + 2) x cs (omega arith) (omega arith))

bindings-few :
    (kids : ℕ → List ℕ) (root : ℕ) →
    ((t : ℕ) → t ≤ root → (j : ℕ) → j < length (kids t) → get_or (kids t) j 0 < t) →
    length (bindings kids root) ≤ root
unfolding bindings
bindings-few kids root lower =
    omega (
      arith,
      turn-keeps (Room kids (to_bind kids root) root (λ t l. lower t (omega arith)))
          (meet_in kids (to_bind kids root) root 2) (kids root) []
          (λ j lj cs rc.
          let h : get_or (kids root) j 0 < root = lower root (omega arith) j lj in
          (meet-keeps kids (to_bind kids root) root (λ t l. lower t (omega arith)) root 2 (get_or (kids root) j 0) cs h h
          ).room rc) (omega (arith, free-none root)),
    )

-- ---- a store's terms
kids-lower :
    (s : Store) →
    well_formed s ≡ true →
    (t : ℕ) →
    t < s.terms →
    (j : ℕ) →
    j < length (children (node_at s t)) →
    get_or (children (node_at s t)) j 0 < t
kids-lower s w t h j l = by (node_at s t) refl l
  where
    by : (x : Node) → node_at s t ≡ x → j < length (children x) → get_or (children x) j 0 < t
    by (literal z) e k = let z : ⊥ = omega arith in absurd z
    by (variable n) e k = let z : ⊥ = omega arith in absurd z
    by (application n ks) e k = store-promises.children_lower s t n ks w h e j k

pub next_low :
    (s : Store) (nm : Naming) (t : ℕ) →
    well_formed s ≡ true →
    t < s.terms →
    nm.start ≤ 4294966271 →
    next_count s nm t ≤ 4294967295
unfolding next_count bindings_of
next_low s nm t e h l =
    omega (
      arith,
      (store-promises.facts s e).term_limit,
      bindings-few (λ (u : ℕ). children (node_at s u)) t (λ u k. kids-lower s e u (omega arith)),
    )
