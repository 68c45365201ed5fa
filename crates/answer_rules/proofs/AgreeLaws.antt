-- Two plans that agree on every class with a rank build the same. Assumes nothing.
use mathlib.Core.Path.{◌≡◌, refl, ap, ◌∙◌}
use mathlib.Core.Bool.{true, false}
use mathlib.Core.List.{List, [], ◌∷◌, ◌++◌}
use Prim.Native.Nat.{ℕ, zero, suc, ◌-◌, ◌<◌}
use lib.Dec.{ltb}
use lib.ListN.{get_or}
use Rattle.build.specs.Plan.{Child, class, value, Plan}
use Rattle.build.specs.Building.{State, Out, done, full, child_in, children_in, own_in, build_in}
use Rattle.build.specs.Ready.{Lower, AllLower}

-- what a class's children are built by, and its name
pub record Agree (p q : Plan) (rank : ℕ → ℕ) : Type 0 where
  pub name : (c : ℕ) → 0 < rank c → p.name c ≡ q.name c
  pub children : (c : ℕ) → 0 < rank c → p.children c ≡ q.children c
  pub lower : (c : ℕ) → 0 < rank c → AllLower rank (rank c) (p.children c)

module _ (rank : ℕ → ℕ) (g h : State → ℕ → Out ℕ) (same : (s : State) (c : ℕ) → 0 < rank c → g s c ≡ h s c) where
  child_in-agrees : (r : ℕ) (s : State) (x : Child) → Lower rank r x → child_in g s x ≡ child_in h s x
  unfolding child_in
  child_in-agrees r s (class c) l = same s c l.0
  child_in-agrees r s (value z) l = refl

  pub children_in-agrees :
      (r : ℕ) (s : State) (ks : List ℕ) (xs : List Child) → AllLower rank r xs
      → children_in g s ks xs ≡ children_in h s ks xs
  unfolding children_in
  children_in-agrees r s ks [] l = refl
  children_in-agrees r s ks (x ∷ xs) l =
      rw (child_in-agrees r s x l.0, children_in)
      (go (child_in h s x) (λ t s'. children_in-agrees r s' (ks ++ (t ∷ [])) xs l.1))
    where
      go :
          (o : Out ℕ) →
          ((t : ℕ) (s' : State) → children_in g s' (ks ++ (t ∷ [])) xs ≡ children_in h s' (ks ++ (t ∷ [])) xs) →
          ◌≡◌ {A = Out (List ℕ)}
          (elim o [ done t s' ↦ children_in g s' (ks ++ (t ∷ [])) xs | full me rs ls ns ↦ full me rs ls ns ])
          (elim o [ done t s' ↦ children_in h s' (ks ++ (t ∷ [])) xs | full me rs ls ns ↦ full me rs ls ns ])
      go (done t s') rest = rest t s'
      go (full me rs ls ns) rest = refl

pub build_in-agrees :
    (p q : Plan) (rank : ℕ → ℕ) → Agree p q rank → (f : ℕ) (s : State) (c : ℕ) → 0 < rank c
    → build_in p f s c ≡ build_in q f s c
unfolding build_in
build_in-agrees p q rank a zero s c l = refl
build_in-agrees p q rank a (suc f) s c l =
    let e : children_in (build_in p f) s [] (p.children c) ≡ children_in (build_in q f) s [] (q.children c) =
    children_in-agrees rank (build_in p f) (build_in q f) (build_in-agrees p q rank a f) (rank c) s [] (p.children c)
    (a.lower c l)
    ∙ ap (children_in (build_in q f) s []) (a.children c l) in
    let own : own_in (p.name c) c (children_in (build_in p f) s [] (p.children c))
    ≡ own_in (q.name c) c (children_in (build_in q f) s [] (q.children c)) =
    rw (a.name c l, e) refl in
    ap
    (λ (x : Out ℕ). elim (ltb 0 (get_or s.memo c 0)) [ true ↦ done (get_or s.memo c 0 - 1) s | false ↦ x ])
    own
