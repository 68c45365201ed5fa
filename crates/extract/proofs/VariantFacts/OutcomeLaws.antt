-- What comes of the rows that are kept, and of the literal of a base root, case by case. Assumes nothing.
use mathlib.Core.Path.{◌≡◌, refl, ap, sym, subst, ◌∙◌}
use mathlib.Core.Bool.{true, false}
use mathlib.Core.List.{List, [], ◌∷◌, map}
use mathlib.Core.Logic.{◌⊎◌, inl, inr}
use Prim.Native.Nat.{ℕ, suc, ◌+◌, ◌<◌, ◌≤◌}
use native.Mathlib.Omega.{arith}
use borrow.Author.Tests.{leb-true, leb-false}
use lib.Dec.{leb}
use lib.IntN.{ℤ}
use lib.ListN.{length, drop}
use lib.Seq.{paste, length-paste, drop-paste}
use Rattle.refusal.specs.declared.Refusal.{Refusal}
use Rattle.refusal.specs.declared.Refusal.TheVariants.{TooDear, NoRoom}
use Rattle.order.proofs.OrderLaws.{cases}
use Rattle.term_rules.specs.Lent.{Store}
use Rattle.term_rules.specs.Nodes.{literal}
use Rattle.term_rules.specs.Adding.{Adds, at, no_room, add}
use Rattle.term_rules.proofs.TestLaws.{and_first, and_second}
use Rattle.variant_order.specs.Arrays.{AllBelow}
use Rattle.choice_rules.specs.Run.{row_cost}
use Rattle.choice_rules.proofs.ListLaws.{or_cases, each-get}
use Rattle.choice_rules.proofs.Demand.OrderLaws.{map-length, map_get}
use Rattle.build.specs.Building.{State, Out, done, full}
use Rattle.file_rules.specs.Table.{Table}
use Rattle.table_rules.specs.Rules.Choosing.{limit, Prices}
use Rattle.answer_rules.specs.Answers.{Answer, value, refusal}
use Rattle.answer_rules.specs.Variants.{
  cost_for,
  any_dear,
  Kept,
  VariantsAfter,
  Lending,
  variants_refused,
  variants_kept,
  room_for_results,
  variant_literal,
  variants_built,
  variants_of_rows,
}
use Rattle.extract.specs.Told.{HasDear, built_rows, NoPlaces, Places, Unchanged, RestStays}
use Rattle.extract.proofs.VariantFacts.ReturnLaws.{not-dear}

-- A value is no refusal, and answers are the same where what they say is.
pub not-refused : {P A : Type 0} {b : A} {k : ℕ} → value b ≡ refusal k → P
not-refused e =
    let z : ◌≡◌ {A = ℕ} 0 1 = cc in
    absurd (omega arith)

pub same_number : {A : Type 0} {j k : ℕ} → ◌≡◌ {A = Answer A} (refusal j) (refusal k) → j ≡ k
same_number e = cc

pub same-value : {A : Type 0} {b d : A} → value b ≡ value d → b ≡ d
same-value e = cc

pub told : {a b : VariantsAfter} {x : Answer Kept} → a ≡ b → a.answer ≡ x → b.answer ≡ x
told e d = sym (ap (λ (y : VariantsAfter). y.answer) e) ∙ d

-- Whether results have their places.
module _ (l : Lending) (n : ℕ) where
  pub no-places : room_for_results l n ≡ false → NoPlaces l n
  unfolding room_for_results
  no-places e =
      cases (leb n (length l.costs))
      (λ c.
      cases (leb n (length l.terms)) (λ d. not-both (rw (c, d) at e))
      (λ d. inr (leb-false n (length l.terms) d)))
      (λ c. inl (leb-false n (length l.costs) c))
    where
      not-both : {P : Type 0} → true ≡ false → P
      not-both z =
          let y : ◌≡◌ {A = ℕ} 0 1 = cc in
          absurd (omega arith)

  pub places : room_for_results l n ≡ true → Places l n
  unfolding room_for_results
  places e = (
    leb-true n (length l.costs) (and_first (leb n (length l.costs)) (leb n (length l.terms)) e),
    leb-true n (length l.terms) (and_second (leb n (length l.costs)) (leb n (length l.terms)) e),
  )

-- A refusal leaves what is lent.
pub refused-unchanged : (l : Lending) (x : Refusal) (a : VariantsAfter) → a ≡ variants_refused x l → Unchanged l a
refused-unchanged l x a e = record {
  store_is = ap (λ (y : VariantsAfter). y.store) e;
  costs_are = ap (λ (y : VariantsAfter). y.costs) e;
  terms_are = ap (λ (y : VariantsAfter). y.terms) e;
}

-- What is kept is a value, and what is past the results stays.
module _ (l : Lending) (ws ts : List ℕ) (p : ℕ) (s : Store) where
  pub kept-answer : (variants_kept l ws ts p s).answer ≡ value (record { count = length ws; passes = p })
  unfolding variants_kept
  kept-answer = refl

  pub kept-told : {P : Type 0} {k : ℕ} (a : VariantsAfter) → a ≡ variants_kept l ws ts p s → a.answer ≡ refusal k → P
  kept-told a e h = not-refused (sym kept-answer ∙ told e h)

  pub kept-is :
      (a : VariantsAfter) (k : Kept) →
      a ≡ variants_kept l ws ts p s →
      a.answer ≡ value k →
      (k.count ≡ length ws) × (k.passes ≡ p)
  kept-is a k e h =
      let d = same-value (sym (told e h) ∙ kept-answer) in
      (ap (λ (y : Kept). y.count) d, ap (λ (y : Kept). y.passes) d)

  pub kept-rest :
      length ts ≡ length ws →
      room_for_results l (length ws) ≡ true →
      RestStays l (variants_kept l ws ts p s) (length ws)
  unfolding variants_kept
  kept-rest e r =
      let m = places l (length ws) r in
      record {
        costs_length = length-paste l.costs 0 ws (length ws) (omega (arith, m.0)) (omega arith);
        terms_length = length-paste l.terms 0 ts (length ts) (omega (arith, e, m.1)) (omega arith);
        costs_rest = past l.costs ws;
        terms_rest =
            subst (λ (k : ℕ). drop k (paste l.terms 0 ts (length ts)) ≡ drop k l.terms) e (past l.terms ts);
      }
    where
      past : (d x : List ℕ) → drop (length x) (paste d 0 x (length x)) ≡ drop (length x) d
      past d x =
          let z : 0 + length x ≡ length x = omega arith in
          subst (λ (k : ℕ). drop k (paste d 0 x (length x)) ≡ drop k d) z
          (drop-paste d 0 x (length x) (omega arith) (omega arith))

-- The costs of the rows that are kept.
cost-at-most : (t : Table) (ps : Prices) (i : ℕ) → cost_for t ps i ≤ limit
unfolding cost_for row_cost
cost-at-most t ps i = omega arith

module _ (t : Table) (ps : Prices) where
  pub cheap-when : (rows : List ℕ) → any_dear t ps rows ≡ false → AllBelow limit (map (cost_for t ps) rows)
  cheap-when rows e j h =
      let b : j < length rows = omega (arith, h, map-length (cost_for t ps) rows) in
      rw (map_get (cost_for t ps) rows j 0 0 b)
      (each-get (λ (i : ℕ). cost_for t ps i < limit) rows 0 (not-dear t ps rows e) j b)

  pub dear-then : (rows : List ℕ) → any_dear t ps rows ≡ true → HasDear (map (cost_for t ps) rows)
  unfolding any_dear
  dear-then [] e =
      let z : ◌≡◌ {A = ℕ} 0 1 = cc in
      absurd (omega arith)
  dear-then (i ∷ rows) e =
      go (or_cases (leb limit (cost_for t ps i)) (any_dear t ps rows) e) (dear-then rows)
    where
      go :
          (leb limit (cost_for t ps i) ≡ true) ⊎ (any_dear t ps rows ≡ true) →
          (any_dear t ps rows ≡ true → HasDear (map (cost_for t ps) rows)) →
          HasDear (map (cost_for t ps) (i ∷ rows))
      go (inl d) rest =
          (0, (omega arith, omega (arith, leb-true limit (cost_for t ps i) d, cost-at-most t ps i)))
      go (inr d) rest = let q = rest d in (suc q.0, (omega (arith, q.1.0), q.1.1))

  pub dear-when : (rows : List ℕ) → HasDear (map (cost_for t ps) rows) → any_dear t ps rows ≡ true
  dear-when rows h =
      cases (any_dear t ps rows) (λ e. e)
      (λ e. absurd (omega (arith, cheap-when rows e h.0 h.1.0, h.1.1)))

module _ (t : Table) (ps : Prices) (np : ℕ) (l : Lending) (rows : List ℕ) where
  -- "12, 13", or what is kept
  pub data Outcome (a : VariantsAfter) : Type 0 where
    dear : any_dear t ps rows ≡ true → a ≡ variants_refused TooDear l → Outcome a
    no_places :
        any_dear t ps rows ≡ false →
        room_for_results l (length rows) ≡ false →
        a ≡ variants_refused NoRoom l →
        Outcome a
    stuck :
        any_dear t ps rows ≡ false →
        room_for_results l (length rows) ≡ true →
        (me rs : List ℕ) (ls : List ℤ) (ns : List ℕ) →
        built_rows t ps rows l.store ≡ full me rs ls ns →
        a ≡ variants_refused NoRoom l →
        Outcome a
    kept :
        any_dear t ps rows ≡ false →
        room_for_results l (length rows) ≡ true →
        (ts : List ℕ) (s : State) →
        built_rows t ps rows l.store ≡ done ts s →
        a ≡ variants_kept l (map (cost_for t ps) rows) ts np s.lent →
        Outcome a

  pub outcome : Outcome (variants_of_rows t ps np l rows)
  unfolding variants_of_rows variants_built
  outcome =
      cases (any_dear t ps rows) (λ d. dear d (rw (d, variants_of_rows)))
      (λ d.
      cases (room_for_results l (length rows)) (λ r. build d r (built_rows t ps rows l.store) refl)
      (λ r. no_places d r (rw (d, r, variants_of_rows))))
    where
      build :
          any_dear t ps rows ≡ false →
          room_for_results l (length rows) ≡ true →
          (o : Out (List ℕ)) →
          built_rows t ps rows l.store ≡ o →
          Outcome (variants_of_rows t ps np l rows)
      build d r (done ts s) e = kept d r ts s e (rw (d, r, e, variants_of_rows))
      build d r (full me rs ls ns) e = stuck d r me rs ls ns e (rw (d, r, e, variants_of_rows))

  module _ (a : VariantsAfter) where
    pub dear-told : Outcome a → a.answer ≡ refusal 12 → HasDear (map (cost_for t ps) rows)
    dear-told (dear d e) h = dear-then t ps rows d
    dear-told (no_places d r e) h = absurd (omega (arith, same_number (told e h)))
    dear-told (stuck d r me rs ls ns b e) h = absurd (omega (arith, same_number (told e h)))
    dear-told (kept d r ts s b e) h =
        kept-told l (map (cost_for t ps) rows) ts np s.lent a e h

    pub dear-refused : Outcome a → HasDear (map (cost_for t ps) rows) → a.answer ≡ refusal 12
    dear-refused o h = go o (dear-when t ps rows h)
      where
        no : {P : Type 0} → any_dear t ps rows ≡ true → any_dear t ps rows ≡ false → P
        no p q =
            let z : ◌≡◌ {A = ℕ} 0 1 = cc in
            absurd (omega arith)

        go : Outcome a → any_dear t ps rows ≡ true → a.answer ≡ refusal 12
        go (dear d e) p = ap (λ (y : VariantsAfter). y.answer) e
        go (no_places d r e) p = no p d
        go (stuck d r me rs ls ns b e) p = no p d
        go (kept d r ts s b e) p = no p d

    pub rows-number : Outcome a → (k : ℕ) → a.answer ≡ refusal k → (k ≡ 12) ⊎ (k ≡ 13)
    rows-number (dear d e) k h = inl (sym (same_number (told e h)))
    rows-number (no_places d r e) k h = inr (sym (same_number (told e h)))
    rows-number (stuck d r me rs ls ns b e) k h = inr (sym (same_number (told e h)))
    rows-number (kept d r ts s b e) k h =
        kept-told l (map (cost_for t ps) rows) ts np s.lent a e h

    pub rows-unchanged : Outcome a → (k : ℕ) → a.answer ≡ refusal k → Unchanged l a
    rows-unchanged (dear d e) k h = refused-unchanged l TooDear a e
    rows-unchanged (no_places d r e) k h = refused-unchanged l NoRoom a e
    rows-unchanged (stuck d r me rs ls ns b e) k h = refused-unchanged l NoRoom a e
    rows-unchanged (kept d r ts s b e) k h =
        kept-told l (map (cost_for t ps) rows) ts np s.lent a e h

    -- what is told of an answer that is a value
    pub record KeptRows (k : Kept) : Type 0 where
      pub not-dear-any : any_dear t ps rows ≡ false
      pub has-places : room_for_results l (length rows) ≡ true
      pub numbers : List ℕ
      pub state : State
      pub built : built_rows t ps rows l.store ≡ done numbers state
      pub is :
          a ≡ variants_kept l (map (cost_for t ps) rows) numbers np state.lent
      pub count_is : k.count ≡ length rows
      pub passes-are : k.passes ≡ np

    pub rows-kept : Outcome a → (k : Kept) → a.answer ≡ value k → KeptRows k
    rows-kept (dear d e) k h = not-refused (sym (told e h))
    rows-kept (no_places d r e) k h = not-refused (sym (told e h))
    rows-kept (stuck d r me rs ls ns b e) k h = not-refused (sym (told e h))
    rows-kept (kept d r ts s b e) k h =
        let q = kept-is l (map (cost_for t ps) rows) ts np s.lent a k e h in
        record {
          not-dear-any = d;
          has-places = r;
          numbers = ts;
          state = s;
          built = b;
          is = e;
          count_is = q.0 ∙ map-length (cost_for t ps) rows;
          passes-are = q.1;
        }

-- The literal of a base root.
module _ (l : Lending) (z : ℤ) where
  pub data LiteralOutcome (a : VariantsAfter) : Type 0 where
    no_room_here : add l.store (literal z) ≡ no_room → a ≡ variants_refused NoRoom l → LiteralOutcome a
    no_place_here :
        (i : ℕ) (s : Store) →
        add l.store (literal z) ≡ at i s →
        room_for_results l 1 ≡ false →
        a ≡ variants_refused NoRoom l →
        LiteralOutcome a
    kept_here :
        (i : ℕ) (s : Store) →
        add l.store (literal z) ≡ at i s →
        room_for_results l 1 ≡ true →
        a ≡ variants_kept l (1 ∷ []) (i ∷ []) 1 s →
        LiteralOutcome a

  pub literal-outcome : LiteralOutcome (variant_literal l (add l.store (literal z)))
  unfolding variant_literal
  literal-outcome = go (add l.store (literal z)) refl
    where
      go : (x : Adds) → add l.store (literal z) ≡ x → LiteralOutcome (variant_literal l (add l.store (literal z)))
      go no_room e = no_room_here e (rw (e, variant_literal))
      go (at i s) e =
          cases (room_for_results l 1) (λ r. kept_here i s e r (rw (e, r, variant_literal)))
          (λ r. no_place_here i s e r (rw (e, r, variant_literal)))

  module _ (a : VariantsAfter) where
    pub literal-number : LiteralOutcome a → (k : ℕ) → a.answer ≡ refusal k → k ≡ 13
    literal-number (no_room_here d e) k h = sym (same_number (told e h))
    literal-number (no_place_here i s d r e) k h = sym (same_number (told e h))
    literal-number (kept_here i s d r e) k h = kept-told l (1 ∷ []) (i ∷ []) 1 s a e h

    pub literal-unchanged : LiteralOutcome a → (k : ℕ) → a.answer ≡ refusal k → Unchanged l a
    literal-unchanged (no_room_here d e) k h = refused-unchanged l NoRoom a e
    literal-unchanged (no_place_here i s d r e) k h = refused-unchanged l NoRoom a e
    literal-unchanged (kept_here i s d r e) k h = kept-told l (1 ∷ []) (i ∷ []) 1 s a e h
