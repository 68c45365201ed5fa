-- What variants give back for any file, root and store, and what a refusal tells. Assumes nothing.
use mathlib.Core.Path.{◌≡◌, refl, ap, sym, subst, ◌∙◌}
use mathlib.Core.Bool.{true, false}
use mathlib.Core.List.{List, [], ◌∷◌, ◌++◌, map}
use mathlib.Core.Logic.{◌⊎◌, inl, inr}
use Prim.Native.Nat.{ℕ, ◌+◌, ◌<◌, ◌≤◌}
use native.Mathlib.Omega.{arith}
use lib.Dec.{eqb}
use lib.IntN.{ℤ}
use lib.ListN.{length, get_or, drop, replicate, get_or-append}
use lib.Seq.{paste, length-paste, take-length}
use Rattle.refusal.specs.declared.Refusal.TheVariants.{BadRoot, BadStore}
use Rattle.order.proofs.OrderLaws.{cases}
use Rattle.term_rules.specs.Lent.{Store}
use Rattle.term_rules.specs.WellFormed.{well_formed}
use Rattle.term_rules.specs.Nodes.{literal}
use Rattle.term_rules.specs.Adding.{at, add}
use Rattle.term_rules.specs.Growing.{Grows, Takes, Gives}
use Rattle.term_rules.proofs.Adding.AddingLaws.{grows-refl, add-gives}
use Rattle.choice_rules.proofs.ListLaws.{Each, each-get}
use Rattle.choice_rules.proofs.Demand.OrderLaws.{map-length, map_get}
use Rattle.bits.specs.Got.{got}
use Rattle.build.specs.Building.{State, state, Out, done}
use Rattle.build.proofs.BuildingLaws.{tracks-of-zeros}
use Rattle.file_rules.specs.Table.{Table}
use Rattle.file_rules.specs.File.{table_at}
use Rattle.table_rules.specs.Rules.Classes.{sort_of, flat_class, is_root}
use Rattle.table_rules.specs.Rules.Choosing.{Prices, prices_for, run_of}
use Rattle.table_rules.specs.Rules.Prices.{TruePrices}
use Rattle.table_rules.specs.Rules.Terms.{literal_of}
use Rattle.table_rules.specs.Rules.Facts.{Known}
use Rattle.answer_rules.specs.Answers.{value, refusal}
use Rattle.answer_rules.specs.Plan.{plan_for}
use Rattle.answer_rules.specs.Variants.{
  cost_for,
  kept_rows,
  any_dear,
  Kept,
  VariantsAfter,
  Lending,
  variants_kept,
  room_for_results,
  variants_at,
}
use Rattle.answer_rules.specs.Room.{Fits}
use Rattle.table_rules.proofs.Rules.AnswerLaws.{run-true}
use Rattle.table_rules.proofs.Rules.CoverLaws.{ReachedClass}
use Rattle.extract.specs.Returned.{Returned}
use Rattle.extract.proofs.LiteralLaws.{literal-fits}
use Rattle.extract.specs.Told.{OneOf, built_rows, Unchanged, RestStays, OneLiteral}
use Rattle.extract.proofs.VariantFacts.TermLaws.{BuiltTerm, no_built, terms_length, terms-below, terms-get}
use Rattle.extract.proofs.VariantFacts.ReturnLaws.{AllMade, RowsRight, rows_right, kept-sound}
use Rattle.extract.proofs.VariantFacts.OutcomeLaws.{
  not-refused,
  told,
  same_number,
  places,
  refused-unchanged,
  kept-is,
  kept-rest,
  KeptRows,
  rows-kept,
  rows-number,
  rows-unchanged,
  LiteralOutcome,
  no_room_here,
  no_place_here,
  kept_here,
  literal-number,
  literal-unchanged,
}
use Rattle.extract.proofs.VariantFacts.FaultLaws.{fault-number}
use Rattle.extract.proofs.VariantFacts.WayLaws.{
  at-bad,
  at-unformed,
  at_literal,
  at-class,
  Way,
  by_fault,
  by_root,
  by_store,
  by_literal,
  by_class,
  way,
}

-- Results at the front of a list.
module _ (d s : List ℕ) (l : length s ≤ length d) where
  pasted_length : length s ≤ length (paste d 0 s (length s))
  pasted_length = omega (arith, length-paste d 0 s (length s) (omega arith) (omega arith))

  pub pasted-get : (j : ℕ) → j < length s → get_or (paste d 0 s (length s)) j 0 ≡ get_or s j 0
  pasted-get j h =
      ap (λ (x : List ℕ). get_or (x ++ drop (0 + length s) d) j 0) (take-length s)
      ∙ get_or-append s (drop (0 + length s) d) 0 j h

-- The store and the lists that come back with m results.
abbrev Back : Lending → VariantsAfter → ℕ → Type 0
Back l a m = Returned l.store a.store a.costs a.terms m

-- What is kept comes back.
module _ (l : Lending) (ws ts : List ℕ) (p : ℕ) (s : Store) (same : length ts ≡ length ws)
    (room : room_for_results l (length ws) ≡ true) where
  pub kept-cost :
      (j : ℕ) → j < length ws → get_or (variants_kept l ws ts p s).costs j 0 ≡ get_or ws j 0
  unfolding variants_kept
  kept-cost j h = pasted-get l.costs ws (places l (length ws) room).0 j h

  pub kept-term :
      (j : ℕ) → j < length ws → get_or (variants_kept l ws ts p s).terms j 0 ≡ get_or ts j 0
  unfolding variants_kept
  kept-term j h =
      pasted-get l.terms ts (omega (arith, same, (places l (length ws) room).1)) j (omega (arith, same))

  kept-returned :
      Grows l.store s → Each (λ (u : ℕ). u < s.terms) ts → Back l (variants_kept l ws ts p s) (length ws)
  unfolding variants_kept
  kept-returned g b = record {
    grows = g;
    costs_long = pasted_length l.costs ws (places l (length ws) room).0;
    terms_long =
        omega (
          arith,
          same,
          pasted_length l.terms ts (omega (arith, same, (places l (length ws) room).1)),
        );
    below = λ j h.
        subst (λ (x : ℕ). x < s.terms) (sym (kept-term j h))
        (each-get (λ (u : ℕ). u < s.terms) ts 0 b j (omega (arith, same)));
  }

-- The kept rows of a class, built in a well-formed store.
module _ (t : Table) (k : Known t) (In : ℕ → Type 0) (ps : Prices) (tp : TruePrices t In ps) (c n : ℕ) (s : Store)
    (f : well_formed s ≡ true) (cheap : any_dear t ps (kept_rows t ps c n) ≡ false) where
  built-right :
      RowsRight t k In ps tp (state (replicate 512 0) s) (kept_rows t ps c n)
      (built_rows t ps (kept_rows t ps c n) s)
  built-right =
      rows_right t k In ps tp (kept_rows t ps c n) (kept-sound t k In ps tp c n cheap) []
      (state (replicate 512 0) s) (state (replicate 512 0) s) []
      (tracks-of-zeros (plan_for t ps) 512 s f)
      (record { grows = grows-refl s f; are = no_built })

  pub built-made :
      (ts : List ℕ) (st : State) →
      built_rows t ps (kept_rows t ps c n) s ≡ done ts st →
      AllMade t k In ps tp (state (replicate 512 0) s) (kept_rows t ps c n) ts st
  built-made ts st e =
      subst (λ (o : Out (List ℕ)). RowsRight t k In ps tp (state (replicate 512 0) s) (kept_rows t ps c n) o) e
      built-right

-- What is told of the kept rows of a class.
module _ (t : Table) (known : Known t) (In : ℕ → Type 0) (ps : Prices) (tp : TruePrices t In ps) (c n np : ℕ) (l : Lending)
    (f : well_formed l.store ≡ true) (a : VariantsAfter) (k : Kept)
    (q : KeptRows t ps np l (kept_rows t ps c n) a k) where
  abbrev rows : List ℕ
  rows = kept_rows t ps c n

  abbrev paid : List ℕ
  paid = map (cost_for t ps) rows

  made : AllMade t known In ps tp (state (replicate 512 0) l.store) rows q.numbers q.state
  made = built-made t known In ps tp c n l.store f q.not-dear-any q.numbers q.state q.built

  paid-length : length paid ≡ length rows
  paid-length = map-length (cost_for t ps) rows

  as_many : length q.numbers ≡ length paid
  as_many = terms_length made.are ∙ sym paid-length

  paid-places : room_for_results l (length paid) ≡ true
  paid-places = subst (λ (m : ℕ). room_for_results l m ≡ true) (sym paid-length) q.has-places

  counted : length paid ≡ k.count
  counted = paid-length ∙ sym q.count_is

  pub told-cost : (j : ℕ) → j < k.count → get_or a.costs j 0 ≡ cost_for t ps (get_or rows j 0)
  told-cost j b =
      subst (λ (x : VariantsAfter). get_or x.costs j 0 ≡ cost_for t ps (get_or rows j 0)) (sym q.is)
      (kept-cost l paid q.numbers np q.state.lent as_many paid-places j
      (omega (arith, counted))
      ∙ map_get (cost_for t ps) rows j 0 0 (omega (arith, q.count_is)))

  pub told-term : (j : ℕ) → j < k.count → BuiltTerm t ps a.store (get_or rows j 0) (get_or a.terms j 0)
  unfolding variants_kept
  told-term j b =
      subst (λ (x : VariantsAfter). BuiltTerm t ps x.store (get_or rows j 0) (get_or x.terms j 0)) (sym q.is)
      (subst (λ (u : ℕ). BuiltTerm t ps q.state.lent (get_or rows j 0) u)
      (sym
      (kept-term l paid q.numbers np q.state.lent as_many paid-places j
      (omega (arith, counted))))
      (terms-get made.are j (omega (arith, q.count_is))))

  pub rows-returned : Back l a k.count
  rows-returned =
      subst (λ (x : VariantsAfter). Back l x k.count) (sym q.is)
      (subst
      (λ (m : ℕ). Back l (variants_kept l paid q.numbers np q.state.lent) m)
      counted
      (kept-returned l paid q.numbers np q.state.lent as_many paid-places made.grows
      (terms-below made.are)))

  rows-rest : RestStays l a k.count
  rows-rest =
      subst (λ (x : VariantsAfter). RestStays l x k.count) (sym q.is)
      (subst
      (λ (m : ℕ). RestStays l (variants_kept l paid q.numbers np q.state.lent) m)
      counted
      (kept-rest l paid q.numbers np q.state.lent as_many paid-places))

-- What is told of a literal.
module _ (l : Lending) (f : well_formed l.store ≡ true) (z : ℤ) (a : VariantsAfter) (k : Kept)
    (e : a.answer ≡ value k) where
  abbrev After : Type 0
  After = OneLiteral z l a k × (Back l a k.count × RestStays l a k.count)

  literal-kept :
      (i : ℕ) (s : Store) →
      add l.store (literal z) ≡ at i s →
      room_for_results l 1 ≡ true →
      a ≡ variants_kept l (1 ∷ []) (i ∷ []) 1 s →
      After
  unfolding variants_kept
  literal-kept i s d r q =
      let g : Takes l.store (literal z) i s =
      subst (Gives l.store (literal z)) d (add-gives l.store (literal z) f tt) in
      let c = kept-is l (1 ∷ []) (i ∷ []) 1 s a k q e in
      let x : VariantsAfter = variants_kept l (1 ∷ []) (i ∷ []) 1 s in (
        record {
          one = c.0;
          one_pass = c.1;
          cost = subst (λ (y : VariantsAfter). get_or y.costs 0 0 ≡ 1) (sym q)
              (kept-cost l (1 ∷ []) (i ∷ []) 1 s refl r 0 (omega arith));
          takes = subst (λ (y : VariantsAfter). Takes l.store (literal z) (get_or y.terms 0 0) y.store) (sym q)
              (subst (λ (u : ℕ). Takes l.store (literal z) u s)
              (sym (kept-term l (1 ∷ []) (i ∷ []) 1 s refl r 0 (omega arith))) g);
          fits = subst (λ (y : VariantsAfter). Fits l.store y.store) (sym q) (literal-fits l.store f z i s d);
          places = places l 1 r;
        },
        (
          subst (λ (y : VariantsAfter). Back l y k.count) (sym q)
              (subst (λ (m : ℕ). Back l x m) (sym c.0)
              (kept-returned l (1 ∷ []) (i ∷ []) 1 s refl r g.grows (g.below, tt))),
          subst (λ (y : VariantsAfter). RestStays l y k.count) (sym q)
              (subst (λ (m : ℕ). RestStays l x m) (sym c.0) (kept-rest l (1 ∷ []) (i ∷ []) 1 s refl r)),
        ),
      )

  pub literal-after : LiteralOutcome l z a → After
  literal-after (no_room_here d q) = not-refused (sym (told q e))
  literal-after (no_place_here i s d r q) = not-refused (sym (told q e))
  literal-after (kept_here i s d r q) = literal-kept i s d r q

-- For any file, root, number of variants, store and lists.
module _ (l : Lending) (file : List ℕ) (root v n : ℕ) where
  abbrev after : VariantsAfter
  after = variants_at file root v n l

  pub variants-returned :
      (k : Kept) → after.answer ≡ value k → Returned l.store after.store after.costs after.terms k.count
  variants-returned k e = go (way file root v n l)
    where
      go : Way file root v n l → Back l after k.count
      go (by_fault x d q) = not-refused (sym (told q e))
      go (by_root q) = not-refused (sym (told q e))
      go (by_store q) = not-refused (sym (told q e))
      go (by_literal t f o) = (literal-after l f (literal_of t v) after k e o).1.0
      go (by_class t kn h f o) =
          let c : ℕ = flat_class t root v in
          rows-returned t kn (ReachedClass t root) (prices_for t root) (run-true t kn root h) c n (run_of t root).passes l f
          after k
          (rows-kept t (prices_for t root) (run_of t root).passes l (kept_rows t (prices_for t root) c n) after o k e)

  pub variants_rest : (k : Kept) → after.answer ≡ value k → RestStays l after k.count
  variants_rest k e = go (way file root v n l)
    where
      go : Way file root v n l → RestStays l after k.count
      go (by_fault x d q) = not-refused (sym (told q e))
      go (by_root q) = not-refused (sym (told q e))
      go (by_store q) = not-refused (sym (told q e))
      go (by_literal t f o) = (literal-after l f (literal_of t v) after k e o).1.1
      go (by_class t kn h f o) =
          let c : ℕ = flat_class t root v in
          rows-rest t kn (ReachedClass t root) (prices_for t root) (run-true t kn root h) c n (run_of t root).passes l f after k
          (rows-kept t (prices_for t root) (run_of t root).passes l (kept_rows t (prices_for t root) c n) after o k e)

  pub variants_unchanged : (k : ℕ) → after.answer ≡ refusal k → Unchanged l after
  variants_unchanged k e = go (way file root v n l)
    where
      go : Way file root v n l → Unchanged l after
      go (by_fault x d q) = refused-unchanged l x after q
      go (by_root q) = refused-unchanged l BadRoot after q
      go (by_store q) = refused-unchanged l BadStore after q
      go (by_literal t f o) = literal-unchanged l (literal_of t v) after o k e
      go (by_class t kn h f o) =
          rows-unchanged t (prices_for t root) (run_of t root).passes l
          (kept_rows t (prices_for t root) (flat_class t root v) n) after o k e

  pub variants-number : (k : ℕ) → after.answer ≡ refusal k → OneOf file k
  variants-number k e = go (way file root v n l)
    where
      late : (k ≡ 12) ⊎ (k ≡ 13) → OneOf file k
      late (inl d) = inr (inr (inr (inl d)))
      late (inr d) = inr (inr (inr (inr d)))

      go : Way file root v n l → OneOf file k
      go (by_fault x d q) = inl (x, (d, sym (same_number (told q e))))
      go (by_root q) = inr (inl (sym (same_number (told q e))))
      go (by_store q) = inr (inr (inl (sym (same_number (told q e)))))
      go (by_literal t f o) = late (inr (literal-number l (literal_of t v) after o k e))
      go (by_class t kn h f o) =
          late (rows-number t (prices_for t root) (run_of t root).passes l
          (kept_rows t (prices_for t root) (flat_class t root v) n) after o k e)

  -- "best only"
  pub variants_not_eleven : after.answer ≡ refusal 11 → ⊥
  variants_not_eleven e = go (variants-number 11 e)
    where
      go : OneOf file 11 → ⊥
      go (inl (x, (d, q))) = omega (arith, fault-number file x d)
      go (inr (inl q)) = omega arith
      go (inr (inr (inl q))) = omega arith
      go (inr (inr (inr (inl q)))) = omega arith
      go (inr (inr (inr (inr q)))) = omega arith

-- "10, 17": exactly when, of an accepted file.
module _ (file : List ℕ) (root v n : ℕ) (l : Lending) (t : Table) (p : ℕ) (e : table_at file ≡ got t p) where
  abbrev Told : ℕ → Type 0
  Told k = (variants_at file root v n l).answer ≡ refusal k

  -- a root is refused by 17, where the store is not well formed, or by 12 or 13
  module _ (q : is_root t root v ≡ true) where
    formed-number : well_formed l.store ≡ true → (k : ℕ) → Told k → (k ≡ 12) ⊎ (k ≡ 13)
    formed-number f k h =
        cases (eqb (sort_of t root).kind 0)
        (λ b.
        inr
        (literal-number l (literal_of t v) (variants_at file root v n l) (at_literal file root v n l t p e q f b) k h))
        (λ b.
        rows-number t (prices_for t root) (run_of t root).passes l
        (kept_rows t (prices_for t root) (flat_class t root v) n) (variants_at file root v n l)
        (at-class file root v n l t p e q f b) k h)

    late : {P : Type 0} (k : ℕ) → (k ≡ 12 → ⊥) → (k ≡ 13 → ⊥) → (k ≡ 12) ⊎ (k ≡ 13) → P
    late k a b (inl d) = absurd (a d)
    late k a b (inr d) = absurd (b d)

    pub bad-store-then : Told 17 → well_formed l.store ≡ false
    bad-store-then h =
        cases (well_formed l.store)
        (λ f. late 17 (λ d. omega arith) (λ d. omega arith) (formed-number f 17 h)) (λ f. f)

    pub bad-store-when : well_formed l.store ≡ false → Told 17
    bad-store-when f = ap (λ (y : VariantsAfter). y.answer) (at-unformed file root v n l t p e q f)

    root_told : {P : Type 0} → Told 10 → P
    root_told h =
        cases (well_formed l.store)
        (λ f. late 10 (λ d. omega arith) (λ d. omega arith) (formed-number f 10 h))
        (λ f.
        let d : 17 ≡ 10 = same_number (told (at-unformed file root v n l t p e q f) h) in
        absurd (omega arith))

  pub bad-root-then : Told 10 → is_root t root v ≡ false
  bad-root-then h = cases (is_root t root v) (λ q. root_told q h) (λ q. q)

  pub bad-root-when : is_root t root v ≡ false → Told 10
  bad-root-when q = ap (λ (y : VariantsAfter). y.answer) (at-bad file root v n l t p e q)
