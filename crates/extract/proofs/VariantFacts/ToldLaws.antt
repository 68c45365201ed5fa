-- What variants answer, by the room for the terms of the kept rows. Assumes nothing.
use Prim.Native.Nat.{ℕ, ◌<◌}
use mathlib.Core.Path.{◌≡◌, refl, ap, sym, subst, ◌∙◌}
use mathlib.Core.Bool.{true, false}
use mathlib.Core.List.{List, [], ◌∷◌}
use mathlib.Core.Logic.{◌⊎◌, inl, inr}
use native.Mathlib.Omega.{arith}
use lib.IntN.{ℤ}
use lib.ListN.{length, get_or}
use Rattle.term_rules.specs.WellFormed.{well_formed}
use Rattle.term_rules.specs.Nodes.{number}
use Rattle.variant_order.specs.Arrays.{AllBelow}
use Rattle.choice_rules.proofs.ListLaws.{Each}
use Rattle.choice_rules.proofs.Demand.OrderLaws.{map-length, map_get}
use Rattle.file_rules.specs.Table.{Table}
use Rattle.table_rules.specs.Rules.Choosing.{limit, Prices}
use Rattle.table_rules.specs.Rules.Prices.{TruePrices}
use Rattle.table_rules.specs.Rules.Facts.{Known}
use Rattle.answer_rules.specs.Answers.{Answer, value, refusal}
use Rattle.answer_rules.specs.Variants.{
  file_row,
  cost_for,
  kept_rows,
  any_dear,
  Kept,
  VariantsAfter,
  Lending,
  room_for_results,
}
use Rattle.answer_rules.specs.Room.{NoRoomFor}
use Rattle.extract.specs.Terms.{HasRoomForRows, NoRoomForRows}
use Rattle.extract.specs.First.{kept_file_rows, kept_costs}
use Rattle.extract.specs.Told.{NoPlaces, Places, LiteralTold}
use Rattle.extract.proofs.LiteralLaws.{literal-full}
use Rattle.extract.proofs.VariantFacts.OutcomeLaws.{
  not-refused,
  same_number,
  told,
  no-places,
  places,
  kept-answer,
  kept-told,
  cheap-when,
  dear-then,
  Outcome,
  dear,
  no_places,
  stuck,
  kept,
  LiteralOutcome,
  no_room_here,
  no_place_here,
  kept_here,
}
use Rattle.extract.proofs.VariantFacts.CallLaws.{literal-after}
use Rattle.extract.proofs.VariantFacts.ReturnLaws.{each-of-get}
use Rattle.extract.proofs.VariantFacts.FirstLaws.{kept-place, kept_variant}
use Rattle.extract.proofs.VariantFacts.VariantLaws.{kids-chosen}
use Rattle.extract.proofs.VariantFacts.RoomLaws.{ChosenRow, rows-of-built, rows-full, rows-there, rows_fit}

-- the answer of a call that is known
answer-is : {a b : VariantsAfter} → a ≡ b → a.answer ≡ b.answer
answer-is e = ap (λ (y : VariantsAfter). y.answer) e

-- places or none
no_both : (l : Lending) (n : ℕ) → Places l n → NoPlaces l n → ⊥
no_both l n p (inl q) = omega (arith, q, p.0)
no_both l n p (inr q) = omega (arith, q, p.1)

module _
    (t : Table) (k : Known t) (In : ℕ → Type 0) (ps : Prices) (tp : TruePrices t In ps) (c : ℕ) (r : In c)
    (n np : ℕ) (l : Lending) (f : well_formed l.store ≡ true) (a : VariantsAfter) where
  abbrev rows : List ℕ
  rows = kept_rows t ps c n

  abbrev Cheap : Type 0
  Cheap = AllBelow limit (kept_costs t ps c n)

  abbrev Cause : Type 0
  Cause = NoPlaces l (length (kept_file_rows t ps c n)) ⊎ NoRoomForRows t ps l.store (kept_file_rows t ps c n)

  abbrev Given : Type 0
  Given =
      Cheap
      × Places l (length (kept_file_rows t ps c n))
      × HasRoomForRows t ps l.store (kept_file_rows t ps c n)

  as_many : length (kept_file_rows t ps c n) ≡ length rows
  as_many = map-length (file_row ps) rows

  not-dear : {P : Type 0} → Cheap → any_dear t ps rows ≡ true → P
  not-dear b d =
      let q = dear-then t ps rows d in
      absurd (omega (arith, b q.0 q.1.0, q.1.1))

  none-there : room_for_results l (length rows) ≡ false → NoPlaces l (length (kept_file_rows t ps c n))
  none-there e = subst (NoPlaces l) (sym as_many) (no-places l (length rows) e)

  all_there : room_for_results l (length rows) ≡ true → Places l (length (kept_file_rows t ps c n))
  all_there e = subst (Places l) (sym as_many) (places l (length rows) e)

  -- the children of kept rows that are not dear have their chosen trees
  chosen-rows : any_dear t ps rows ≡ false → Each (ChosenRow t k In ps tp) rows
  chosen-rows d =
      each-of-get (ChosenRow t k In ps tp) rows
      (λ j b.
      let m = kids-chosen t k In ps tp c r (get_or rows j 0) (kept-place t k In ps tp c r n j b)
      (kept_variant t k In ps tp c r n j b)
      (subst (λ (x : ℕ). x < limit) (map_get (cost_for t ps) rows j 0 0 b)
      (cheap-when t ps rows d j (omega (arith, b, map-length (cost_for t ps) rows)))) in
      (m.forest, m.chosen))

  pub rows-full-told : Outcome t ps np l rows a → a.answer ≡ refusal 13 → Cheap × Cause
  rows-full-told (dear d e) q = absurd (omega (arith, same_number (told e q)))
  rows-full-told (no_places d p e) q = (cheap-when t ps rows d, inl (none-there p))
  rows-full-told (stuck d p me rs ls ns b e) q =
      (cheap-when t ps rows d, inr (rows-full t k In ps tp c n l.store f d me rs ls ns b))
  rows-full-told (kept d p us st b e) q =
      kept-told l (kept_costs t ps c n) us np st.lent a e q

  pub rows-full-refused : Outcome t ps np l rows a → Cheap → Cause → a.answer ≡ refusal 13
  rows-full-refused (dear d e) b q = not-dear b d
  rows-full-refused (no_places d p e) b q = answer-is e
  rows-full-refused (stuck d p me rs ls ns m e) b q = answer-is e
  rows-full-refused (kept d p us st m e) b q = absurd (go q)
    where
      go : Cause → ⊥
      go (inl x) = no_both l (length (kept_file_rows t ps c n)) (all_there p) x
      go (inr w) =
          w st.lent us (rows_fit t k In ps tp c n l.store f d us st m)
          (rows-of-built t k In ps tp (chosen-rows d) (rows-there t k In ps tp c n l.store f d us st m))

  pub rows-room-told : Outcome t ps np l rows a → (x : Kept) → a.answer ≡ value x → Given
  rows-room-told (dear d e) x q = not-refused (sym (told e q))
  rows-room-told (no_places d p e) x q = not-refused (sym (told e q))
  rows-room-told (stuck d p me rs ls ns b e) x q = not-refused (sym (told e q))
  rows-room-told (kept d p us st b e) x q = (
    cheap-when t ps rows d,
    all_there p,
    record {
      store = st.lent;
      numbers = us;
      fits = rows_fit t k In ps tp c n l.store f d us st b;
      terms = rows-of-built t k In ps tp (chosen-rows d) (rows-there t k In ps tp c n l.store f d us st b);
    },
  )

  pub rows-room-kept : Outcome t ps np l rows a → Given → (x : Kept) × (a.answer ≡ value x)
  rows-room-kept (dear d e) g = not-dear g.0 d
  rows-room-kept (no_places d p e) g = absurd (no_both l (length (kept_file_rows t ps c n)) g.1 (none-there p))
  rows-room-kept (stuck d p me rs ls ns m e) g =
      let w = g.2 in
      absurd (rows-full t k In ps tp c n l.store f d me rs ls ns m w.store w.numbers w.fits w.terms)
  rows-room-kept (kept d p us st m e) g = (
    record { count = length (kept_costs t ps c n); passes = np },
    answer-is e ∙ kept-answer l (kept_costs t ps c n) us np st.lent,
  )

-- the literal of a base root
module _ (l : Lending) (z : ℤ) (f : well_formed l.store ≡ true) (a : VariantsAfter) (o : LiteralOutcome l z a) where
  refused-by : (j : ℕ) → a.answer ≡ refusal j → (j ≡ 13) × (NoPlaces l 1 ⊎ NoRoomFor l.store (number z))
  refused-by j q = go o
    where
      go : LiteralOutcome l z a → (j ≡ 13) × (NoPlaces l 1 ⊎ NoRoomFor l.store (number z))
      go (no_room_here d e) = (sym (same_number (told e q)), inr (literal-full l.store f z d))
      go (no_place_here i s d r e) = (sym (same_number (told e q)), inl (no-places l 1 r))
      go (kept_here i s d r e) = kept-told l (1 ∷ []) (i ∷ []) 1 s a e q

  pub literal-told : LiteralTold z l a a.answer
  literal-told = go a.answer refl
    where
      go : (x : Answer Kept) → a.answer ≡ x → LiteralTold z l a x
      go (value k) e = (literal-after l f z a k e o).0
      go (refusal j) e = refused-by j e
