-- What best answers of a class, by a right verdict: demand 3 of document 00. Assumes nothing.
use mathlib.Core.Path.{◌≡◌, refl, ap, sym, ◌∙◌, subst}
use mathlib.Core.Logic.{◌⊎◌, inl, inr}
use Prim.Native.Nat.{ℕ, ◌<◌, ◌≤◌}
use native.Mathlib.Omega.{arith}
use Rattle.term_rules.specs.Lent.{Store}
use Rattle.term_rules.specs.Nodes.{Tree as Term}
use Rattle.choice_rules.specs.Rows.{class}
use Rattle.choice_rules.specs.Deriving.{Tree, tree_cost}
use Rattle.choice_rules.specs.Answer.{Answer as Verdict, no_term, too_dear, best}
use Rattle.choice_rules.specs.Demand.Deriving.{Answered}
use Rattle.choice_rules.proofs.ChosenLaws.{chosen_unique}
use Rattle.file_rules.specs.Table.{Table}
use Rattle.table_rules.specs.Rules.Rows.{table_rows, usable}
use Rattle.table_rules.specs.Rules.Terms.{term_of}
use Rattle.table_rules.specs.Rules.Choosing.{limit, Prices}
use Rattle.answer_rules.specs.Answers.{Answer, value, refusal, After}
use Rattle.answer_rules.specs.Best.{BestTerm}
use Rattle.answer_rules.specs.Room.{HasRoom, NoRoomFor}
use Rattle.answer_rules.specs.Demand.{Choice, chosen_term, ComesBack, HasNoRoom, BestOutcome, Kept}
use Rattle.extract.proofs.VariantFacts.OutcomeLaws.{not-refused, same_number, same-value}
use Rattle.extract.specs.Promises.{Derivation}

-- A class has one chosen term.
module _ (t : Table) (ps : Prices) (c : ℕ) where
  one_choice : (x y : Choice t ps c) → chosen_term t ps c x ≡ chosen_term t ps c y
  one_choice x y =
      ap (term_of t) (chosen_unique (table_rows t) ps.row x.tree y.tree (class c) x.chosen y.chosen)

  -- The outcome of a best verdict, by its answer.
  module _ (s s' : Store) where
    outcome-refused :
        (x : Answer BestTerm) → BestOutcome t ps c s s' x → (k : ℕ) → x ≡ refusal k → HasNoRoom t ps c s k s'
    outcome-refused (value b) o k e = not-refused e
    outcome-refused (refusal j) o k e = subst (λ (n : ℕ). HasNoRoom t ps c s n s') (same_number e) o

    outcome-found :
        (x : Answer BestTerm) → BestOutcome t ps c s s' x → (b : BestTerm) → x ≡ value b → ComesBack t ps c s b s'
    outcome-found (value d) o b e = subst (λ (y : BestTerm). ComesBack t ps c s y s') (same-value e) o
    outcome-found (refusal j) o b e = not-refused (sym e)

    -- it comes back if there is room, and does not if there is none
    outcome-room :
        (x : Answer BestTerm) → BestOutcome t ps c s s' x → (y : Choice t ps c) →
        HasRoom s (chosen_term t ps c y) → (b : BestTerm) × (x ≡ value b)
    outcome-room (value b) o y h = (b, refl)
    outcome-room (refusal j) o y h =
        absurd
        (subst (NoRoomFor s) (one_choice o.choice y) o.none h.store h.fits h.holds)

    outcome-none :
        (x : Answer BestTerm) → BestOutcome t ps c s s' x → (y : Choice t ps c) →
        NoRoomFor s (chosen_term t ps c y) → x ≡ refusal 13
    outcome-none (value b) o y n =
        absurd
        (subst (NoRoomFor s) (one_choice y o.choice) n s' o.fits
        (record { place = b.term; below = o.below; means = o.means }))
    outcome-none (refusal j) o y n = ap refusal o.number

-- Demand 3, of an answer that is kept by a right verdict.
module _ (t : Table) (ps : Prices) (c : ℕ) (s : Store) (a : After BestTerm) where
  abbrev Right : Verdict → Type 0
  Right v = Answered limit (table_rows t) (usable t) c v

  told : {x : After BestTerm} → a ≡ x → a.answer ≡ x.answer
  told e = ap (λ (y : After BestTerm). y.answer) e

  refused-by : BestOutcome t ps c s a.store a.answer → (k : ℕ) → a.answer ≡ refusal k → k ≡ 13
  refused-by o k e = (outcome-refused t ps c s a.store a.answer o k e).number

  pub no-term-then :
      (v : Verdict) → Right v → Kept t ps c s a v → a.answer ≡ refusal 11 → (u : Tree) → Derivation t c u → ⊥
  no-term-then no_term r k e = r
  no-term-then too_dear r k e = absurd (omega (arith, same_number (sym (told k) ∙ e)))
  no-term-then (best w) r k e = absurd (omega (arith, refused-by k 11 e))

  pub no-term-when :
      (v : Verdict) → Right v → Kept t ps c s a v → ((u : Tree) → Derivation t c u → ⊥) → a.answer ≡ refusal 11
  no-term-when no_term r k n = told k
  no-term-when too_dear r k n = absurd (n r.0.0 r.0.1)
  no-term-when (best w) r k n = absurd (n r.1.0 r.1.1.is_deriving)

  abbrev Dear : Type 0
  Dear = ((u : Tree) × Derivation t c u) × ((u : Tree) → Derivation t c u → limit ≤ tree_cost (table_rows t) u)

  pub too-dear-then : (v : Verdict) → Right v → Kept t ps c s a v → a.answer ≡ refusal 12 → Dear
  too-dear-then no_term r k e = absurd (omega (arith, same_number (sym (told k) ∙ e)))
  too-dear-then too_dear r k e = r
  too-dear-then (best w) r k e = absurd (omega (arith, refused-by k 12 e))

  pub too-dear-when : (v : Verdict) → Right v → Kept t ps c s a v → Dear → a.answer ≡ refusal 12
  too-dear-when no_term r k d = absurd (r d.0.0 d.0.1)
  too-dear-when too_dear r k d = told k
  too-dear-when (best w) r k d =
      let l : limit ≤ tree_cost (table_rows t) r.1.0 = d.1 r.1.0 r.1.1.is_deriving in
      absurd (omega (arith, l, r.0, r.1.1.exact))

  -- a class with a deriving tree below 2^64-1 has a best one
  outcome-when :
      (v : Verdict) → Right v → Kept t ps c s a v → (u : Tree) → Derivation t c u →
      tree_cost (table_rows t) u < limit → BestOutcome t ps c s a.store a.answer
  outcome-when no_term r k u d l = absurd (r u d)
  outcome-when too_dear r k u d l =
      let h : limit ≤ tree_cost (table_rows t) u = r.1 u d in
      absurd (omega (arith, h, l))
  outcome-when (best w) r k u d l = k

  outcome-choice : (x : Answer BestTerm) → BestOutcome t ps c s a.store x → Choice t ps c
  outcome-choice (value b) o = o.choice
  outcome-choice (refusal j) o = o.choice

  pub choice-when :
      (v : Verdict) → Right v → Kept t ps c s a v → (u : Tree) → Derivation t c u →
      tree_cost (table_rows t) u < limit → Choice t ps c
  choice-when v r k u d l = outcome-choice a.answer (outcome-when v r k u d l)

  chosen-outcome :
      (v : Verdict) → Right v → Kept t ps c s a v → Choice t ps c →
      BestOutcome t ps c s a.store a.answer
  chosen-outcome v r k x =
      let e : tree_cost (table_rows t) x.tree ≡ x.cost = x.cheapest.exact in
      let b : x.cost < limit = x.below in
      outcome-when v r k x.tree x.cheapest.is_deriving (omega (arith, e, b))

  pub found-then :
      (v : Verdict) → Kept t ps c s a v → (b : BestTerm) → a.answer ≡ value b → ComesBack t ps c s b a.store
  found-then no_term k b e = not-refused (sym e ∙ told k)
  found-then too_dear k b e = not-refused (sym e ∙ told k)
  found-then (best w) k b e = outcome-found t ps c s a.store a.answer k b e

  abbrev Room : (Store → Term → Type 0) → Type 0
  Room P = (x : Choice t ps c) × P s (chosen_term t ps c x)

  pub room-then : (v : Verdict) → Kept t ps c s a v → (b : BestTerm) → a.answer ≡ value b → Room HasRoom
  room-then v k b e =
      let o : ComesBack t ps c s b a.store = found-then v k b e in (
        o.choice,
        record {
          store = a.store;
          fits = o.fits;
          holds = record { place = b.term; below = o.below; means = o.means };
        },
      )

  pub room-when :
      (v : Verdict) → Right v → Kept t ps c s a v → Room HasRoom → (b : BestTerm) × (a.answer ≡ value b)
  room-when v r k h = outcome-room t ps c s a.store a.answer (chosen-outcome v r k h.0) h.0 h.1

  pub no-room-then : (v : Verdict) → Kept t ps c s a v → a.answer ≡ refusal 13 → Room NoRoomFor
  no-room-then no_term k e = absurd (omega (arith, same_number (sym (told k) ∙ e)))
  no-room-then too_dear k e = absurd (omega (arith, same_number (sym (told k) ∙ e)))
  no-room-then (best w) k e =
      let o = outcome-refused t ps c s a.store a.answer k 13 e in
      (o.choice, o.none)

  pub no-room-when : (v : Verdict) → Right v → Kept t ps c s a v → Room NoRoomFor → a.answer ≡ refusal 13
  no-room-when v r k n = outcome-none t ps c s a.store a.answer (chosen-outcome v r k n.0) n.0 n.1

  pub number-told :
      (v : Verdict) → Kept t ps c s a v → (k : ℕ) → a.answer ≡ refusal k → (k ≡ 11) ⊎ ((k ≡ 12) ⊎ (k ≡ 13))
  number-told no_term h k e = inl (same_number (sym e ∙ told h))
  number-told too_dear h k e = inr (inl (same_number (sym e ∙ told h)))
  number-told (best w) h k e = inr (inr (refused-by h k e))
