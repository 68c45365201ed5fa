-- A record that is put behind the others: the others stay, and it is there; so the store stays well formed. Assumes
-- nothing.
use Prim.Native.Nat.{ℕ, ◌+◌, ◌≤◌, ◌<◌, min}
use mathlib.Core.Path.{◌≡◌, sym, ap, subst, ◌∙◌}
use mathlib.Core.Bool.{true}
use Prim.{Dec, yes, no}
use native.Mathlib.Decide.{ℕ_discrete}
use native.Mathlib.Omega.{arith}
use lib.ListN.{length, length-set}
use lib.Dec.{ltb}
use borrow.Author.Tests.{ltb-true}
use Rattle.term_rules.specs.declared.Term.{Term}
use Rattle.term_rules.specs.Lent.{Store, record_room, HasRecord, records_length, record_at, term_room}
use Rattle.term_rules.specs.Facts.{SoundRecord, a_literal, a_variable, an_application, Sound}
use Rattle.term_rules.specs.Adding.{with_record}
use Rattle.term_rules.proofs.LayoutLaws.{record-kept, record-put, put-length}

-- a record that is sound stays sound where there are more symbols
pub sound_record-mono : {m m' i : ℕ} {t : Term} → m ≤ m' → SoundRecord m i t → SoundRecord m' i t
sound_record-mono h (a_literal f) = a_literal f
sound_record-mono h (a_variable f) = a_variable (record {
  kind = f.kind;
  symbol = omega (arith, f.symbol);
  count = f.count;
  literal = f.literal;
  unused = f.unused;
})
sound_record-mono h (an_application f) = an_application (record {
  kind = f.kind;
  symbol = omega (arith, f.symbol);
  count = f.count;
  literal = f.literal;
  lower = f.lower;
  unused = f.unused;
})

-- room for one more record
pub record Room (s : Store) : Type 0 where
  pub limit : s.terms < 1024
  pub records : HasRecord s.records s.terms
  pub literals : s.terms < length s.literals

pub room-of-terms : (s : Store) → ltb s.terms (term_room s) ≡ true → Room s
unfolding term_room
room-of-terms s e =
    let room : ℕ = min 1024 (min (record_room (length s.records)) (length s.literals)) in
    let l : s.terms < room = ltb-true s.terms room e in
    record { limit = omega arith; records = omega arith; literals = omega arith }

module _ (s : Store) (t : Term) (room : Room s) (wide : length t.children ≡ 8) where
  long : records_length s.terms ≤ length s.records
  long = omega (arith, room.records)

  -- the records before it stay
  pub with_record-before : (i : ℕ) → i < s.terms → record_at (with_record s t) i ≡ record_at s i
  unfolding with_record
  with_record-before i l = record-kept s.records s.terms t long wide i l s.literals

  -- it is there
  pub with_record-at : record_at (with_record s t) s.terms ≡ t
  unfolding with_record
  with_record-at = record-put s.records s.terms t long wide s.literals room.literals

  module _
      (sound : Sound s)
      (is : SoundRecord s.symbols s.terms t)
      (new : (i : ℕ) → i < s.terms → record_at s i ≡ t → ⊥) where
    term-by : (i : ℕ) → i < s.terms + 1 → Dec (i ≡ s.terms)
        → SoundRecord s.symbols i (record_at (with_record s t) i)
    term-by i l (yes e) =
        subst (λ (k : ℕ). SoundRecord s.symbols k (record_at (with_record s t) k)) (sym e)
        (subst (SoundRecord s.symbols s.terms) (sym with_record-at) is)
    term-by i l (no f) =
        let h : i < s.terms = omega arith in
        subst (SoundRecord s.symbols i) (sym (with_record-before i h)) (sound.term i h)

    once_by :
        (i j : ℕ) →
        i < s.terms + 1 →
        j < s.terms + 1 →
        record_at (with_record s t) i ≡ record_at (with_record s t) j →
        Dec (i ≡ s.terms) →
        Dec (j ≡ s.terms) →
        i ≡ j
    once_by i j a b e (yes p) (yes q) = p ∙ sym q
    once_by i j a b e (yes p) (no q) =
        let h : j < s.terms = omega arith in
        absurd
        (new j h
        (sym (with_record-before j h)
        ∙ sym e
        ∙ ap (record_at (with_record s t)) p
        ∙ with_record-at))
    once_by i j a b e (no p) (yes q) =
        let h : i < s.terms = omega arith in
        absurd (new i h (sym (with_record-before i h) ∙ e ∙ ap (record_at (with_record s t)) q ∙ with_record-at))
    once_by i j a b e (no p) (no q) =
        let h : i < s.terms = omega arith in
        let k : j < s.terms = omega arith in
        sound.term_once i j h k (sym (with_record-before i h) ∙ e ∙ with_record-before j k)

    -- the store stays well formed
    pub with_record-sound : Sound (with_record s t)
    unfolding with_record
    with_record-sound =
        let e = put-length s.records s.terms t long wide room.records in
        let f = length-set s.literals s.terms t.literal in
        record {
          term_limit = omega (arith, room.limit);
          records_long = omega (arith, e, room.records);
          literals_long = omega (arith, f, room.literals);
          symbol_limit = sound.symbol_limit;
          names_long = sound.names_long;
          name = sound.name;
          name_once = sound.name_once;
          term = λ i l. term-by i l (ℕ_discrete i s.terms);
          term_once = λ i j a b e. once_by i j a b e (ℕ_discrete i s.terms) (ℕ_discrete j s.terms);
        }
