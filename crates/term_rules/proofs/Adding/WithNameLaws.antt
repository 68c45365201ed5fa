-- A store with a name, "if new", stays well formed, and the name has a symbol number there. Assumes nothing.
use Prim.Native.Nat.{ℕ, ◌+◌, ◌≤◌, ◌<◌, min}
use mathlib.Core.Path.{◌≡◌, refl, sym, ap, subst, ◌∙◌}
use mathlib.Core.Bool.{Bool, true}
use mathlib.Core.List.{List}
use Prim.{Dec, yes, no}
use native.Mathlib.Decide.{ℕ_discrete}
use native.Mathlib.Omega.{arith}
use lib.ListN.{length}
use lib.Dec.{ltb}
use borrow.Author.Tests.{ltb-true}
use Rattle.name.specs.Name.{valid, same}
use Rattle.name.specs.Entries.{entries_length, entry_room, HasEntry, name_at, put_name}
use Rattle.std.specs.Prelude.{Option, Some, None}
use Rattle.term_rules.specs.Lent.{Store, store, symbol_at, symbol_room}
use Rattle.term_rules.specs.Facts.{SoundName, Sound}
use Rattle.term_rules.specs.Adding.{find_symbol, symbol_for, with_name, room_for_name}
use Rattle.term_rules.proofs.SameLaws.{same-tells, tells-apart}
use Rattle.term_rules.proofs.SearchLaws.{first-at, first-missing, find_name-first}
use Rattle.name.proofs.PutLaws.{name_at-kept, name_at-put, put_name-length}
use Rattle.term_rules.proofs.Adding.NamingLaws.{valid-short, sound-before, sound-at}
use Rattle.term_rules.proofs.Adding.AppendLaws.{sound_record-mono}

-- the name has symbol number k in the second store, which is else as the first
pub record Named (s : Store) (name : List ℕ) (s' : Store) (k : ℕ) : Type 0 where
  pub sound : Sound s'
  pub records : s'.records ≡ s.records
  pub literals : s'.literals ≡ s.literals
  pub terms : s'.terms ≡ s.terms
  pub more : s.symbols ≤ s'.symbols
  pub below : k < s'.symbols
  pub is : symbol_at s' k ≡ name
  pub old : (j : ℕ) → j < s.symbols → symbol_at s' j ≡ symbol_at s j

module _ (s : Store) (name : List ℕ) (sound : Sound s) (v : valid name ≡ true) where
  here : (k : ℕ) → find_symbol s name ≡ Some k → Named s name s k
  here k e =
      let r =
      first-at (λ (j : ℕ). same (name_at s.names j) name) s.symbols 0 k
      (sym (find_name-first s.names name s.symbols) ∙ e) in
      record {
        sound = sound;
        records = refl;
        literals = refl;
        terms = refl;
        more = omega arith;
        below = omega (arith, r.1);
        is = same-tells.eq (name_at s.names k) name r.2;
        old = λ j l. refl;
      }

  module _ (missing : find_symbol s name ≡ None) (room : ltb s.symbols (symbol_room s) ≡ true) where
    fits : (s.symbols < 128) × HasEntry s.names s.symbols
    unfolding symbol_room
    fits =
        let l : s.symbols < min 128 (entry_room (length s.names)) =
        ltb-true s.symbols (min 128 (entry_room (length s.names))) room in
        (omega arith, omega arith)

    abbrev new : Store
    new = store s.records s.literals (put_name s.names s.symbols name) s.terms (s.symbols + 1)

    long : entries_length s.symbols ≤ length s.names
    long = omega (arith, fits.1)

    old : (k : ℕ) → k < s.symbols → symbol_at new k ≡ symbol_at s k
    old k l = name_at-kept s.names s.symbols name long (valid-short name v) k l (sound.name k l).short

    is : symbol_at new s.symbols ≡ name
    is = name_at-put s.names s.symbols name long (valid-short name v)

    name_by : (k : ℕ) → k < s.symbols + 1 → Dec (k ≡ s.symbols) → SoundName new.names k
    name_by k l (yes e) =
        subst (SoundName new.names) (sym e) (sound-at s.names s.symbols name long (valid-short name v) v)
    name_by k l (no f) =
        let h : k < s.symbols = omega arith in
        sound-before s.names s.symbols name long (valid-short name v) k h (sound.name k h)

    apart : (k : ℕ) → k < s.symbols → symbol_at new k ≡ name → ⊥
    apart k l e =
        tells-apart same same-tells (name_at s.names k) name
        (first-missing (λ (j : ℕ). same (name_at s.names j) name) s.symbols 0
        (sym (find_name-first s.names name s.symbols) ∙ missing) k (omega arith) (omega arith))
        (sym (old k l) ∙ e)

    once_by :
        (j k : ℕ) →
        j < s.symbols + 1 →
        k < s.symbols + 1 →
        symbol_at new j ≡ symbol_at new k →
        Dec (j ≡ s.symbols) →
        Dec (k ≡ s.symbols) →
        j ≡ k
    once_by j k a b e (yes p) (yes q) = p ∙ sym q
    once_by j k a b e (yes p) (no q) = absurd (apart k (omega arith) (sym e ∙ ap (symbol_at new) p ∙ is))
    once_by j k a b e (no p) (yes q) = absurd (apart j (omega arith) (e ∙ ap (symbol_at new) q ∙ is))
    once_by j k a b e (no p) (no q) =
        let h : j < s.symbols = omega arith in
        let i : k < s.symbols = omega arith in
        sound.name_once j k h i (sym (old j h) ∙ e ∙ old k i)

    there : Named s name new s.symbols
    there = record {
      sound = record {
        term_limit = sound.term_limit;
        records_long = sound.records_long;
        literals_long = sound.literals_long;
        symbol_limit = omega (arith, fits.0);
        names_long =
            omega (arith, fits.1, put_name-length s.names s.symbols name long (valid-short name v) fits.1);
        name = λ k l. name_by k l (ℕ_discrete k s.symbols);
        name_once = λ j k a b e. once_by j k a b e (ℕ_discrete j s.symbols) (ℕ_discrete k s.symbols);
        term = λ i l. sound_record-mono (omega arith) (sound.term i l);
        term_once = sound.term_once;
      };
      records = refl;
      literals = refl;
      terms = refl;
      more = omega arith;
      below = omega arith;
      is = is;
      old = old;
    }

  named_by :
      (f : Option ℕ) →
      find_symbol s name ≡ f →
      elim f as (λ _. Bool) [ Some k ↦ true | None ↦ ltb s.symbols (symbol_room s) ] ≡ true →
      Named s name
      (elim f as (λ _. Store) [
        | Some k ↦ s
        | None ↦
            store s.records s.literals (put_name s.names s.symbols name) s.terms (s.symbols + 1)
      ])
      (elim f as (λ _. ℕ) [ Some k ↦ k | None ↦ s.symbols ])
  named_by (Some k) e r = here k e
  named_by None e r = there e r

  pub with_name-named : room_for_name s name ≡ true → Named s name (with_name s name) (symbol_for s name)
  unfolding room_for_name with_name symbol_for
  with_name-named r = named_by (find_symbol s name) refl r
