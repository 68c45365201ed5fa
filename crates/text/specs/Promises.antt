-- What the texts promise: document 01, 'Terms' and 'Refusal numbers'. Assumes nothing: a record, with one field for
-- each theorem.
use Rattle.std.specs.Prelude.{ℕ, suc, ◌+◌, ◌*◌, ◌-◌, ◌≤◌, ◌<◌, ◌≡◌, true, false, List, [], ◌∷◌, ◌++◌, length, drop, get_or, pos, negsuc, Result}
use Rattle.decimal.specs.Decimal.{digits}
use Rattle.name.specs.Name.{valid}
use Rattle.term_rules.specs.Lent.{Store}
use Rattle.term_rules.specs.WellFormed.{well_formed}
use Rattle.term_rules.specs.Nodes.{literal, variable, node_at, Tree, Means}
use Rattle.term_rules.specs.Growing.{Grows}
use Rattle.text_rules.specs.PlainText.{plain_text}
use Rattle.text_rules.specs.LetText.{Naming, let_text, next_count}
use Rattle.refusal.specs.declared.Refusal.{Refusal}
use Rattle.text_whole.specs.declared.LetText.{LetText}
use Rattle.text_whole.specs.Placed.{told, written, refusal, answer_of}
use Rattle.text.specs.Told.{plain_told}
use Rattle.text_whole.specs.LetPlaced.{let_answer_of, valid_prefix}
use Rattle.text.specs.LetTold.{let_told}
use Rattle.text_whole.specs.LetPlaced.{written as lettered, refusal as let_refusal}

-- the number that decimal digits stand for, after those that stand for n
unfoldable pub value_from : ℕ → List ℕ → ℕ
value_from n [] = n
value_from n (b ∷ bs) = value_from (n * 10 + (b - 48)) bs

abbrev pub value_of : List ℕ → ℕ
value_of bs = value_from 0 bs

-- The store is well formed, and has the term.
pub record Has (s : Store) (t : ℕ) : Type 0 where
  pub formed : well_formed s ≡ true
  pub known : t < s.terms

-- Prefix, hint and start count can be taken.
pub record Nameable (nm : Naming) : Type 0 where
  pub prefix : valid_prefix nm.prefix ≡ true
  pub hint : valid nm.hint ≡ true
  pub start : nm.start ≤ 4294966271

pub record Promises : Type 0 where
  -- Plain text. The four cases are all there are, and no two are one: each refusal comes exactly when document 01 gives
  -- it and leaves what is lent as it was; the text comes exactly when it fits, its length is told, and what is past it
  -- stays.
  pub plain_store :
      (s : Store) (t : ℕ) (out : List ℕ) →
      well_formed s ≡ false →
      plain_told s t out ≡ told (refusal 17) out
  pub plain_term :
      (s : Store) (t : ℕ) (out : List ℕ) →
      well_formed s ≡ true →
      s.terms ≤ t →
      plain_told s t out ≡ told (refusal 14) out
  pub plain_no_room :
      (s : Store) (t : ℕ) (out : List ℕ) →
      Has s t →
      length out < length (plain_text s t) →
      plain_told s t out ≡ told (refusal 13) out
  pub plain_written :
      (s : Store) (t : ℕ) (out : List ℕ) →
      Has s t →
      length (plain_text s t) ≤ length out →
      plain_told s t out
      ≡ told (written (length (plain_text s t))) (plain_text s t ++ drop (length (plain_text s t)) out)
  -- Let text. The same, in its order of refusals; the next unused count is told with the length.
  pub let_store :
      (s : Store) (nm : Naming) (t : ℕ) (out : List ℕ) →
      well_formed s ≡ false →
      let_told s nm t out ≡ told (let_refusal 17) out
  pub let_term :
      (s : Store) (nm : Naming) (t : ℕ) (out : List ℕ) →
      well_formed s ≡ true →
      s.terms ≤ t →
      let_told s nm t out ≡ told (let_refusal 14) out
  pub let_prefix :
      (s : Store) (nm : Naming) (t : ℕ) (out : List ℕ) →
      Has s t →
      valid_prefix nm.prefix ≡ false →
      let_told s nm t out ≡ told (let_refusal 4) out
  pub let_hint :
      (s : Store) (nm : Naming) (t : ℕ) (out : List ℕ) →
      Has s t →
      valid_prefix nm.prefix ≡ true →
      valid nm.hint ≡ false →
      let_told s nm t out ≡ told (let_refusal 4) out
  pub let_start :
      (s : Store) (nm : Naming) (t : ℕ) (out : List ℕ) →
      Has s t →
      valid_prefix nm.prefix ≡ true →
      valid nm.hint ≡ true →
      4294966271 < nm.start →
      let_told s nm t out ≡ told (let_refusal 3) out
  pub let_no_room :
      (s : Store) (nm : Naming) (t : ℕ) (out : List ℕ) →
      Has s t →
      Nameable nm →
      length out < length (let_text s nm t) →
      let_told s nm t out ≡ told (let_refusal 13) out
  pub let_written :
      (s : Store) (nm : Naming) (t : ℕ) (out : List ℕ) →
      Has s t →
      Nameable nm →
      length (let_text s nm t) ≤ length out →
      let_told s nm t out
      ≡ told (lettered (length (let_text s nm t)) (next_count s nm t))
      (let_text s nm t ++ drop (length (let_text s nm t)) out)
  -- The next unused count has 32 bits: the start count's limit leaves room for a binding of every term.
  pub let_next :
      (s : Store) (nm : Naming) (t : ℕ) → Has s t → nm.start ≤ 4294966271 → next_count s nm t ≤ 4294967295
  -- Whatever is told, the lent part keeps its length.
  pub plain_keeps : (s : Store) (t : ℕ) (out : List ℕ) → length (plain_told s t out).out ≡ length out
  pub let_keeps : (s : Store) (nm : Naming) (t : ℕ) (out : List ℕ) → length (let_told s nm t out).out ≡ length out
  -- A text depends on its term alone: numbers of two stores that mean the same tree have the same plain text, the same
  -- let text and the same next count, whatever else the stores hold and however they were filled.
  pub plain_tree :
      (s s' : Store) (i j : ℕ) (t : Tree) →
      Has s i →
      Has s' j →
      Means s i t →
      Means s' j t →
      plain_text s i ≡ plain_text s' j
  pub let_tree :
      (s s' : Store) (i j : ℕ) (t : Tree) (nm : Naming) →
      Has s i →
      Has s' j →
      Means s i t →
      Means s' j t →
      (let_text s nm i ≡ let_text s' nm j) × (next_count s nm i ≡ next_count s' nm j)
  -- So a store that only grew keeps the texts of its terms.
  pub plain_grown : (s s' : Store) (i : ℕ) → Has s i → Grows s s' → plain_text s' i ≡ plain_text s i
  pub let_grown :
      (s s' : Store) (i : ℕ) (nm : Naming) →
      Has s i →
      Grows s s' →
      (let_text s' nm i ≡ let_text s nm i) × (next_count s' nm i ≡ next_count s nm i)
  -- "a negative literal prints a minus and its exact magnitude, no literal a plus or leading zero"
  pub literal_positive :
      (s : Store) (t n : ℕ) → node_at s t ≡ literal (pos n) → plain_text s t ≡ digits n
  pub literal_negative :
      (s : Store) (t n : ℕ) → node_at s t ≡ literal (negsuc n) → plain_text s t ≡ 45 ∷ digits (suc n)
  pub digits_exact : (n : ℕ) → value_of (digits n) ≡ n
  pub digits_lead : (n : ℕ) → 0 < n → 48 < get_or (digits n) 0 0
  -- "bare literals and variables"
  pub variable_bare : (s : Store) (t : ℕ) (name : List ℕ) → node_at s t ≡ variable name → plain_text s t ≡ name
  -- Each call's answer and what it leaves are determined: what is told the same is the same.
  pub plain_determined :
      (r q : Result ℕ Refusal) (o p : List ℕ) → told (answer_of r) o ≡ told (answer_of q) p → (r ≡ q) × (o ≡ p)
  pub let_determined :
      (r q : Result LetText Refusal) (o p : List ℕ) → told (let_answer_of r) o ≡ told (let_answer_of q) p → (r ≡ q) × (o ≡ p)
