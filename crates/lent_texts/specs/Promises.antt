-- What the texts on lent lists promise beside their contracts: what `text` promises of its calls, of the store that the
-- lists are (`lent/specs/Promises.antt` says which that is). That a text depends on its term alone, and the rest of
-- `text/specs/Promises.antt`, is said of every store. Assumes nothing: a record, with one field for each theorem.
use Rattle.std.specs.Prelude.{ℕ, ◌≤◌, ◌<◌, ◌≡◌, true, false, List, ◌++◌, length, drop, Result}
use Rattle.name.specs.Name.{valid}
use Rattle.term_rules.specs.declared.Term.{Term}
use Rattle.term_rules.specs.Lent.{Store}
use Rattle.term_rules.specs.WellFormed.{well_formed}
use Rattle.text_rules.specs.PlainText.{plain_text}
use Rattle.text_rules.specs.LetText.{Naming, let_text, next_count}
use Rattle.refusal.specs.declared.Refusal.{Refusal}
use Rattle.text_whole.specs.declared.LetText.{LetText}
use Rattle.text_whole.specs.Placed.{Answer, told, written, refusal, answer_of}
use Rattle.text.specs.Told.{plain_told}
use Rattle.text_whole.specs.LetPlaced.{LetAnswer, let_answer_of, valid_prefix}
use Rattle.text.specs.LetTold.{let_told}
use Rattle.text_whole.specs.LetPlaced.{written as lettered, refusal as let_refusal}
use Rattle.text.specs.Promises.{Has, Nameable}
use Rattle.lent.specs.Records.{lent_store}

-- What the contracts allow: of lists, counts, term and buffer, the answer and the buffer after.
abbrev pub PlainOn : List Term → List (List ℕ) → ℕ → ℕ → ℕ → List ℕ → Result ℕ Refusal → List ℕ → Type 0
PlainOn ts ns n m t out r after = told (answer_of r) after ≡ plain_told (lent_store ts ns n m) t out

abbrev pub LetOn : List Term → List (List ℕ) → ℕ → ℕ → Naming → ℕ → List ℕ → Result LetText Refusal → List ℕ → Type 0
LetOn ts ns n m nm t out r after = told (let_answer_of r) after ≡ let_told (lent_store ts ns n m) nm t out

-- The answer is a, and the buffer is then `wanted`.
abbrev pub Tells : Answer → List ℕ → Result ℕ Refusal → List ℕ → Type 0
Tells a wanted r after = (answer_of r ≡ a) × (after ≡ wanted)

abbrev pub LetTells : LetAnswer → List ℕ → Result LetText Refusal → List ℕ → Type 0
LetTells a wanted r after = (let_answer_of r ≡ a) × (after ≡ wanted)

-- "Texts: 17, 14, [..] then 13": the four cases are all there are, and no two are one. A refusal leaves the buffer as it
-- was; the text comes exactly when it fits, its length is told, and what is past it stays.
pub record PlainCases (s : Store) (t : ℕ) (out : List ℕ) (r : Result ℕ Refusal) (after : List ℕ) : Type 0 where
  pub store : well_formed s ≡ false → Tells (refusal 17) out r after
  pub term : well_formed s ≡ true → s.terms ≤ t → Tells (refusal 14) out r after
  pub no_room : Has s t → length out < length (plain_text s t) → Tells (refusal 13) out r after
  pub text :
      Has s t →
      length (plain_text s t) ≤ length out →
      Tells (written (length (plain_text s t))) (plain_text s t ++ drop (length (plain_text s t)) out) r after

-- "Texts: 17, 14, then for let text 4 (prefix), 4 (hint), 3, then 13": the same, with the next unused count.
pub record LetCases (s : Store) (nm : Naming) (t : ℕ) (out : List ℕ) (r : Result LetText Refusal) (after : List ℕ) : Type 0 where
  pub store : well_formed s ≡ false → LetTells (let_refusal 17) out r after
  pub term : well_formed s ≡ true → s.terms ≤ t → LetTells (let_refusal 14) out r after
  pub prefix : Has s t → valid_prefix nm.prefix ≡ false → LetTells (let_refusal 4) out r after
  pub hint :
      Has s t → valid_prefix nm.prefix ≡ true → valid nm.hint ≡ false → LetTells (let_refusal 4) out r after
  pub start :
      Has s t →
      valid_prefix nm.prefix ≡ true →
      valid nm.hint ≡ true →
      4294966271 < nm.start →
      LetTells (let_refusal 3) out r after
  pub no_room : Has s t → Nameable nm → length out < length (let_text s nm t) → LetTells (let_refusal 13) out r after
  pub text :
      Has s t →
      Nameable nm →
      length (let_text s nm t) ≤ length out →
      LetTells (lettered (length (let_text s nm t)) (next_count s nm t))
      (let_text s nm t ++ drop (length (let_text s nm t)) out) r after

pub record Promises : Type 0 where
  -- Each refusal exactly when, and nothing changed by it; the text in full, its length told, what is past it as it was.
  pub plain :
      (ts : List Term) (ns : List (List ℕ)) (n m t : ℕ) (out : List ℕ) (r : Result ℕ Refusal) (after : List ℕ) →
      PlainOn ts ns n m t out r after →
      PlainCases (lent_store ts ns n m) t out r after
  pub lets :
      (ts : List Term) (ns : List (List ℕ)) (n m : ℕ) (nm : Naming) (t : ℕ) (out : List ℕ) (r : Result LetText Refusal)
      (after : List ℕ) →
      LetOn ts ns n m nm t out r after →
      LetCases (lent_store ts ns n m) nm t out r after
  -- Any two results that a contract allows coincide.
  pub plain_determined :
      (ts : List Term) (ns : List (List ℕ)) (n m t : ℕ) (out : List ℕ) (r q : Result ℕ Refusal) (o p : List ℕ) →
      PlainOn ts ns n m t out r o →
      PlainOn ts ns n m t out q p →
      (r ≡ q) × (o ≡ p)
  pub let_determined :
      (ts : List Term) (ns : List (List ℕ)) (n m : ℕ) (nm : Naming) (t : ℕ) (out : List ℕ) (r q : Result LetText Refusal)
      (o p : List ℕ) →
      LetOn ts ns n m nm t out r o →
      LetOn ts ns n m nm t out q p →
      (r ≡ q) × (o ≡ p)
