-- The laws of a let text placed in the lent part, and of the stores and names that it takes. Assumes nothing.
use mathlib.Core.Path.{◌≡◌, refl, sym, ap, ◌∙◌}
use mathlib.Core.Bool.{true, false, and-eq-true_iff}
use mathlib.Core.List.{List, ◌++◌}
use Prim.Native.Nat.{ℕ, ◌+◌, ◌-◌, ◌≤◌, ◌<◌}
use native.Mathlib.Omega.{arith}
use lib.ListN.{length, take}
use lib.Seq.{take_at}
use lib.IntN.{ℤ}
use lib.Dec.{leb}
use borrow.Author.Tests.{leb-true}
use Rattle.decimal.specs.Written.{Wrote}
use Rattle.name.specs.Name.{all_allowed, valid}
use Rattle.term_rules.specs.Lent.{store, record_in}
use Rattle.term_rules.specs.Nodes.{node_of, node_at}
use Rattle.term_rules.specs.Facts.{Sound, SoundRecord, a_literal, a_variable, an_application}
use Rattle.text_rules.specs.LetText.{Naming, several, bindings_of, let_layout, let_text, next_count}
use Rattle.text_pieces.specs.Readable.{nodes, head_text}
use Rattle.text_pieces.proofs.heads.NodeLaws.{node-literal, node-variable, node-application}
use Rattle.text_pieces.proofs.heads.ReadableLaws.{readable-of-sound}
use Rattle.text_lines.proofs.CleanLaws.{several-append, several-of-literal, several-of-allowed, several-step}
use Rattle.text_whole.specs.Placed.{placed}
use Rattle.text_whole.specs.LetPlaced.{written, refusal, valid_prefix, let_placed, Layable}

-- a term's node does not depend on the counts, so neither does its let text
pub let-text-nodes :
    (rs : List ℕ) (ls : List ℤ) (ns : List ℕ) (terms symbols : ℕ) (nm : Naming) (t : ℕ) (out : List ℕ) →
    let_placed (store rs ls ns terms symbols) nm t out
    ≡ placed (let_layout (nodes rs ls ns) nm t)
    (written (length (let_layout (nodes rs ls ns) nm t)) (nm.start + length (bindings_of (nodes rs ls ns) t)))
    (refusal 13) out
unfolding let_text next_count node_at node_of
let-text-nodes rs ls ns terms symbols nm t out = refl

-- the same of the last of the first t + 1 terms
pub let-text-last :
    (rs : List ℕ) (ls : List ℤ) (ns : List ℕ) (terms symbols : ℕ) (nm : Naming) (t : ℕ) (out : List ℕ) →
    placed (let_layout (nodes rs ls ns) nm (t + 1 - 1))
    (written (length (let_layout (nodes rs ls ns) nm (t + 1 - 1)))
    (nm.start + length (bindings_of (nodes rs ls ns) (t + 1 - 1)))) (refusal 13) out
    ≡ let_placed (store rs ls ns terms symbols) nm t out
let-text-last rs ls ns terms symbols nm t out =
    let e : t + 1 - 1 ≡ t = omega arith in rw e (sym (let-text-nodes rs ls ns terms symbols nm t out))

-- ---- a name is short, and holds no newline
short-and-allowed : (name : List ℕ) → valid name ≡ true → valid_prefix name ≡ true
unfolding valid valid_prefix
short-and-allowed name e = ((and-eq-true_iff (leb 1 (length name)) _).0 e).1

pub short-of-prefix : (prefix : List ℕ) → valid_prefix prefix ≡ true → length prefix ≤ 31
unfolding valid_prefix
short-of-prefix prefix e =
    leb-true (length prefix) 31 ((and-eq-true_iff (leb (length prefix) 31) (all_allowed prefix)).0 e).0

pub clean-of-prefix : (prefix : List ℕ) → valid_prefix prefix ≡ true → several prefix ≡ false
unfolding valid_prefix
clean-of-prefix prefix e =
    several-of-allowed prefix ((and-eq-true_iff (leb (length prefix) 31) (all_allowed prefix)).0 e).1

pub clean-of-valid : (name : List ℕ) → valid name ≡ true → several name ≡ false
clean-of-valid name e = clean-of-prefix name (short-and-allowed name e)

module _ (rs : List ℕ) (ls : List ℤ) (ns : List ℕ) (terms symbols : ℕ) (w : Sound (store rs ls ns terms symbols)) where
  head-clean : (t : ℕ) → SoundRecord symbols t (record_in rs ls t) → several (head_text (nodes rs ls ns t)) ≡ false
  unfolding record_in
  head-clean t (a_literal r) = ap (λ x. several (head_text x)) (node-literal rs ls ns t r.kind) ∙ several-of-literal _
  head-clean t (a_variable r) =
      ap (λ x. several (head_text x)) (node-variable rs ls ns t r.kind)
      ∙ clean-of-valid _ (w.name _ r.symbol).allowed
  head-clean t (an_application r) =
      ap (λ x. several (head_text x)) (node-application rs ls ns t r.kind)
      ∙ several-step 40 _ (λ (e : 40 ≡ 10). omega arith) (clean-of-valid _ (w.name _ r.symbol).allowed)

  pub layable-of-sound :
      (stem : List ℕ) (t start : ℕ) →
      t < terms →
      several stem ≡ false →
      start ≤ 4294966271 →
      Layable rs ls ns stem (t + 1) start
  layable-of-sound stem t start l c b = record {
    readable = readable-of-sound rs ls ns terms symbols (t + 1) w (omega arith);
    some = omega arith;
    clean = λ u k. head-clean u (w.term u (omega arith));
    clean_stem = c;
    low = b;
  }

-- ---- the stem
pub stem-long :
    (prefix hint : List ℕ) →
    valid_prefix prefix ≡ true →
    valid hint ≡ true →
    length prefix + length hint ≤ 62
stem-long prefix hint p h =
    omega (arith, short-of-prefix prefix p, short-of-prefix hint (short-and-allowed hint h))

pub stem-clean :
    (prefix hint : List ℕ) →
    valid_prefix prefix ≡ true →
    valid hint ≡ true →
    several (prefix ++ hint) ≡ false
stem-clean prefix hint p h = several-append prefix hint (clean-of-prefix prefix p) (clean-of-valid hint h)

pub stem-is : (d o o' : List ℕ) (r : ℕ) → Wrote d r o o' → take r o' ≡ d
stem-is d o o' r w = ap (take r) w.bytes ∙ take_at d _ r (sym w.long)
