-- The terms of a well-formed store can be read. Assumes nothing.
use mathlib.Core.Path.{◌≡◌}
use mathlib.Core.List.{List}
use Prim.Native.Nat.{ℕ, ◌≤◌, ◌<◌}
use native.Mathlib.Omega.{arith}
use lib.Seq.{get_or-take}
use lib.IntN.{ℤ}
use Rattle.term_rules.specs.Lent.{store, kind_at, symbol_no, arity_at, places_at, kids_at, record_in}
use Rattle.term_rules.specs.Facts.{Sound, SoundRecord, a_literal, a_variable, an_application}
use Rattle.term_layout.proofs.KidsLaws.{kids-length}
use Rattle.text_pieces.specs.Readable.{Inside, Readable}

-- what one record tells
record Reads (rs : List ℕ) (symbols t : ℕ) : Type 0 where
  kind : kind_at rs t ≤ 2
  arity : arity_at rs t ≤ 8
  leaf : kind_at rs t < 2 → arity_at rs t ≡ 0
  lower : Inside t (kids_at rs t)
  symbol : 0 < kind_at rs t → symbol_no rs t < symbols

no_kids : (rs : List ℕ) (t n : ℕ) → arity_at rs t ≡ 0 → Inside n (kids_at rs t)
no_kids rs t n e i l = let z : ⊥ = omega (arith, kids-length rs t) in absurd z

reads : (rs : List ℕ) (ls : List ℤ) (symbols t : ℕ) → SoundRecord symbols t (record_in rs ls t) → Reads rs symbols t
unfolding record_in
reads rs ls symbols t (a_literal r) = record {
  kind = omega (arith, r.kind);
  arity = omega (arith, r.count);
  leaf = λ (l : kind_at rs t < 2). r.count;
  lower = no_kids rs t t r.count;
  symbol = λ (l : 0 < kind_at rs t). let z : ⊥ = omega (arith, r.kind) in absurd z;
}
reads rs ls symbols t (a_variable r) = record {
  kind = omega (arith, r.kind);
  arity = omega (arith, r.count);
  leaf = λ (l : kind_at rs t < 2). r.count;
  lower = no_kids rs t t r.count;
  symbol = λ (l : 0 < kind_at rs t). r.symbol;
}
reads rs ls symbols t (an_application r) = record {
  kind = omega (arith, r.kind);
  arity = r.count;
  leaf = λ (l : kind_at rs t < 2). let z : ⊥ = omega (arith, r.kind) in absurd z;
  lower = λ i l.
      let c : i < arity_at rs t = omega (arith, kids-length rs t) in
      rw (get_or-take (arity_at rs t) (places_at rs t) i 0 c) (r.lower i c);
  symbol = λ (l : 0 < kind_at rs t). r.symbol;
}

pub readable-of-sound :
    (rs : List ℕ) (ls : List ℤ) (ns : List ℕ) (terms symbols n : ℕ) →
    Sound (store rs ls ns terms symbols) →
    n ≤ terms →
    Readable rs ls ns n
readable-of-sound rs ls ns terms symbols n s l = record {
  few = omega (arith, s.term_limit);
  in_records = omega (arith, s.records_long);
  in_literals = omega (arith, s.literals_long);
  kind = λ t k. (one t k).kind;
  arity = λ t k. (one t k).arity;
  leaf = λ t k. (one t k).leaf;
  lower = λ t k. (one t k).lower;
  name = λ t k p. record {
    long = omega (arith, (one t k).symbol p, s.names_long);
    short = (s.name (symbol_no rs t) ((one t k).symbol p)).short;
  };
}
  where
    one : (t : ℕ) → t < n → Reads rs symbols t
    one t k = reads rs ls symbols t (s.term t (omega arith))
