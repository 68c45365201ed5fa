-- Building leaves the lists of a lent store as long as they were: by the definition, with no code in sight. Assumes
-- nothing.
use Prim.Native.Nat.{ℕ, zero, suc, ◌+◌, ◌-◌, ◌*◌, ◌≤◌}
use mathlib.Core.Path.{◌≡◌, refl, subst, ◌∙◌}
use mathlib.Core.Bool.{Bool, true, false}
use mathlib.Core.List.{List, [], ◌∷◌, ◌++◌}
use native.Mathlib.Omega.{arith}
use lib.ListN.{length, get_or, length-set, length-append, length-replicate}
use lib.Seq.{length-paste}
use lib.Dec.{ltb}
use lib.IntN.{ℤ}
use borrow.Author.Tests.{ltb-true}
use Rattle.std.specs.Prelude.{Option, Some, None}
use Rattle.name.specs.Entries.{HasEntry, entry, put_name}
use Rattle.term_rules.specs.declared.Term.{Term}
use Rattle.term_rules.specs.Lent.{Store, store, width, HasRecord, numbers, term_room, symbol_room}
use Rattle.term_rules.specs.Nodes.{Node, literal, variable, application, record_of}
use Rattle.term_rules.specs.Adding.{
  find_symbol,
  find_term,
  with_name,
  with_record,
  symbol_for,
  append,
  room_for_name,
  room_for,
  Adds,
  at,
  no_room,
  add,
}
use Rattle.term_rules.proofs.TestLaws.{and_first, and_second}
use Rattle.term_rules.proofs.Adding.AppendLaws.{room-of-terms}
use Rattle.build.specs.Plan.{Child, class, value, Plan}
use Rattle.build.specs.Building.{State, Out, done, full, added, kept, child_in, children_in, own_in, build_in}

-- the lists are as long as the store's
pub record Long (s : Store) (rs : List ℕ) (ls : List ℤ) (ns : List ℕ) : Type 0 where
  pub records : length rs ≡ length s.records
  pub literals : length ls ≡ length s.literals
  pub names : length ns ≡ length s.names

abbrev pub Same : Store → Store → Type 0
Same s s' = Long s s'.records s'.literals s'.names

pub same : (s : Store) → Same s s
same s = record { records = refl; literals = refl; names = refl }

after : {s s' : Store} {rs ns : List ℕ} {ls : List ℤ} → Same s s' → Long s' rs ls ns → Long s rs ls ns
after g k = record {
  records = k.records ∙ g.records;
  literals = k.literals ∙ g.literals;
  names = k.names ∙ g.names;
}

entry-wide : (name : List ℕ) → 32 ≤ length (entry name)
unfolding entry
entry-wide name = simp (length-append, length-replicate) (omega arith)

put-long : (t : List ℕ) (k : ℕ) (name : List ℕ) → HasEntry t k → length (put_name t k name) ≡ length t
unfolding put_name
put-long t k name h = length-paste t (k * 32) (entry name) 32 h (entry-wide name)

module _ (s : Store) where
  record-long : (b : Store) (t : Term) → Same s b → HasRecord b.records b.terms → 8 ≤ length t.children → Same s
      (with_record b t)
  unfolding with_record
  record-long b t h long wide = record {
    records = length-paste b.records (b.terms * width) (numbers t) width long (omega (arith, wide)) ∙ h.records;
    literals = length-set b.literals b.terms t.literal ∙ h.literals;
    names = h.names;
  }

  room-symbols : ltb s.symbols (symbol_room s) ≡ true → HasEntry s.names s.symbols
  unfolding symbol_room
  room-symbols e = omega (arith, ltb-true s.symbols _ e)

  -- a record of the node, after its name
  named-long :
      (name : List ℕ) (t : Term) → room_for_name s name ≡ true → ltb s.terms (term_room s) ≡ true →
      8 ≤ length t.children → Same s (with_record (with_name s name) t)
  unfolding room_for_name with_name
  named-long name t r e wide = by (find_symbol s name) r
    where
      by :
          (f : Option ℕ) → elim f as (λ _. Bool) [ Some k ↦ true | None ↦ ltb s.symbols (symbol_room s) ] ≡ true →
          Same s
          (with_record
          (elim f as (λ _. Store) [
            | Some k ↦ s
            | None ↦ store s.records s.literals (put_name s.names s.symbols name)
                s.terms (s.symbols + 1)
          ])
          t)
      by (Some k) r = record-long s t (same s) (room-of-terms s e).records wide
      by None r =
          record-long (store s.records s.literals (put_name s.names s.symbols name) s.terms (s.symbols + 1)) t
          (record { records = refl; literals = refl; names = put-long s.names s.symbols name (room-symbols r) })
          (room-of-terms s e).records wide

  append-long : (node : Node) → room_for s node ≡ true → Same s (append s node)
  unfolding room_for append record_of
  append-long (literal z) r =
      record-long s (record_of 0 (literal z)) (same s) (room-of-terms s r).records (omega arith)
  append-long (variable n) r =
      named-long n (record_of (symbol_for s n) (variable n)) (and_second (ltb s.terms (term_room s)) _ r)
      (and_first (ltb s.terms (term_room s)) _ r) (omega arith)
  append-long (application n ks) r =
      named-long n (record_of (symbol_for s n) (application n ks)) (and_second (ltb s.terms (term_room s)) _ r)
      (and_first (ltb s.terms (term_room s)) _ r) (simp (length-append, length-replicate) (omega arith))

  abbrev SameAfter : Adds → Type 0
  SameAfter (at t s') = Same s s'
  SameAfter no_room = Unit

  room-long : (node : Node) (b : Bool) → room_for s node ≡ b → SameAfter
      (elim b as (λ _. Adds) [ true ↦ at s.terms (append s node) | false ↦ no_room ])
  room-long node true e = append-long node e
  room-long node false e = tt

  found-long :
      (node : Node) (f : Option ℕ) → SameAfter
      (elim f as (λ _. Adds) [
        | Some i ↦ at i s
        | None ↦ elim (room_for s node) [ true ↦ at s.terms (append s node) | false ↦ no_room ]
      ])
  found-long node (Some i) = same s
  found-long node None = room-long node (room_for s node) refl

  add-long : (node : Node) → SameAfter (add s node)
  unfolding add
  add-long node = found-long node (find_term s node)

-- what was built, or how far it came, has lists as long
abbrev pub LongOut : {A : Type 0} → Store → Out A → Type 0
LongOut s (done t s') = Same s s'.lent
LongOut s (full me rs ls ns) = Long s rs ls ns

pub later : {A : Type 0} {s : Store} (s' : Store) → Same s s' → (o : Out A) → LongOut s' o → LongOut s o
later s₁ g (done t s') k = after g k
later s₁ g (full me rs ls ns) k = after g k

added-by : (s : State) (a : Adds) → SameAfter s.lent a → LongOut s.lent (added s a)
unfolding added
added-by s (at t s') h = h
added-by s no_room h = same s.lent

pub added-long : (s : State) (node : Node) → LongOut s.lent (added s (add s.lent node))
added-long s node = added-by s (add s.lent node) (add-long s.lent node)

kept-long : (s : Store) (c : ℕ) (o : Out ℕ) → LongOut s o → LongOut s (kept c o)
unfolding kept
kept-long s c (done t s') h = h
kept-long s c (full me rs ls ns) h = h

own-long : (s : Store) (name : List ℕ) (c : ℕ) (o : Out (List ℕ)) → LongOut s o → LongOut s (own_in name c o)
unfolding own_in
own-long s name c (full me rs ls ns) h = h
own-long s name c (done ks s') h =
    let a = added s' (add s'.lent (application name ks)) in
    later s'.lent h (kept c a) (kept-long s'.lent c a (added-long s' (application name ks)))

module _ (g : State → ℕ → Out ℕ) (long : (s : State) (c : ℕ) → LongOut s.lent (g s c)) where
  child-long : (s : State) (x : Child) → LongOut s.lent (child_in g s x)
  unfolding child_in
  child-long s (class c) = long s c
  child-long s (value z) = added-long s (literal z)

  next-long :
      (xs : List Child) (s : State) (ks : List ℕ) →
      ((s' : State) (ls : List ℕ) → LongOut s'.lent (children_in g s' ls xs)) → (o : Out ℕ) → LongOut s.lent o →
      LongOut s.lent
      (elim o as (λ _. Out (List ℕ)) [
        | done t s' ↦ children_in g s' (ks ++ (t ∷ [])) xs
        | full me rs ls ns ↦ full me rs ls ns
      ])
  next-long xs s ks on (done t s') h = later s'.lent h (children_in g s' (ks ++ (t ∷ [])) xs) (on s' (ks ++ (t ∷ [])))
  next-long xs s ks on (full me rs ls ns) h = h

  pub children-long : (xs : List Child) (s : State) (ks : List ℕ) → LongOut s.lent (children_in g s ks xs)
  unfolding children_in
  children-long [] s ks = same s.lent
  children-long (x ∷ xs) s ks = next-long xs s ks (children-long xs) (child_in g s x) (child-long s x)

module _ (p : Plan) where
  build-by :
      (f : ℕ) → ((s : State) (c : ℕ) → LongOut s.lent (build_in p f s c)) → (s : State) (c : ℕ) (q : Bool) →
      LongOut s.lent
      (elim q as (λ _. Out ℕ) [
        | true ↦ done (get_or s.memo c 0 - 1) s
        | false ↦ own_in (p.name c) c (children_in (build_in p f) s [] (p.children c))
      ])
  build-by f long s c true = same s.lent
  build-by f long s c false =
      own-long s.lent (p.name c) c (children_in (build_in p f) s [] (p.children c))
      (children-long (build_in p f) long (p.children c) s [])

  pub build-long : (f : ℕ) (s : State) (c : ℕ) → LongOut s.lent (build_in p f s c)
  unfolding build_in
  build-long zero s c = same s.lent
  build-long (suc f) s c = build-by f (build-long f) s c (ltb 0 (get_or s.memo c 0))

  -- where there was no room
  pub full-long :
      (f : ℕ) (s : State) (c : ℕ) {me rs ns : List ℕ} {ls : List ℤ} → build_in p f s c ≡ full me rs ls ns →
      Long s.lent rs ls ns
  full-long f s c e = subst (LongOut s.lent) e (build-long f s c)
