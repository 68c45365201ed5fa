-- Records that are the same are in one bucket, so a record that no other of its bucket is the same as is new. Assumes
-- nothing.
use Prim.Native.Nat.{ℕ, ◌+◌, ◌*◌, ◌-◌, ◌%◌, ◌≤◌, ◌<◌}
use mathlib.Core.Path.{◌≡◌, sym, ap, subst, ◌∙◌}
use mathlib.Core.Bool.{Bool, true, false, not}
use mathlib.Core.List.{List}
use native.Mathlib.Numerals.{add-one}
use native.Mathlib.Omega.{arith}
use native.Mathlib.Decide.{ℕ_discrete}
use mathlib.Core.Logic.{◌⊎◌, inl, inr}
use Prim.{Dec, yes, no}
use borrow.Author.Tests.{leb-true, leb-false}
use lib.Dec.{leb}
use lib.IntN.{ℤ, pos, nat_abs}
use lib.ListN.{length, get_or, set, drop, drop_of_length-le, replicate, length-set, length-replicate}
use lib.Seq.{drop-cons, get_or-set_same, get_or-set_other}
use Rattle.term_rules.specs.Lent.{symbol_no, places_at, record_in}
use Rattle.term_rules.specs.WellFormed.{every, same_term}
use Rattle.term_rules.proofs.TestLaws.{cases, every_of, every-fails, every-start, every_more}
use Rattle.term_rules.proofs.SameLaws.{same_term-tells}
use Rattle.term_record.specs.Flat.{fresh_record}
use Rattle.name.proofs.PasteLaws.{get_d-zeros}
use Rattle.term_record.specs.Buckets.{digest_from, bucket_of, bucket_in, Last, Chained, Lasts}

leb-cases : (p k : ℕ) → (p ≤ k) ⊎ (k < p)
leb-cases p k = cases (leb p k) (λ e. inl (leb-true p k e)) (λ e. inr (leb-false p k e))

-- The digest, one number more.
module _ (s : List ℕ) (h i : ℕ) where
  pub digest-more :
      i < length s → digest_from ((h * 31 + get_or s i 0 % 1021) % 1021) (drop (i + 1) s) ≡ digest_from h (drop i s)
  unfolding digest_from
  digest-more l = sym (rw (add-one, drop-cons s i 0))

  pub digest-end : i ≤ length s → length s ≤ i → digest_from h (drop i s) ≡ h
  unfolding digest_from
  digest-end l k = rw (drop_of_length-le s k)

-- The last of each bucket, one number more.
module _ (bucket : ℕ → ℕ) where
  pub last_none : (b : ℕ) → Last bucket b 0 0
  last_none b = record {
    lower = omega arith;
    covers = λ k l e. let f : ⊥ = omega (arith, l) in absurd f;
    own = λ l. let f : ⊥ = omega (arith, l) in absurd f;
  }

  last-here : (i b : ℕ) → bucket i ≡ b → Last bucket b (i + 1) (i + 1)
  last-here i b e = record {
    lower = omega arith;
    covers = λ k l d. l;
    own = λ l. let m : i + 1 - 1 ≡ i = omega arith in ap bucket m ∙ e;
  }

  last-other : (i b p : ℕ) → (bucket i ≡ b → ⊥) → Last bucket b i p → Last bucket b (i + 1) p
  last-other i b p n l = record {
    lower = omega (arith, l.lower);
    covers = λ k h e. by k h e (ℕ_discrete k i);
    own = l.own;
  }
    where
      by : (k : ℕ) → k < i + 1 → bucket k ≡ b → Dec (k ≡ i) → k < p
      by k h e (yes d) = absurd (n (ap bucket (sym d) ∙ e))
      by k h e (no d) = l.covers k (omega (arith, h, d)) e

  pub lasts-more :
      (lasts : List ℕ) (i b : ℕ) →
      length lasts ≡ 1021 →
      b < 1021 →
      bucket i ≡ b →
      Lasts bucket lasts i →
      Lasts bucket (set lasts b (i + 1)) (i + 1)
  lasts-more lasts i b long l e h c m = by (ℕ_discrete c b)
    where
      by : Dec (c ≡ b) → Last bucket c (i + 1) (get_or (set lasts b (i + 1)) c 0)
      by (yes d) =
          subst (Last bucket c (i + 1))
          (sym (ap (λ (x : ℕ). get_or (set lasts b (i + 1)) x 0) d
          ∙ get_or-set_same lasts b (i + 1) 0 (omega (arith, long, l))))
          (last-here i c (e ∙ sym d))
      by (no d) =
          subst (Last bucket c (i + 1)) (sym (get_or-set_other lasts b c (i + 1) 0 d))
          (last-other i c (get_or lasts c 0) (λ x. d (sym x ∙ e)) (h c m))

  pub chained_more :
      (nexts : List ℕ) (i p : ℕ) →
      i < length nexts →
      Last bucket (bucket i) i p →
      Chained bucket nexts i →
      Chained bucket (set nexts i p) (i + 1)
  chained_more nexts i p long l h j m = by (ℕ_discrete j i)
    where
      by : Dec (j ≡ i) → Last bucket (bucket j) j (get_or (set nexts i p) j 0)
      by (yes d) =
          subst (λ (x : ℕ). Last bucket (bucket x) x (get_or (set nexts i p) x 0)) (sym d)
          (subst (Last bucket (bucket i) i) (sym (get_or-set_same nexts i p 0 long)) l)
      by (no d) =
          subst (Last bucket (bucket j) j) (sym (get_or-set_other nexts i j p 0 d)) (h j (omega (arith, m, d)))

-- A walk down a bucket: what is not below p is not the same as record i, and p leads on in its bucket.
module _ (rs : List ℕ) (ls : List ℤ) (i : ℕ) where
  abbrev bucket : ℕ → ℕ
  bucket = bucket_in rs ls

  abbrev other : ℕ → Bool
  other k = not (same_term (record_in rs ls k) (record_in rs ls i))

  pub record Walked (p : ℕ) : Type 0 where
    pub lower : p ≤ i
    pub none : (k : ℕ) → p ≤ k → k < i → other k ≡ true
    pub own : 0 < p → bucket (p - 1) ≡ bucket i

  -- of another bucket, so not the same
  apart : (k : ℕ) → (bucket k ≡ bucket i → ⊥) → other k ≡ true
  apart k n =
      cases (same_term (record_in rs ls k) (record_in rs ls i))
      (λ e. absurd (n (ap bucket_of (same_term-tells.eq (record_in rs ls k) (record_in rs ls i) e)))) (λ e. rw e)

  pub walk_start : (p : ℕ) → Last bucket (bucket i) i p → Walked p
  walk_start p l = record {
    lower = l.lower;
    none = λ k h m. apart k (λ e. let c = l.covers k m e in let f : ⊥ = omega (arith, h, c) in absurd f);
    own = l.own;
  }

  pub walk-on :
      (nexts : List ℕ) (p : ℕ) →
      0 < p →
      Walked p →
      Chained bucket nexts i →
      same_term (record_in rs ls (p - 1)) (record_in rs ls i) ≡ false →
      Walked (get_or nexts (p - 1) 0)
  walk-on nexts p h w c e =
      let l = c (p - 1) (omega (arith, h, w.lower)) in
      record {
        lower = omega (arith, l.lower, w.lower);
        none = λ k a m. by l k a m (ℕ_discrete k (p - 1));
        own = λ q. l.own q ∙ w.own h;
      }
    where
      below :
          Last bucket (bucket (p - 1)) (p - 1) (get_or nexts (p - 1) 0) →
          (k : ℕ) → get_or nexts (p - 1) 0 ≤ k → k < i → (k ≡ p - 1 → ⊥) → (p ≤ k) ⊎ (k < p) → other k ≡ true
      below l k a m d (inl x) = w.none k x m
      below l k a m d (inr x) =
          apart k
          (λ t.
          let q = l.covers k (omega (arith, x, d)) (t ∙ sym (w.own h)) in
          let f : ⊥ = omega (arith, q, a) in
          absurd f)

      by :
          Last bucket (bucket (p - 1)) (p - 1) (get_or nexts (p - 1) 0) →
          (k : ℕ) → get_or nexts (p - 1) 0 ≤ k → k < i → Dec (k ≡ p - 1) → other k ≡ true
      by l k a m (yes d) = ap other d ∙ ap not e
      by l k a m (no d) = below l k a m d (leb-cases p k)

  pub walk_end : (p : ℕ) → p ≤ 0 → Walked p → fresh_record rs ls i ≡ true
  unfolding fresh_record
  walk_end p h w = every_of other i (λ k m. w.none k (omega (arith, h)) m)

  pub walk-found :
      (p : ℕ) →
      0 < p →
      Walked p →
      same_term (record_in rs ls (p - 1)) (record_in rs ls i) ≡ true →
      fresh_record rs ls i ≡ false
  unfolding fresh_record
  walk-found p h w e = every-fails other i (p - 1) (omega (arith, h, w.lower)) (ap not e)

-- The bucket, from the record's numbers as they stand in the list.
pub bucket-is :
    (rs : List ℕ) (ls : List ℤ) (i h m : ℕ) →
    h ≡ digest_from (symbol_no rs i % 1021) (places_at rs i) →
    m ≡ nat_abs (get_or ls i (pos 0)) →
    (h + m % 1021) % 1021 ≡ bucket_in rs ls i
unfolding bucket_of record_in
bucket-is rs ls i h m e f =
    ap (λ (x : ℕ). (x + m % 1021) % 1021) e
    ∙ ap (λ (x : ℕ). (digest_from (symbol_no rs i % 1021) (places_at rs i) + x % 1021) % 1021) f

-- The walk over all records: those below i are new and stand in their buckets.
pub record Placed (rs : List ℕ) (ls : List ℤ) (n : ℕ) (lasts nexts : List ℕ) (i : ℕ) : Type 0 where
  pub few : i ≤ n
  pub new : every i (fresh_record rs ls) ≡ true
  pub lasts_long : length lasts ≡ 1021
  pub nexts_long : length nexts ≡ 1024
  pub lasts_are : Lasts (bucket_in rs ls) lasts i
  pub nexts_are : Chained (bucket_in rs ls) nexts i

module _ (rs : List ℕ) (ls : List ℤ) (n : ℕ) where
  pub placed-none : (a b : ℕ) → a ≡ 1021 → b ≡ 1024 → Placed rs ls n (replicate a 0) (replicate b 0) 0
  placed-none a b e f = record {
    few = omega arith;
    new = every-start (fresh_record rs ls);
    lasts_long = length-replicate a 0 ∙ e;
    nexts_long = length-replicate b 0 ∙ f;
    lasts_are = λ c l. subst (Last (bucket_in rs ls) c 0) (sym (get_d-zeros a c)) (last_none (bucket_in rs ls) c);
    nexts_are = λ j l. let g : ⊥ = omega (arith, l) in absurd g;
  }

  pub placed-more :
      (lasts nexts : List ℕ) (i b : ℕ) →
      Placed rs ls n lasts nexts i →
      i < n →
      n ≤ 1024 →
      b ≡ bucket_in rs ls i →
      b < 1021 →
      fresh_record rs ls i ≡ true →
      Placed rs ls n (set lasts b (i + 1)) (set nexts i (get_or lasts b 0)) (i + 1)
  placed-more lasts nexts i b p l m e k f = record {
    few = omega (arith, l);
    new = every_more (fresh_record rs ls) i p.new f;
    lasts_long = length-set lasts b (i + 1) ∙ p.lasts_long;
    nexts_long = length-set nexts i (get_or lasts b 0) ∙ p.nexts_long;
    lasts_are = lasts-more (bucket_in rs ls) lasts i b p.lasts_long k (sym e) p.lasts_are;
    nexts_are =
        chained_more (bucket_in rs ls) nexts i (get_or lasts b 0) (omega (arith, l, m, p.nexts_long))
        (place_of lasts nexts i b p e k) p.nexts_are;
  }
    where
      place_of :
          (lasts nexts : List ℕ) (i b : ℕ) →
          Placed rs ls n lasts nexts i →
          b ≡ bucket_in rs ls i →
          b < 1021 →
          Last (bucket_in rs ls) (bucket_in rs ls i) i (get_or lasts b 0)
      place_of lasts nexts i b p e k =
          subst (λ (x : ℕ). Last (bucket_in rs ls) x i (get_or lasts b 0)) e (p.lasts_are b k)
