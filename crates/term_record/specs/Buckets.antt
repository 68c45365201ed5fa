-- Records in buckets, so that each is compared with few others. Equal records have one bucket; which it is does not
-- matter. Assumes nothing: these are definitions.
use Rattle.std.specs.Prelude.{ℕ, ◌+◌, ◌*◌, ◌-◌, ◌%◌, ◌≤◌, ◌<◌, ◌≡◌, List, [], ◌∷◌, ℤ, nat_abs, get_or}
use Rattle.term_rules.specs.declared.Term.{Term}
use Rattle.term_rules.specs.Lent.{record_in}

-- A number below 1,021 that depends on the list and h alone.
unfoldable pub digest_from : ℕ → List ℕ → ℕ
digest_from h [] = h
digest_from h (x ∷ xs) = digest_from ((h * 31 + x % 1021) % 1021) xs

-- The bucket of a record, by its symbol, its children and its literal.
unfoldable pub bucket_of : Term → ℕ
bucket_of t = (digest_from (t.symbol % 1021) t.children + nat_abs t.literal % 1021) % 1021

abbrev pub bucket_in : List ℕ → List ℤ → ℕ → ℕ
bucket_in rs ls i = bucket_of (record_in rs ls i)

-- p is one more than the last number below i that is in bucket b, or 0 where there is none.
pub record Last (bucket : ℕ → ℕ) (b i p : ℕ) : Type 0 where
  pub lower : p ≤ i
  pub covers : (k : ℕ) → k < i → bucket k ≡ b → k < p
  pub own : 0 < p → bucket (p - 1) ≡ b

-- Each number below i leads to the last one below it in its own bucket.
abbrev pub Chained : (ℕ → ℕ) → List ℕ → ℕ → Type 0
Chained bucket nexts i = (j : ℕ) → j < i → Last bucket (bucket j) j (get_or nexts j 0)

-- Each bucket leads to its last number below i.
abbrev pub Lasts : (ℕ → ℕ) → List ℕ → ℕ → Type 0
Lasts bucket lasts i = (b : ℕ) → b < 1021 → Last bucket b i (get_or lasts b 0)
