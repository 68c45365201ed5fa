-- What reading from a position gives, and how readings join: document 01, 'The table file', "Fields are read in order,
-- .. each checked once whole, and the first fault decides." Assumes nothing: definitions.
use Rattle.std.specs.Prelude.{ℕ, zero, suc, List, [], ◌∷◌, ◌++◌, Bool, true, false}
use Rattle.refusal.specs.declared.Refusal.{Refusal}

-- What was read and the position after it, or the first fault.
pub data Got (A : Type 0) : Type 0 where
  got : A → ℕ → Got A
  refused : Refusal → Got A

-- The one reading, then the other from where it ended.
unfoldable pub then : {A B : Type 0} → Got A → (A → ℕ → Got B) → Got B
then (got a k) f = f a k
then (refused r) f = refused r

-- The test must hold, or r is the fault.
unfoldable pub must : {A : Type 0} → Bool → Refusal → Got A → Got A
must true r g = g
must false r g = refused r

-- The one where the test holds, else the other.
unfoldable pub pick : {A : Type 0} → Bool → A → A → A
pick true a b = a
pick false a b = b

-- n things more, one after the other, after those of xs. How one is read may depend on those before it.
unfoldable pub many : {A : Type 0} → (List A → ℕ → Got A) → ℕ → ℕ → List A → Got (List A)
many f zero at xs = got xs at
many f (suc n) at xs = then (f xs at) (λ x p. many f n p (xs ++ (x ∷ [])))
