-- Names: document 01, 'The table file'. A name is a list of bytes. Assumes nothing: these are definitions.
use Rattle.std.specs.Prelude.{ℕ, Bool, true, false, ◌&&◌, not, List, [], ◌∷◌, length, eqb, leb}

-- "Names hold bytes 0x21 to 0x7E except `(`, `)`, `"` and `;`."
unfoldable pub allowed : ℕ → Bool
allowed b =
    leb 33 b && (leb b 126 && (not (eqb b 40) && (not (eqb b 41) && (not (eqb b 34) && not (eqb b 59)))))

unfoldable pub all_allowed : List ℕ → Bool
all_allowed [] = true
all_allowed (b ∷ bs) = allowed b && all_allowed bs

-- "BadName: length 0 or over 31, or a byte not allowed"
unfoldable pub valid : List ℕ → Bool
valid name = leb 1 (length name) && (leb (length name) 31 && all_allowed name)

-- Two names are the same where they have the same bytes.
unfoldable pub same : List ℕ → List ℕ → Bool
same [] [] = true
same [] (y ∷ ys) = false
same (x ∷ xs) [] = false
same (x ∷ xs) (y ∷ ys) = eqb x y && same xs ys
