-- When a lent store is well formed: document 01, 'Terms'. Assumes nothing: these are definitions.
use Rattle.std.specs.Prelude.{ℕ, zero, suc, Bool, true, false, ◌&&◌, not, List, [], ◌∷◌, take, drop, eqb, ltb, leb, ℤ, pos, negsuc}
use Rattle.name.specs.Name.{valid, same}
use Rattle.name.specs.Entries.{length_at, name_at, padding_at}
use Rattle.term_rules.specs.declared.Term.{Term}
use Rattle.term_rules.specs.Lent.{Store, by_kind, record_at, symbol_at, term_room, symbol_room}

-- every number below n passes
unfoldable pub every : ℕ → (ℕ → Bool) → Bool
every zero p = true
every (suc n) p = every n p && p n

unfoldable pub all_zero : List ℕ → Bool
all_zero [] = true
all_zero (x ∷ xs) = eqb x 0 && all_zero xs

-- every number of the list is below n
unfoldable pub all_below : ℕ → List ℕ → Bool
all_below n [] = true
all_below n (x ∷ xs) = ltb x n && all_below n xs

unfoldable pub same_int : ℤ → ℤ → Bool
same_int (pos m) (pos n) = eqb m n
same_int (pos m) (negsuc n) = false
same_int (negsuc m) (pos n) = false
same_int (negsuc m) (negsuc n) = eqb m n

-- "names valid": entry k has at most 31 bytes, a valid name, and zeros past it
unfoldable pub sound_name : List ℕ → ℕ → Bool
sound_name ns k =
    leb (length_at ns k) 31 && (valid (name_at ns k) && all_zero (padding_at ns k))

-- a literal uses its literal alone
unfoldable pub sound_literal : Term → Bool
sound_literal t = eqb t.symbol 0 && (eqb t.count 0 && all_zero t.children)

-- a variable uses its symbol alone: "every symbol number known"
unfoldable pub sound_variable : ℕ → Term → Bool
sound_variable symbols t =
    ltb t.symbol symbols && (eqb t.count 0 && (same_int t.literal (pos 0) && all_zero t.children))

-- an application uses its symbol and its first children: "every child lower than its parent"
unfoldable pub sound_application : ℕ → ℕ → Term → Bool
sound_application symbols i t =
    ltb t.symbol symbols
    && (leb t.count 8
    && (same_int t.literal (pos 0)
    && (all_below i (take t.count t.children) && all_zero (drop t.count t.children))))

-- the record of term i, by its kind: "unused fields zero"
unfoldable pub sound_record : ℕ → ℕ → Term → Bool
sound_record symbols i t =
    by_kind t.kind (sound_literal t) (sound_variable symbols t) (sound_application symbols i t) false

-- the same in every field
unfoldable pub same_term : Term → Term → Bool
same_term a b =
    eqb a.kind b.kind
    && (eqb a.symbol b.symbol
    && (eqb a.count b.count
    && (same_int a.literal b.literal && same a.children b.children)))

-- "names distinct": no entry below k has the name of entry k
unfoldable pub new_name : Store → ℕ → Bool
new_name s k = every k (λ (j : ℕ). not (same (symbol_at s j) (symbol_at s k)))

-- "no two terms equal": no record below i is the same as record i
unfoldable pub new_term : Store → ℕ → Bool
new_term s i = every i (λ (j : ℕ). not (same_term (record_at s j) (record_at s i)))

-- "Well formed: counts within limits and lent lengths; names valid and distinct; every symbol number known; every child
-- lower than its parent; unused fields zero (records past the count are free); no two terms equal."
unfoldable pub well_formed : Store → Bool
well_formed s =
    leb s.terms (term_room s)
    && (leb s.symbols (symbol_room s)
    && (every s.symbols (sound_name s.names)
    && (every s.symbols (new_name s)
    && (every s.terms (λ (i : ℕ). sound_record s.symbols i (record_at s i)) && every s.terms (new_term s)))))
