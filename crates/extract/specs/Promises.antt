-- What best and variants promise beside their contracts: demand 3 of document 00, and document 01, 'Costs and choice'
-- and 'Refusal numbers'. `best_at` is the definition that `best` equals: an answer, and the lent store as it is left.
-- `variants_at` is that of `variants`, which leaves two lists of results besides.
-- Assumes nothing: statements, kept by `promises` of proofs/Promises.antt.
use Rattle.std.specs.Prelude.{◌≡◌, true, false, List, [], ◌∷◌, ◌↔◌, ◌⊎◌, ℕ, ◌+◌, ◌<◌, ◌≤◌, ℤ, length, Result}
use Rattle.refusal.specs.declared.Refusal.{Refusal}
use Rattle.bits.specs.Got.{got, refused as fault}
use Rattle.term_rules.specs.Lent.{Store}
use Rattle.term_rules.specs.WellFormed.{well_formed}
use Rattle.term_rules.specs.Nodes.{literal, number}
use Rattle.term_rules.specs.Growing.{Takes}
use Rattle.choice_rules.specs.Deriving.{Tree, tree_cost}
use Rattle.choice_rules.specs.Run.{Run, blank, FirstStill, costed}
use Rattle.choice_rules.specs.Demand.Deriving.{Deriving}
use Rattle.file_rules.specs.Table.{Table}
use Rattle.file_rules.specs.File.{table_at}
use Rattle.table_rules.specs.Rules.Classes.{sort_of, class_count, flat_class, is_root}
use Rattle.table_rules.specs.Rules.Rows.{table_rows, usable}
use Rattle.table_rules.specs.Rules.Order.{scanned}
use Rattle.table_rules.specs.Rules.Terms.{literal_of}
use Rattle.table_rules.specs.Rules.Choosing.{limit, Prices, prices_for}
use Rattle.answer_rules.specs.Answers.{Answer, value, refusal, After, refused}
use Rattle.answer_rules.specs.Best.{BestTerm, best_at}
use Rattle.answer_rules.specs.Room.{Fits, HasRoom, NoRoomFor}
use Rattle.answer_rules.specs.Demand.{Choice, chosen_term, ComesBack}
use Rattle.answer_rules.specs.Variants.{Kept, VariantsAfter, Lending, variants_refused, variants_at}
use Rattle.variant_order.specs.Arrays.{AllBelow}
use Rattle.variants_root.specs.Several.{Kept as KeptAnswer, seen_variants}
use Rattle.extract.specs.First.{FirstRows, kept_file_rows, kept_costs, ComeBack}
use Rattle.extract.specs.Terms.{HasRoomForRows, NoRoomForRows}
use Rattle.extract.specs.Told.{OneOf, HasDear, NoPlaces, Places, Unchanged, EmptyList, RestStays, LiteralTold}
use Rattle.best_root.specs.Single.{Best, seen_best}

-- The file is accepted and holds table t.
pub record Holding (file : List ℕ) (t : Table) : Type 0 where
  pub end : ℕ
  pub is : table_at file ≡ got t end

-- "any accepted table file .. and, as root, class of a constructor sort": class v of sort `root`, and a base root.
pub record ClassRoot (file : List ℕ) (root v : ℕ) (t : Table) : Type 0 where
  pub held : Holding file t
  pub sort : root < length t.sorts
  pub eq : (sort_of t root).kind ≡ 0 → ⊥
  pub inside : v < (sort_of t root).classes

pub record BaseRoot (file : List ℕ) (root v : ℕ) (t : Table) : Type 0 where
  pub held : Holding file t
  pub sort : root < length t.sorts
  pub base : (sort_of t root).kind ≡ 0
  pub inside : v < length t.literals

-- "a term deriving": built from usable rows of the file, it derives class c.
abbrev pub Derivation : Table → ℕ → Tree → Type 0
Derivation t c u = Deriving (table_rows t) (usable t) c u

-- P of what best answers: of the table, the root sort, the run's prices, the class, the store and the answer.
abbrev pub OfClasses : (Table → ℕ → Prices → ℕ → Store → After BestTerm → Type 0) → Type 0
OfClasses P =
    (file : List ℕ) (root v : ℕ) (t : Table) (s : Store) →
    ClassRoot file root v t →
    well_formed s ≡ true →
    P t root (prices_for t root) (flat_class t root v) s (best_at file root v s)

-- "the number of passes, the last and changeless one counted .. at most one more than the number of classes that end
-- with a cost"
pub record PassCount (t : Table) (root p : ℕ) : Type 0 where
  pub run : Run
  pub first_still : FirstStill limit (scanned t (root ∷ [])) (blank (class_count t)) run
  pub counted : p ≡ run.passes
  pub few : p ≤ costed run.state.ranks + 1

-- A base root: "A base root costs 1", in one pass, and its literal comes back in a store that the lent one may become;
-- or no such store holds it, and nothing is changed.
abbrev pub BaseOutcome : ℤ → Store → Store → Answer BestTerm → Type 0
BaseOutcome z s s' (value b) =
    (b.cost ≡ 1) × (b.passes ≡ 1) × Takes s (literal z) b.term s' × Fits s s'
BaseOutcome z s s' (refusal k) = (k ≡ 13) × (s' ≡ s) × NoRoomFor s (number z)

-- P of what variants answer: of the table, the root sort, the run's prices, the class, the number asked for, what is
-- lent and the answer.
abbrev pub OfVariants : (Table → ℕ → Prices → ℕ → ℕ → Lending → VariantsAfter → Type 0) → Type 0
OfVariants P =
    (file : List ℕ) (root v n : ℕ) (t : Table) (l : Lending) →
    ClassRoot file root v t →
    well_formed l.store ≡ true →
    P t root (prices_for t root) (flat_class t root v) n l (variants_at file root v n l)

-- The same of a base root: of its literal, what is lent and the answer.
abbrev pub OfBaseRoots : (ℤ → Lending → VariantsAfter → Type 0) → Type 0
OfBaseRoots P =
    (file : List ℕ) (root v n : ℕ) (t : Table) (l : Lending) →
    BaseRoot file root v t →
    well_formed l.store ≡ true →
    P (literal_of t v) l (variants_at file root v n l)

pub record Promises : Type 0 where
  -- "If none derives the root, and only then, the answer is NoTerm."
  pub no_term : OfClasses (λ t root p c s a. (a.answer ≡ refusal 11) ↔ ((u : Tree) → Derivation t c u → ⊥))
  -- "If some do but each costs 2^64-1 or more in exact whole numbers, and only then, TooDear."
  pub too_dear :
      OfClasses
      (λ t root p c s a.
      (a.answer ≡ refusal 12)
      ↔ (((u : Tree) × Derivation t c u) × ((u : Tree) → Derivation t c u → limit ≤ tree_cost (table_rows t) u)))
  -- "Otherwise": the class has a chosen tree, the one that the edges' rows choose, and that is a cheapest one.
  pub otherwise :
      OfClasses (λ t root p c s a. (u : Tree) → Derivation t c u → tree_cost (table_rows t) u < limit → Choice t p c)
  -- "given room in the store, a deriving term comes back": exactly when some store that the lent one may become in its
  -- room holds the chosen term.
  pub given_room :
      OfClasses
      (λ t root p c s a.
      ((b : BestTerm) × (a.answer ≡ value b)) ↔ ((x : Choice t p c) × HasRoom s (chosen_term t p c x)))
  -- What comes back is the chosen term: "its exact cost is the number reported; none is cheaper; and down its chosen
  -- rows no class is met twice on a path."
  pub comes_back :
      OfClasses (λ t root p c s a. (b : BestTerm) → a.answer ≡ value b → ComesBack t p c s b a.store)
  -- "NoRoom | new terms or names exceed the store's room": exactly when no such store holds the chosen term.
  pub no_room :
      OfClasses
      (λ t root p c s a.
      (a.answer ≡ refusal 13) ↔ ((x : Choice t p c) × NoRoomFor s (chosen_term t p c x)))
  -- No other number is told of a class.
  pub numbers : OfClasses (λ t root p c s a. (k : ℕ) → a.answer ≡ refusal k → (k ≡ 11) ⊎ ((k ≡ 12) ⊎ (k ≡ 13)))
  -- "The answer carries the number of passes": those of the run over the rows that the root sort reaches.
  pub passes : OfClasses (λ t root p c s a. (b : BestTerm) → a.answer ≡ value b → PassCount t root b.passes)
  -- A base root is its literal.
  pub base_root :
      (file : List ℕ) (root v : ℕ) (t : Table) (s : Store) →
      BaseRoot file root v t →
      well_formed s ≡ true →
      BaseOutcome (literal_of t v) s (best_at file root v s).store (best_at file root v s).answer
  -- "Best and variants: file, 10, 17": the file's first fault comes before all,
  pub file_first :
      (file : List ℕ) (root v : ℕ) (s : Store) (x : Refusal) →
      table_at file ≡ fault x →
      best_at file root v s ≡ refused x s
  -- then BadRoot: "asked sort not below S, or value out of its range",
  pub bad_root :
      (file : List ℕ) (root v : ℕ) (t : Table) (s : Store) →
      Holding file t →
      ((best_at file root v s).answer ≡ refusal 10) ↔ (is_root t root v ≡ false)
  -- then BadStore: "the lent store is not well formed".
  pub bad_store :
      (file : List ℕ) (root v : ℕ) (t : Table) (s : Store) →
      Holding file t →
      is_root t root v ≡ true →
      ((best_at file root v s).answer ≡ refusal 17) ↔ (well_formed s ≡ false)
  -- "Nothing lent is changed" by a refusal.
  pub unchanged :
      (file : List ℕ) (root v : ℕ) (s : Store) (k : ℕ) →
      (best_at file root v s).answer ≡ refusal k →
      (best_at file root v s).store ≡ s
  -- Any two answers that the contract of `best` allows coincide, and so do the stores that it leaves.
  pub one_answer :
      (r q : Result Best Refusal) (s s' : Store) →
      seen_best r s ≡ seen_best q s' →
      (r ≡ q) × (s ≡ s')
  -- Variants, "every usable row of it with a cost, sorted by cost, function name bytes, row cells as numbers (literal
  -- indices, not values), then the first n": the rows that are kept are these, at these costs.
  pub variants_kept : OfVariants (λ t root p c n l a. FirstRows t c n (kept_file_rows t p c n) (kept_costs t p c n))
  -- What comes back is a term for each of them in the returned store: over the trees that the edges' rows choose for
  -- its children it derives the class, its exact cost is the number told, and that is below 2^64-1.
  pub variants_come_back :
      OfVariants
      (λ t root p c n l a.
      (k : Kept) →
      a.answer ≡ value k →
      ComeBack t p c (kept_file_rows t p c n) (kept_costs t p c n) l a k)
  -- "None is an empty list", where no term derives the class.
  pub variants_none : OfVariants (λ t root p c n l a. ((u : Tree) → Derivation t c u → ⊥) → EmptyList l a)
  -- "The answer carries the number of passes", as best's does.
  pub variants_passes : OfVariants (λ t root p c n l a. (k : Kept) → a.answer ≡ value k → PassCount t root k.passes)
  -- "A base root gives one variant, even for n = 0.", or NoRoom and no other number.
  pub variants_base_root : OfBaseRoots (λ z l a. LiteralTold z l a a.answer)
  -- "Best and variants: file, 10, 17, 11, 12, 13": the file's first fault comes before all,
  pub variants_file_first :
      (file : List ℕ) (root v n : ℕ) (l : Lending) (x : Refusal) →
      table_at file ≡ fault x →
      variants_at file root v n l ≡ variants_refused x l
  -- then BadRoot: "asked sort not below S, or value out of its range",
  pub variants_bad_root :
      (file : List ℕ) (root v n : ℕ) (t : Table) (l : Lending) →
      Holding file t →
      ((variants_at file root v n l).answer ≡ refusal 10) ↔ (is_root t root v ≡ false)
  -- then BadStore: "the lent store is not well formed",
  pub variants_bad_store :
      (file : List ℕ) (root v n : ℕ) (t : Table) (l : Lending) →
      Holding file t →
      is_root t root v ≡ true →
      ((variants_at file root v n l).answer ≡ refusal 17) ↔ (well_formed l.store ≡ false)
  -- then TooDear: "variants: a kept one costs 2^64-1 after saturation",
  pub variants_too_dear :
      OfVariants (λ t root p c n l a. (a.answer ≡ refusal 12) ↔ HasDear (kept_costs t p c n))
  -- then NoRoom, "new terms or names exceed the store's room .., or the result its lent buffer": none of the kept ones
  -- is too dear, and a list has no places for as many results, or no store that the lent one may become in its room
  -- holds the terms of all kept rows.
  pub variants_no_room :
      OfVariants
      (λ t root p c n l a.
      (a.answer ≡ refusal 13)
      ↔ (AllBelow limit (kept_costs t p c n)
      × (NoPlaces l (length (kept_file_rows t p c n)) ⊎ NoRoomForRows t p l.store (kept_file_rows t p c n))))
  -- They come back exactly when none is too dear, both lists have the places, and some such store holds the terms.
  pub variants_given_room :
      OfVariants
      (λ t root p c n l a.
      ((k : Kept) × (a.answer ≡ value k))
      ↔ (AllBelow limit (kept_costs t p c n)
      × Places l (length (kept_file_rows t p c n))
      × HasRoomForRows t p l.store (kept_file_rows t p c n)))
  -- No other number is told: the file's own, 10, 17, 12 and 13,
  pub variants_numbers :
      (file : List ℕ) (root v n : ℕ) (l : Lending) (k : ℕ) →
      (variants_at file root v n l).answer ≡ refusal k →
      OneOf file k
  -- never 11, "best only".
  pub variants_not_eleven :
      (file : List ℕ) (root v n : ℕ) (l : Lending) → (variants_at file root v n l).answer ≡ refusal 11 → ⊥
  -- "Nothing lent is changed" by a refusal: the store and both lists are as they were.
  pub variants_unchanged :
      (file : List ℕ) (root v n : ℕ) (l : Lending) (k : ℕ) →
      (variants_at file root v n l).answer ≡ refusal k →
      Unchanged l (variants_at file root v n l)
  -- What is past the results stays in both lists.
  pub variants_rest :
      (file : List ℕ) (root v n : ℕ) (l : Lending) (k : Kept) →
      (variants_at file root v n l).answer ≡ value k →
      RestStays l (variants_at file root v n l) k.count
  -- Any two answers that the contract of `variants` allows coincide, and so do the stores and the lists that it leaves.
  pub variants_one_answer :
      (r q : Result KeptAnswer Refusal) (s s' : Store) (ws ws' us us' : List ℕ) →
      seen_variants r s ws us ≡ seen_variants q s' ws' us' →
      (r ≡ q) × (s ≡ s') × (ws ≡ ws') × (us ≡ us')
