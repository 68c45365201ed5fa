-- What the library for C promises, beside its contracts: document 01, 'The program', 'Terms' and 'Refusal numbers'.
-- `replied`, `add_literal`, `plain_told`, `let_told`, `best_at`, `variants_at` and so on are the definitions that its
-- functions equal; what they are is on the pages of `program`, `term`, `text`, `extract` and `file`. Assumes nothing: a
-- record, with one field for each theorem.
use Rattle.std.specs.Prelude.{ℕ, ◌+◌, ◌<◌, ◌≡◌, List, ◌⊎◌, ℤ, pos, length}
use Rattle.refusal.specs.declared.Refusal.{Refusal}
use Rattle.term_rules.specs.Lent.{Store, record_at}
use Rattle.term.specs.Answers as terms
use Rattle.term.specs.Answers.{zero_record}
use Rattle.term.specs.Calls.{
  add_literal,
  add_variable,
  add_application,
  find_literal,
  find_variable,
  find_application,
  size_of,
  get_term,
  compare_terms,
  sort_terms,
}
use Rattle.term.specs.Outcomes.{asks_literal, asks_variable, asks_application}
use Rattle.order.specs.Sort.{SameCounts, Sorted}
use Rattle.term_order.specs.TreeOrder.{compare_at, at_most}
use Rattle.term_rules.specs.Nodes.{literal, variable, application}
use Rattle.term_rules.specs.declared.Term.{Term}
use Rattle.text_rules.specs.LetText.{Naming}
use Rattle.text.specs.Told.{plain_told}
use Rattle.text.specs.LetTold.{let_told}
use Rattle.lent.specs.Records.{lent_store}
use Rattle.answer_rules.specs.Answers.{After}
use Rattle.answer_rules.specs.Best.{BestTerm, best_at}
use Rattle.answer_rules.specs.Variants.{VariantsAfter, variants_at}
use Rattle.variant_answers.specs.Kept.{lending}
use Rattle.refusal.specs.Answer.{value, refuse}
use Rattle.bits.specs.Bits.{bits_of}
use Rattle.bits.specs.Got.{refused}
use Rattle.file_rules.specs.Table.{Table}
use Rattle.file_rules.specs.File.{table_at}
use Rattle.file_rules.specs.Accepted.{Accepted}
use Rattle.file_rules.specs.Code.{code_file}
use Rattle.program_rules.specs.Reply.{replied, Replied}
use Rattle.c_told.specs.Below.{below_zero}
use Rattle.needlevale_c.specs.Coded.{Replies, Adds}
use Rattle.needlevale_c.specs.Texts.{Writes, WritesLets}
use Rattle.needlevale_c.specs.Choices.{BestLeft, VariantsLeft}
use Rattle.needlevale_c.specs.Terms.{AddedLeft, Sorts}
use Rattle.needlevale_c.specs.Structs.{
  PlainTold,
  LetsTold,
  BestTold,
  BestStays,
  VariantsTold,
  VariantsStay,
  AddedStays,
}
use Rattle.needlevale_c.specs.Reading.{
  Tells,
  TellsNumber,
  TellsFound,
  asks_store,
  asks_term,
  asks_two,
  asks_all,
}
use Rattle.c_told.specs.declared.texts.LetLength.{LetLength}
use Rattle.c_told.specs.Terms.{number_of, order_of, got_of, sign_of}
use Rattle.c_told.specs.Files.{table_shape, fault_shape, shape_of}
use Rattle.c_told.specs.declared.files.Shape.{Shape}
use Rattle.c_told.specs.declared.terms.Adding.{Adding}
use Rattle.c_told.specs.declared.terms.Got.{Got}
use Rattle.c_told.specs.declared.terms.Number.{Number}
use Rattle.c_told.specs.declared.terms.Standing.{Standing}
use Rattle.c_told.specs.declared.choices.Best.{Best}
use Rattle.c_told.specs.declared.choices.Variants.{Variants}

-- The number that `needlevale_answer` gives is a length, or a refusal of the table below zero, as was answered.
abbrev pub ReplyTold : Replied → ℤ → Type 0
ReplyTold r z =
    ((n : ℕ) × ((z ≡ pos n) × (r.answer ≡ value n))) ⊎ ((x : Refusal) × ((z ≡ below_zero x) × (r.answer ≡ refuse x)))

-- The number that `needlevale_add_literal_flat` gives is a term's, or a refusal of the table below zero, as was
-- answered.
abbrev pub AddTold : terms.Answer ℕ → ℤ → Type 0
AddTold a z =
    ((i : ℕ) × ((z ≡ pos i) × (a ≡ terms.given i))) ⊎ ((x : Refusal) × ((z ≡ below_zero x) × (a ≡ terms.refuse x)))

-- How many terms there are after a literal's number was given: it was there, or it is the last.
abbrev pub Counts : Store → ℕ → Store → Type 0
Counts s i t = ((i < s.terms) × (t ≡ s)) ⊎ ((i ≡ s.terms) × (t.terms ≡ s.terms + 1) × (t.symbols ≡ s.symbols))

pub record Promises : Type 0 where
  -- "Each returns its number alone": what the functions give back is told by one number, for every input and buffer
  pub reply_told :
      (input out after : List ℕ) (z : ℤ) → Replies (replied input out) z after → ReplyTold (replied input out) z
  -- and for every lent store;
  pub add_told :
      (s : Store) (v z : ℤ) (rs : List ℕ) (ls : List ℤ) → Adds (add_literal s v) z rs ls → AddTold (add_literal s v).0 z
  -- a number below zero is no length and no number of a term, and tells the refusal.
  pub below : (r : Refusal) (n : ℕ) → below_zero r ≡ pos n → ⊥
  pub one_refusal : (r q : Refusal) → below_zero r ≡ below_zero q → r ≡ q
  -- A refused literal leaves the store; else the caller can tell from the number how many terms there are now.
  pub literal_refused : (s : Store) (v : ℤ) (k : ℕ) → (add_literal s v).0 ≡ terms.refused k → (add_literal s v).1 ≡ s
  pub literal_counted : (s : Store) (v : ℤ) (i : ℕ) → (add_literal s v).0 ≡ terms.given i → Counts s i (add_literal s v).1
  -- "any two results allowed by a statement coincide", the lent contents too.
  pub one_reply :
      (input out : List ℕ) (z y : ℤ) (a b : List ℕ) →
      Replies (replied input out) z a →
      Replies (replied input out) y b →
      (z ≡ y) × (a ≡ b)
  pub one_adding :
      (s : Store) (v z y : ℤ) (rs rs' : List ℕ) (ls ls' : List ℤ) →
      Adds (add_literal s v) z rs ls →
      Adds (add_literal s v) y rs' ls' →
      (z ≡ y) × (rs ≡ rs') × (ls ≡ ls')
  -- The calls on term structs: what each tells in numbers, for every store, file and buffer;
  pub plain-told :
      (s : Store) (t : ℕ) (out after : List ℕ) (z : ℤ) →
      Writes (plain_told s t out) z after →
      PlainTold (plain_told s t out) (length out) z
  pub lets_told :
      (s : Store) (nm : Naming) (t : ℕ) (out after : List ℕ) (z : LetLength) →
      WritesLets (let_told s nm t out) z after →
      LetsTold (let_told s nm t out) (length out) z
  pub best_told :
      (file : List ℕ) (root v : ℕ) (ts ts' : List Term) (ns ns' : List (List ℕ)) (n m : ℕ) (b : Best) →
      BestLeft ts ns n m (best_at file root v (lent_store ts ns n m)) b ts' ns' →
      BestTold (best_at file root v (lent_store ts ns n m)) b
  pub variants_told :
      (file : List ℕ) (root v most : ℕ) (ts ts' : List Term) (ns ns' : List (List ℕ)) (n m : ℕ)
      (costs found ws us : List ℕ) (b : Variants) →
      VariantsLeft ts ns n m (variants_at file root v most (lending (lent_store ts ns n m) costs found)) b ts' ns' ws us →
      VariantsTold (variants_at file root v most (lending (lent_store ts ns n m) costs found)) b
  -- "Nothing lent is changed" by a refusal, and the counts that come back are those that were lent;
  pub best_stays :
      (file : List ℕ) (root v : ℕ) (ts ts' : List Term) (ns ns' : List (List ℕ)) (n m : ℕ) (b : Best) →
      BestLeft ts ns n m (best_at file root v (lent_store ts ns n m)) b ts' ns' →
      BestStays ts ns n m b ts' ns'
  pub variants_stay :
      (file : List ℕ) (root v most : ℕ) (ts ts' : List Term) (ns ns' : List (List ℕ)) (n m : ℕ)
      (costs found ws us : List ℕ) (b : Variants) →
      VariantsLeft ts ns n m (variants_at file root v most (lending (lent_store ts ns n m) costs found)) b ts' ns' ws us →
      VariantsStay ts ns n m costs found b ts' ns' ws us
  -- and one result.
  pub one_plain :
      (s : Store) (t : ℕ) (out : List ℕ) (z y : ℤ) (a b : List ℕ) →
      Writes (plain_told s t out) z a →
      Writes (plain_told s t out) y b →
      (z ≡ y) × (a ≡ b)
  pub one_let :
      (s : Store) (nm : Naming) (t : ℕ) (out : List ℕ) (z y : LetLength) (a b : List ℕ) →
      WritesLets (let_told s nm t out) z a →
      WritesLets (let_told s nm t out) y b →
      (z ≡ y) × (a ≡ b)
  pub one_best :
      (ts ts' ts'' : List Term) (ns ns' ns'' : List (List ℕ)) (n m : ℕ) (wanted : After BestTerm) (b c : Best) →
      BestLeft ts ns n m wanted b ts' ns' →
      BestLeft ts ns n m wanted c ts'' ns'' →
      (b ≡ c) × (ts' ≡ ts'') × (ns' ≡ ns'')
  pub one_variants :
      (ts ts' ts'' : List Term) (ns ns' ns'' : List (List ℕ)) (n m : ℕ) (wanted : VariantsAfter) (b c : Variants)
      (ws us ws' us' : List ℕ) →
      VariantsLeft ts ns n m wanted b ts' ns' ws us →
      VariantsLeft ts ns n m wanted c ts'' ns'' ws' us' →
      (b ≡ c) × (ts' ≡ ts'') × (ns' ≡ ns'') × (ws ≡ ws') × (us ≡ us')
  -- A refused add on term structs leaves what was lent, and gives back the counts that were lent;
  pub literal_stays :
      (ts ts' : List Term) (ns ns' : List (List ℕ)) (n m : ℕ) (v : ℤ) (z : Adding) →
      AddedLeft ts ns n m (add_literal (lent_store ts ns n m) v) z ts' ns' →
      AddedStays ts ns n m z ts' ns'
  pub variable_stays :
      (ts ts' : List Term) (ns ns' : List (List ℕ)) (n m : ℕ) (name : List ℕ) (z : Adding) →
      AddedLeft ts ns n m (add_variable (lent_store ts ns n m) name) z ts' ns' →
      AddedStays ts ns n m z ts' ns'
  pub application_stays :
      (ts ts' : List Term) (ns ns' : List (List ℕ)) (n m : ℕ) (name children : List ℕ) (z : Adding) →
      AddedLeft ts ns n m (add_application (lent_store ts ns n m) name children) z ts' ns' →
      AddedStays ts ns n m z ts' ns'
  -- and there is one result.
  pub one-add :
      (ts ts' ts'' : List Term) (ns ns' ns'' : List (List ℕ)) (n m : ℕ) (wanted : terms.Answer ℕ × Store) (z y : Adding) →
      AddedLeft ts ns n m wanted z ts' ns' →
      AddedLeft ts ns n m wanted y ts'' ns'' →
      (z ≡ y) × (ts' ≡ ts'') × (ns' ≡ ns'')
  -- The calls that only read tell each refusal exactly when and in its order, and beside status 0 the count of terms,
  pub sized : (s : Store) (z : Number) → z ≡ number_of (size_of s) → TellsNumber (asks_store s) (λ n. n ≡ s.terms) z
  -- the number that has the term, and Absent exactly when none has it,
  pub literal_found :
      (s : Store) (v : ℤ) (z : Number) → z ≡ number_of (find_literal s v) → TellsFound s (literal v) (asks_literal s) z
  pub variable_found :
      (s : Store) (name : List ℕ) (z : Number) →
      z ≡ number_of (find_variable s name) →
      TellsFound s (variable name) (asks_variable s name) z
  pub application_found :
      (s : Store) (name children : List ℕ) (z : Number) →
      z ≡ number_of (find_application s name children) →
      TellsFound s (application name children) (asks_application s name children) z
  -- how the two terms stand,
  pub compared :
      (s : Store) (i j : ℕ) (z : Standing) →
      z ≡ order_of (compare_terms s i j) →
      Tells (asks_two s i j) (λ o. o ≡ sign_of (compare_at s i j)) (pos 0) z.status z.order
  -- and the term's record, or zeros.
  pub got :
      (s : Store) (i : ℕ) (z : Got) →
      z ≡ got_of (get_term s i) →
      Tells (asks_term s i) (λ t. t ≡ record_at s i) zero_record z.status z.term
  -- Sort leaves the sorted permutation of the list beside 0, and beside a refusal the list as it was;
  pub sorted :
      (s : Store) (l after : List ℕ) (z : ℤ) →
      Sorts (sort_terms s l) z after →
      Tells (asks_all s l) (λ m. Sorted (at_most s) m × SameCounts m l) l z after
  -- and there is one result. The other calls that only read equal a struct.
  pub one_sort :
      (s : Store) (l a b : List ℕ) (z y : ℤ) →
      Sorts (sort_terms s l) z a →
      Sorts (sort_terms s l) y b →
      (z ≡ y) × (a ≡ b)
  -- "A file without a fault is accepted, and no other.": the bits of an accepted table are told by 0 and its counts,
  pub read_accepted :
      (file : List ℕ) (t : Table) (z : Shape) →
      Accepted t →
      bits_of file ≡ code_file t →
      z ≡ shape_of (table_at file) →
      z ≡ table_shape t
  -- and any other file by its first fault below zero and zeros.
  pub read_refused :
      (file : List ℕ) (z : Shape) →
      ((t : Table) → Accepted t → bits_of file ≡ code_file t → ⊥) →
      z ≡ shape_of (table_at file) →
      (r : Refusal) × ((table_at file ≡ refused r) × (z ≡ fault_shape r))
