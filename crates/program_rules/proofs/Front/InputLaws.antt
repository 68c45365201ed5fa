-- The front of a long input has the answer of the whole, and a long input is refused. Assumes nothing.
use Prim.Native.Nat.{ℕ, ◌≤◌, ◌<◌}
use mathlib.Core.Bool.{Bool, true, false}
use mathlib.Core.List.{List, ◌++◌}
use mathlib.Core.Path.{◌≡◌, refl, sym, ap, ◌∙◌}
use native.Mathlib.Omega.{arith}
use lib.Dec.{eqb}
use lib.ListN.{length, take, drop, length-drop}
use lib.Seq.{drop-append-le}
use Rattle.refusal.specs.Numbers.{refusal_no}
use Rattle.refusal.specs.declared.Refusal.{Refusal}
use Rattle.bits.specs.Got.{Got, got, refused}
use Rattle.program_rules.specs.Lines.{refused_line}
use Rattle.term_rules.specs.Lent.{Store}
use Rattle.file_rules.specs.File.{table_at}
use Rattle.file_rules.proofs.Coding.ExtendLaws.{Ext, ext_same, ext-short, ext-then, ext-must, ext-got, ext-field}
use Rattle.answer_rules.specs.Answers.{Answer, refusal, refused as refused_after}
use Rattle.answer_rules.specs.Best.{best_at}
use Rattle.answer_rules.specs.Variants.{Lending, variants_refused, variants_at}
use Rattle.program_rules.specs.Query.{Query, query_at}
use Rattle.program_rules.specs.Reply.{
  empty_store,
  empty_lending,
  best_answer,
  best_told,
  best_call,
  variants_answer,
  variants_told,
  variants_call,
  call_of,
  answer_to,
  in_room,
  written,
  reply,
}
use Rattle.program_rules.specs.Promises.{Refuses}
use Rattle.program_rules.proofs.Front.WithinLaws.{Within, within-got, within-not-short, within-must, within-field}
use Rattle.program_rules.proofs.Front.FileLaws.{long_refused, more_same, front_same}

-- The query's fields are three bytes.
query-within : (s : List ℕ) → 3 ≤ length s → Within 24 (query_at s)
unfolding query_at
query-within s h =
    within-field s 0 2 _ (omega arith) (λ mode _.
    within-must _ _ (omega arith) (λ _.
    within-field s 2 5 _ (omega arith) (λ sort _.
    within-field s 7 9 _ (omega arith) (λ value _.
    within-field s 16 8 _ (omega arith) (λ most _. within-got (omega arith))))))

query-ext : (s rest : List ℕ) → Ext (query_at s) (query_at (s ++ rest))
unfolding query_at
query-ext s rest =
    ext-then _ _ (ext-field s rest 0 2) (λ mode a _. ext-must _ _ (λ _.
    ext-then _ _ (ext-field s rest a 5) (λ sort b _.
    ext-then _ _ (ext-field s rest b 9) (λ value c _.
    ext-then _ _ (ext-field s rest c 8) (λ most d _. ext-got _ d)))))

same-of-ext : {g h : Got Query} → Within 24 g → Ext g h → g ≡ h
same-of-ext w (ext_same e) = e
same-of-ext w (ext-short e) = absurd (within-not-short (rw e at w))

query-same : (s rest : List ℕ) → 3 ≤ length s → query_at s ≡ query_at (s ++ rest)
query-same s rest h = same-of-ext (query-within s h) (query-ext s rest)

-- The answer by whether the mode is variants.
abbrev chosen : Query → List ℕ → Bool → Answer (List ℕ)
chosen q file variants =
    elim variants [
      | true ↦ variants_call file q.sort q.value q.most
      | false ↦ best_call (eqb q.mode 2) file q.sort q.value
    ]

call-chosen : (q : Query) (file : List ℕ) → call_of q file ≡ chosen q file (eqb q.mode 1)
unfolding call_of
call-chosen q file = refl

-- A call knows its file by the table or the fault that it holds.
module _ (a b : List ℕ) (e : table_at a ≡ table_at b) where
  variants-same : (root v n : ℕ) (l : Lending) → variants_at a root v n l ≡ variants_at b root v n l
  unfolding variants_at
  variants-same root v n l = rw (e, variants_at) refl

  best-same : (root v : ℕ) (s : Store) → best_at a root v s ≡ best_at b root v s
  unfolding best_at
  best-same root v s = rw (e, best_at) refl

  chosen-same : (q : Query) (variants : Bool) → chosen q a variants ≡ chosen q b variants
  unfolding variants_call best_call
  chosen-same q true = ap variants_told (variants-same _ _ _ empty_lending)
  chosen-same q false = ap (best_told (eqb q.mode 2)) (best-same _ _ empty_store)

  call_same : (q : Query) → call_of q a ≡ call_of q b
  call_same q = call-chosen q a ∙ chosen-same q (eqb q.mode 1) ∙ sym (call-chosen q b)

-- A call on a file with a fault is refused with it.
module _ (file : List ℕ) (x : Refusal) (e : table_at file ≡ refused x) where
  variants-refused : (root v n : ℕ) (l : Lending) → variants_at file root v n l ≡ variants_refused x l
  unfolding variants_at
  variants-refused root v n l = rw (e, variants_at) refl

  best-refused : (root v : ℕ) (s : Store) → best_at file root v s ≡ refused_after x s
  unfolding best_at
  best-refused root v s = rw (e, best_at) refl

  refused-by : (q : Query) (variants : Bool) → chosen q file variants ≡ refusal (refusal_no x)
  unfolding variants_call variants_told variants_answer best_call best_told best_answer
  refused-by q true = ap variants_told (variants-refused q.sort q.value q.most empty_lending)
  refused-by q false = ap (best_told (eqb q.mode 2)) (best-refused q.sort q.value empty_store)

  call-refused : (q : Query) → call_of q file ≡ refusal (refusal_no x)
  call-refused q = call-chosen q file ∙ refused-by q (eqb q.mode 1)

-- The answer by the query that was read, or its fault, and the file.
abbrev told : List ℕ → Got Query → Answer (List ℕ)
told file g = elim g [ refused r ↦ refusal (refusal_no r) | got q p ↦ call_of q file ]

answer-told : (input : List ℕ) → answer_to input ≡ told (drop 3 input) (query_at input)
unfolding answer_to
answer-told input = refl

told_same : (a b : List ℕ) → table_at a ≡ table_at b → (g : Got Query) → told a g ≡ told b g
told_same a b e (refused r) = refl
told_same a b e (got q p) = call_same a b e q

told-refused : (file : List ℕ) (x : Refusal) → table_at file ≡ refused x → (g : Got Query)
    → (k : ℕ) × (told file g ≡ refusal k)
told-refused file x e (refused r) = (refusal_no r, refl)
told-refused file x e (got q p) = (refusal_no x, call-refused file x e q)

-- An input of more than 21,388 bytes keeps its answer when bytes follow.
answer-stays : (s rest : List ℕ) → 21389 ≤ length s → answer_to s ≡ answer_to (s ++ rest)
answer-stays s rest h =
    let d : drop 3 (s ++ rest) ≡ drop 3 s ++ rest = drop-append-le 3 s rest (omega arith) in
    let l : 21386 ≤ length (drop 3 s) = rw length-drop (omega arith) in
    answer-told s
    ∙ told_same (drop 3 s) (drop 3 s ++ rest) (more_same (drop 3 s) rest l) (query_at s)
    ∙ ap (told (drop 3 s ++ rest)) (query-same s rest (omega arith))
    ∙ ap (λ (file : List ℕ). told file (query_at (s ++ rest))) (sym d)
    ∙ sym (answer-told (s ++ rest))

pub same_answer : (input : List ℕ) (n : ℕ) → 21389 ≤ n → answer_to (take n input) ≡ answer_to input
same_answer = front_same answer_to 21389 answer-stays

pub same_reply : (input : List ℕ) (n : ℕ) → 21389 ≤ n → reply (take n input) ≡ reply input
unfolding reply
same_reply input n h = ap (λ (a : Answer (List ℕ)). written (in_room 16384 a)) (same_answer input n h)

line_of : (input : List ℕ) (k : ℕ) → answer_to input ≡ refusal k → reply input ≡ refused_line k
unfolding reply in_room written
line_of input k e = rw e

pub refused_if_long : (input : List ℕ) → 21388 < length input → Refuses input
refused_if_long input h =
    let l : 21386 ≤ length (drop 3 input) = rw length-drop (omega arith) in
    let f = long_refused (drop 3 input) l in
    let r = told-refused (drop 3 input) f.0 f.1 (query_at input) in
    let e : answer_to input ≡ refusal r.0 = answer-told input ∙ r.1 in
    record { number = r.0; answer = e; line = line_of input r.0 e }
