-- What variants answer, as the program tells it. Assumes nothing.
use Rattle.std.specs.Prelude.{Result, Err}
use mathlib.Core.Path.{◌≡◌, sym, ap, subst, ◌∙◌}
use mathlib.Core.Bool.{true}
use mathlib.Core.List.{List}
use Prim.Native.Nat.{ℕ}
use native.Mathlib.Omega.{arith}
use borrow.Author.Tests.{le-leb}
use lib.IntN.{ℤ, pos}
use lib.ListN.{length, replicate}
use Rattle.name.specs.Entries.{table_length}
use Rattle.refusal.specs.declared.Refusal.{Refusal}
use Rattle.refusal.specs.Numbers.{refusal_no}
use Rattle.term_rules.specs.Lent.{Store, store, records_length, term_room, symbol_room}
use Rattle.term_rules.specs.WellFormed.{well_formed, every}
use Rattle.answer_rules.specs.Answers.{Answer, value, refusal}
use Rattle.answer_rules.specs.Variants.{VariantsAfter, Lending, variants_at}
use Rattle.program.specs.Replies.{Within}
use Rattle.extract.specs.Returned.{Returned}
use Rattle.extract.proofs.VariantFacts.CallLaws.{variants-returned}
use Rattle.program_rules.specs.Reply.{
  empty_store,
  empty_lending,
  variants_text,
  variants_reply,
  variants_answer,
  variants_told,
  variants_call,
  in_room,
  put_in,
}
use Rattle.program_rules.specs.Seen.{seen}
use Rattle.program.proofs.CallLaws.{start, refusal-stays}

-- the store and the lists that the program starts with
abbrev pub lendings : Lending
lendings = record { store = start; costs = replicate 256 0; terms = replicate 256 0 }

abbrev pub kept_as : ℕ → ℕ → Store → List ℕ → List ℕ → VariantsAfter
kept_as k p s paid found =
    record { answer = value (record { count = k; passes = p }); store = s; costs = paid; terms = found }

abbrev pub refused_as : Refusal → Store → List ℕ → List ℕ → VariantsAfter
refused_as r s paid found = record { answer = refusal (refusal_no r); store = s; costs = paid; terms = found }

-- a store without a term and without a name is well formed, whatever is lent
pub none-formed : (rs : List ℕ) (ls : List ℤ) (ns : List ℕ) → well_formed (store rs ls ns 0 0) ≡ true
unfolding well_formed every
none-formed rs ls ns =
    let s : Store = store rs ls ns 0 0 in
    rw (le-leb 0 (term_room s) (omega arith), le-leb 0 (symbol_room s) (omega arith))

pub start-formed : well_formed start ≡ true
start-formed = none-formed (replicate (records_length 1024) 0) (replicate 1024 (pos 0)) (replicate table_length 0)

module _ (file : List ℕ) (sort v n : ℕ) (out : List ℕ) where
  told-by :
      (a : VariantsAfter) → a ≡ variants_at file sort v n lendings → variants_call file sort v n ≡ variants_told a
  unfolding variants_call empty_store empty_lending
  told-by a e = ap variants_told (sym e)

  pub variants-refused :
      (r : Refusal) (s : Store) (paid found : List ℕ) →
      refused_as r s paid found ≡ variants_at file sort v n lendings →
      seen (Err r) out ≡ put_in (in_room (length out) (variants_call file sort v n)) out
  unfolding variants_told variants_answer
  variants-refused r s paid found e =
      sym
      (ap (λ (x : Answer (List ℕ)). put_in (in_room (length out) x) out) (told-by (refused_as r s paid found) e)
      ∙ refusal-stays (refusal_no r) out)

  pub variants_kept :
      (k p : ℕ) (s : Store) (paid found : List ℕ) (r : Result ℕ Refusal) (after : List ℕ) →
      kept_as k p s paid found ≡ variants_at file sort v n lendings →
      seen r after ≡ put_in (in_room (length out) (value (variants_text s paid found k p))) out →
      seen r after ≡ put_in (in_room (length out) (variants_call file sort v n)) out
  unfolding variants_told variants_answer variants_reply variants_text
  variants_kept k p s paid found r after e h =
      h ∙ sym (ap (λ (x : Answer (List ℕ)). put_in (in_room (length out) x) out) (told-by (kept_as k p s paid found) e))

-- What comes back is well formed and has every term that is told.
pub variants-return :
    (file : List ℕ) (sort v n k p : ℕ) (s : Store) (paid found : List ℕ) →
    kept_as k p s paid found ≡ variants_at file sort v n lendings →
    (well_formed s ≡ true) × Within paid found s.terms k
variants-return file sort v n k p s paid found e =
    let q = variants-returned lendings file sort v n (record { count = k; passes = p })
    (sym (ap (λ (a : VariantsAfter). a.answer) e)) in
    let r : Returned start s paid found k =
    subst (λ (a : VariantsAfter). Returned start a.store a.costs a.terms k) (sym e) q in (
      r.grows.formed,
      record { costs_long = r.costs_long; terms_long = r.terms_long; below = r.below },
    )
