-- The promises of the crate `file`, each from its law. Assumes nothing.
use Prim.Native.Nat.{ℕ, ◌*◌}
use mathlib.Core.Path.{◌≡◌, sym, ap, subst, ◌∙◌}
use mathlib.Core.List.{List, ◌++◌}
use native.Mathlib.Omega.{arith}
use lib.ListN.{length}
use Rattle.refusal.specs.Numbers.{refusal_no}
use Rattle.refusal.specs.declared.Refusal.TheVariants.{Short, Trailing}
use Rattle.bits.proofs.GotLaws.{all-at}
use Rattle.file_rules.specs.Table.{Table}
use Rattle.file_rules.specs.Accepted.{Accepted}
use Rattle.file_rules.specs.Bytes.{file_of}
use Rattle.file_rules.specs.Longest.{longest}
use Rattle.file_rules.proofs.TableLaws.{TableKept, table_kept}
use Rattle.file_rules.proofs.Coding.FileSpell.{file_is_code, file-unique}
use Rattle.file_rules.proofs.Coding.ExtendLaws.{fault_stays, trailing-when-more}
use Rattle.file_rules.proofs.Encoding.FileBack.{code_is_file}
use Rattle.file_rules.proofs.Encoding.BytesLaws.{file_of-bytes, file_of-holds}
use Rattle.file_rules.proofs.Encoding.LongestLaws.{longest-accepted, longest-bytes}
use Rattle.file.proofs.AnswerLaws.{refused-by, read_as, otherwise, faulty, one_answer}
use Rattle.file.specs.Promises.{Holding, Refused, Promises}

kept : (s : List ℕ) {t : Table} (h : Holding s t) → TableKept s t h.end
kept s h = all-at (rw h.is at (table_kept s))

of : (t : Table) → Accepted t → Holding (file_of t) t
of t o = record { end = 8 * length (file_of t); is = file_of-holds t o }

stays : (s rest : List ℕ) (k : ℕ) → Refused s k → (k ≡ refusal_no Short → ⊥) → Refused (s ++ rest) k
stays s rest k h n =
    let f = faulty s k h in
    subst (Refused (s ++ rest)) (sym f.told)
    (refused-by (s ++ rest) f.fault (fault_stays s rest f.is (λ e. n (f.told ∙ ap refusal_no e))))

pub promises : Promises
promises =
    record {
      accepted = λ s t h. (kept s h).ok;
      file_is_code = λ s t h. file_is_code s h.is;
      one_file = λ s u t a b h k. file-unique a b h.is k.is;
      code_is_file = λ s t o e. record { end = 8 * length s; is = code_is_file s t o e };
      every_table = of;
      every_file = file_of-bytes;
      refused_otherwise = λ s none. otherwise s (λ t h. none t (kept s h).ok (file_is_code s h.is));
      read = read_as;
      longest = λ s t h. omega (arith, (kept s h).last, (kept s h).near);
      attained =
          record {
            file = file_of longest;
            table = longest;
            bytes = file_of-bytes longest;
            holding = of longest longest-accepted;
            size = longest-bytes;
          };
      fault_stays = stays;
      nothing_follows = λ s t b rest h. refused-by _ Trailing (trailing-when-more s b rest h.is);
      one_answer = λ s before a b r q e d. one_answer a b r q (e ∙ sym d);
    }
