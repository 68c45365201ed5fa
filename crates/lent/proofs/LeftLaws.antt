-- From the answer of a call on the flat lists to what it leaves of the lent lists. Assumes nothing.
use Rattle.std.proofs.Common.{ℕ, ◌≡◌, min, List, ◌++◌, length, take, drop, ap, sym, ◌∙◌, subst, arith, length-take}
use Rattle.std.specs.Prelude.{ℤ}
use Rattle.std.proofs.Math.Seq.{take_at}
use Rattle.name.specs.Entries.{entries_length}
use Rattle.lent_entries.specs.Entries.{entries_after}
use Rattle.lent_entries.proofs.EntriesLaws.{entries_after-front}
use Rattle.term_rules.specs.declared.Term.{Term}
use Rattle.term_rules.specs.Lent.{Store, store, records_length}
use Rattle.lent.specs.declared.copied.Flat.{Flat}
use Rattle.lent.specs.declared.copied.StoreCopy.{StoreCopy}
use Rattle.lent.specs.Records.{lent_store, records_in, records_after}
use Rattle.lent.specs.Copies.{CopyOf}
use Rattle.lent.proofs.StoreLaws.{
  copied-store,
  records_after-store_in,
  records_after-lists,
  records_after-same,
  entries_after-same,
  lent_store-after,
}

-- what a result says has the lists that it is seen with
pub record Faithful (A : Type 0) (store_of : A → Store) (seen : List ℕ → List ℤ → List ℕ → A) : Type 0 where
  pub records : (rs : List ℕ) (ls : List ℤ) (bs : List ℕ) → (store_of (seen rs ls bs)).records ≡ rs
  pub literals : (rs : List ℕ) (ls : List ℤ) (bs : List ℕ) → (store_of (seen rs ls bs)).literals ≡ ls
  pub names : (rs : List ℕ) (ls : List ℤ) (bs : List ℕ) → (store_of (seen rs ls bs)).names ≡ bs

-- The call answers as wanted, and the lent lists are then the wanted store. Where that is the store as it was lent, the
-- lists are as they were.
pub record Left (A : Type 0) (store_of : A → Store) (ts : List Term) (ns : List (List ℕ)) (n m : ℕ) (wanted : A)
    (seen : List ℕ → List ℤ → List ℕ → A) (ts' : List Term) (ns' : List (List ℕ)) : Type 0 where
  pub answer : seen (store_of wanted).records (store_of wanted).literals (store_of wanted).names ≡ wanted
  pub records : ts' ≡ records_after ts (store_of wanted)
  pub entries : ns' ≡ entries_after ns (store_of wanted).names
  pub held : lent_store ts' ns' (store_of wanted).terms (store_of wanted).symbols ≡ store_of wanted
  pub unchanged : store_of wanted ≡ lent_store ts ns n m → (ts' ≡ ts) × (ns' ≡ ns)

-- entries that a call left as they were are put back as they are
pub kept-names : (ts : List Term) (ns : List (List ℕ)) (c : StoreCopy) → CopyOf ts ns c → ns ≡ entries_after ns (take c.bytes
    c.names)
kept-names ts ns c k = sym (entries_after-same ns k.wide) ∙ ap (entries_after ns) (sym k.entries)

module _ (A : Type 0) (store_of : A → Store) (seen : List ℕ → List ℤ → List ℕ → A) (faith : Faithful A store_of seen)
    (ts ts' : List Term) (ns ns' : List (List ℕ)) (c : StoreCopy) (n m : ℕ) (model : Store → A) (rs : List ℕ)
    (ls : List ℤ) (bs : List ℕ) (k : CopyOf ts ns c) (long : length rs ≡ length (take c.numbers c.flat.records))
    (wide : length ls ≡ length (take c.flat.room c.flat.literals)) (size : length bs ≡ length (take c.bytes c.names))
    (answer : seen rs ls bs ≡ model (store (take c.numbers c.flat.records) (take c.flat.room c.flat.literals)
    (take c.bytes c.names) n m))
    (back : ts' ≡ records_in (rs ++ drop c.numbers c.flat.records) (ls ++ drop c.flat.room c.flat.literals) c.flat.room
    ++ drop c.flat.room ts) where
  -- the lists rs, ls and bs stand in front of the rest of the call's own arrays, and the entries are put back
  pub left : ns' ≡ entries_after ns bs → Left A store_of ts ns n m (model (lent_store ts ns n m)) seen ts' ns'
  unfolding lent_store
  left after =
      let wanted : A = model (lent_store ts ns n m) in
      let e : seen rs ls bs ≡ wanted = answer ∙ ap model (copied-store ts ns c n m k) in
      let records : rs ≡ (store_of wanted).records =
      sym (faith.records rs ls bs) ∙ ap (λ (w : A). (store_of w).records) e in
      let literals : ls ≡ (store_of wanted).literals =
      sym (faith.literals rs ls bs) ∙ ap (λ (w : A). (store_of w).literals) e in
      let names : bs ≡ (store_of wanted).names = sym (faith.names rs ls bs) ∙ ap (λ (w : A). (store_of w).names) e in
      let room : c.flat.room ≡ min 1024 (length ts) = k.records.room in
      let more : length (take c.numbers c.flat.records) ≡ records_length c.flat.room =
      length-take c.numbers c.flat.records ∙ omega (arith, k.numbers, k.records.whole.long, k.records.whole.within) in
      let each : length (take c.flat.room c.flat.literals) ≡ c.flat.room =
      length-take c.flat.room c.flat.literals ∙ omega (arith, k.records.whole.wide, k.records.whole.within) in
      let names_long : length (take c.bytes c.names) ≡ entries_length (min 128 (length ns)) =
      length-take c.bytes c.names ∙ omega (arith, k.bytes, k.long) in
      let g : Flat = record {
        records = rs ++ drop c.numbers c.flat.records;
        literals = ls ++ drop c.flat.room c.flat.literals;
        room = c.flat.room;
      } in
      let put : ts' ≡ records_after ts (store_of wanted) =
      back
      ∙ records_after-store_in ts ns g n m room
      ∙ records_after-lists ts g ns n m (store_of wanted)
      (take_at rs (drop c.numbers c.flat.records) (records_length c.flat.room) (long ∙ more) ∙ records)
      (take_at ls (drop c.flat.room c.flat.literals) c.flat.room (wide ∙ each) ∙ literals) in
      let entries : ns' ≡ entries_after ns (store_of wanted).names = after ∙ ap (entries_after ns) names in
      record {
        answer =
            subst (λ (x : List ℕ). seen x (store_of wanted).literals (store_of wanted).names ≡ wanted) records
            (subst (λ (x : List ℤ). seen rs x (store_of wanted).names ≡ wanted) literals
            (subst (λ (x : List ℕ). seen rs ls x ≡ wanted) names e));
        records = put;
        entries = entries;
        held =
            (λ i. lent_store (put i) (entries i) (store_of wanted).terms (store_of wanted).symbols)
            ∙ lent_store-after ts ns (store_of wanted) (store_of wanted).terms (store_of wanted).symbols
            (ap length (sym records) ∙ long ∙ more ∙ ap (λ (x : ℕ). records_length x) room)
            (ap length (sym literals) ∙ wide ∙ each ∙ room) (ap length (sym names) ∙ size ∙ names_long);
        unchanged = λ same. (
          put ∙ ap (records_after ts) same ∙ records_after-same ts ns n m k.records.eight,
          after ∙ ap (entries_after ns) (names ∙ ap (λ (s : Store). s.names) same) ∙ entries_after-same ns k.wide,
        );
      }

  -- the same where the whole of the call's own entries is put back
  pub left-names : ns' ≡ entries_after ns (bs ++ drop c.bytes c.names) → Left A store_of ts ns n m (model
      (lent_store ts ns n m)) seen ts' ns'
  left-names after =
      let names_long : length (take c.bytes c.names) ≡ entries_length (min 128 (length ns)) =
      length-take c.bytes c.names ∙ omega (arith, k.bytes, k.long) in
      left (after ∙ entries_after-front ns bs (drop c.bytes c.names) (size ∙ names_long))
