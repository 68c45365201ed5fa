-- The promises of the crate `lent_texts` hold, from those of `text`. Assumes nothing.
use Prim.Native.Nat.{ℕ}
use mathlib.Core.Path.{◌≡◌, ap, sym, ◌∙◌}
use mathlib.Core.List.{List}
use Rattle.std.specs.Prelude.{Result}
use Rattle.term_rules.specs.Lent.{Store}
use Rattle.text_rules.specs.LetText.{Naming}
use Rattle.refusal.specs.declared.Refusal.{Refusal}
use Rattle.text_whole.specs.declared.LetText.{LetText}
use Rattle.text_whole.specs.Placed.{Answer, Told, told, answer_of}
use Rattle.text.specs.Told.{plain_told}
use Rattle.text_whole.specs.LetPlaced.{LetAnswer, let_answer_of}
use Rattle.text.specs.LetTold.{let_told}
use Rattle.text.proofs.Promises.{promises as flat}
use Rattle.lent.specs.Records.{lent_store}
use Rattle.lent_texts.specs.Promises.{PlainCases, LetCases, Promises}

-- What is told the same is the same answer, with the same buffer.
same-told : {A : Type 0} (a b : A) (o p : List ℕ) → told a o ≡ told b p → (a ≡ b) × (o ≡ p)
same-told {A} a b o p e = (ap (λ (x : Told A). x.answer) e, ap (λ (x : Told A). x.out) e)

plain-cases :
    (s : Store) (t : ℕ) (out : List ℕ) (r : Result ℕ Refusal) (after : List ℕ) →
    told (answer_of r) after ≡ plain_told s t out →
    PlainCases s t out r after
plain-cases s t out r after e =
    let by : (a : Answer) (o : List ℕ) → plain_told s t out ≡ told a o → (answer_of r ≡ a) × (after ≡ o) =
    λ a o is. same-told (answer_of r) a after o (e ∙ is) in
    record {
      store = λ w. by _ _ (flat.plain_store s t out w);
      term = λ w h. by _ _ (flat.plain_term s t out w h);
      no_room = λ h l. by _ _ (flat.plain_no_room s t out h l);
      text = λ h l. by _ _ (flat.plain_written s t out h l);
    }

let-cases :
    (s : Store) (nm : Naming) (t : ℕ) (out : List ℕ) (r : Result LetText Refusal) (after : List ℕ) →
    told (let_answer_of r) after ≡ let_told s nm t out →
    LetCases s nm t out r after
let-cases s nm t out r after e =
    let by : (a : LetAnswer) (o : List ℕ) → let_told s nm t out ≡ told a o → (let_answer_of r ≡ a) × (after ≡ o) =
    λ a o is. same-told (let_answer_of r) a after o (e ∙ is) in
    record {
      store = λ w. by _ _ (flat.let_store s nm t out w);
      term = λ w h. by _ _ (flat.let_term s nm t out w h);
      prefix = λ h p. by _ _ (flat.let_prefix s nm t out h p);
      hint = λ h p q. by _ _ (flat.let_hint s nm t out h p q);
      start = λ h p q l. by _ _ (flat.let_start s nm t out h p q l);
      no_room = λ h n l. by _ _ (flat.let_no_room s nm t out h n l);
      text = λ h n l. by _ _ (flat.let_written s nm t out h n l);
    }

pub promises : Promises
promises = record {
  plain = λ ts ns n m t out r after e. plain-cases (lent_store ts ns n m) t out r after e;
  lets = λ ts ns n m nm t out r after e. let-cases (lent_store ts ns n m) nm t out r after e;
  plain_determined = λ ts ns n m t out r q o p d e. flat.plain_determined r q o p (d ∙ sym e);
  let_determined = λ ts ns n m nm t out r q o p d e. flat.let_determined r q o p (d ∙ sym e);
}
