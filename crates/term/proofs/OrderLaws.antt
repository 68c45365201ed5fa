-- Laws on the order of refusals: each test of a call is one question of the statement. Assumes nothing.
use Prim.Native.Nat.{ℕ}
use mathlib.Core.Path.{◌≡◌, refl, sym, ◌∙◌}
use mathlib.Core.Bool.{Bool, true, false}
use mathlib.Core.Logic.{inl, inr}
use Rattle.refusal.specs.declared.Refusal.{Refusal}
use Rattle.refusal.specs.Numbers.{refusal_no}
use Rattle.term_rules.proofs.TestLaws.{no_both}
use Rattle.term.specs.Answers.{Answer, given, refused, refuse}
use Rattle.term.specs.Calls.{Faults, fault, unless}
use Rattle.term.specs.Orders.{Telling, never, must, Refuses}
use Rattle.term.proofs.DeterminedLaws.{refused-same, given-refused}

module _ {A : Type 0} where
  -- a value is no refusal
  pub refuses-never : (v : A) → Refuses (given v) never
  refuses-never v k = (given-refused, λ n. absurd n)

  module _ (a : Answer A) (P : Type 0) (m : ℕ) (rest : Telling) where
    -- what is asked holds
    pub refuses-pass : P → Refuses a rest → Refuses a (must P m rest)
    refuses-pass p h k = (λ e. inr (p, (h k).0 e), back)
      where
        back : must P m rest k → a ≡ refused k
        back (inl f) = absurd (f.0 p)
        back (inr r) = (h k).1 r.1

    -- it fails
    pub refuses-fail : (P → ⊥) → a ≡ refused m → Refuses a (must P m rest)
    refuses-fail n d k = (λ e. inl (n, refused-same (sym e ∙ d)), back)
      where
        back : must P m rest k → a ≡ refused k
        back (inl f) = d ∙ λ i. refused (sym f.1 i)
        back (inr r) = absurd (n r.0)

  -- a call that answers by its faults
  module _ (answer : Faults → Answer A) (refuses : (r : Refusal) → answer (fault r) ≡ refuse r) where
    pub refuses-unless :
        (b : Bool) (P : Type 0) (r : Refusal) (f : Faults) (rest : Telling) →
        (b ≡ true → P) →
        (P → b ≡ true) →
        (b ≡ true → Refuses (answer f) rest) →
        Refuses (answer (unless b r f)) (must P (refusal_no r) rest)
    unfolding unless
    refuses-unless true P r f rest to of h = refuses-pass (answer f) P (refusal_no r) rest (to refl) (h refl)
    refuses-unless false P r f rest to of h =
        refuses-fail (answer (fault r)) P (refusal_no r) rest (λ p. no_both false (of p) refl) (refuses r)
