-- The call keeps its promises. Assumes nothing.
use Prim.Native.Nat.{ℕ, ◌-◌, ◌≤◌, ◌<◌}
use mathlib.Core.Path.{◌≡◌, refl, sym, ap, subst, ◌∙◌}
use mathlib.Core.Bool.{true, false}
use mathlib.Core.List.{List, [], ◌∷◌, ◌++◌}
use mathlib.Core.Logic.{◌↔◌, inl}
use native.Mathlib.Omega.{arith}
use borrow.Author.Tests.{ltb-true, ltb-false}
use lib.Dec.{ltb}
use lib.ListN.{length, get_or, take, drop, get_or-append}
use lib.Seq.{take_at, take-append-le, get_or_at}
use Rattle.std.specs.Prelude.{Result, Ok, Err}
use Rattle.refusal.specs.declared.Refusal.{Refusal}
use Rattle.refusal.proofs.NumberLaws.{number-once}
use Rattle.term_rules.specs.Lent.{Store}
use Rattle.term_rules.specs.WellFormed.{well_formed}
use Rattle.term_rules.specs.Nodes.{Node, literal, variable, application}
use Rattle.term_rules.specs.Growing.{Grows, Takes}
use Rattle.term_rules.proofs.TestLaws.{cases, no_both}
use Rattle.term.specs.Answers.{Answer, given, refused}
use Rattle.term.proofs.DeterminedLaws.{refused-same, given-refused}
use Rattle.term.proofs.Promises.{promises}
use Rattle.term_one.specs.Wanted.{Wanted, add_count, node, asked_at, settled}
use Rattle.term_one.specs.One.{single, add_one}
use Rattle.term_many.specs.Many.{add_from, number_room, Left, left, add_many, seen_many}
use Rattle.term_many.specs.Promises.{OneByOne, none, more, Stops, own, no_place, FirstFault, AllMade, Stands}
use Rattle.term_many.proofs.FromLaws.{answer-cases, one-takes, Whole, from_end, from-whole, snoc-length}
use Rattle.term_many.proofs.ManyLaws.{many-bad, many-from}
use Rattle.term_many.proofs.StepsLaws.{made-grows, made-from, from-made, from-fault, fault-from}
use Rattle.term_many.proofs.AsksLaws.{add-formed}

-- what is left tells what the adds answered
module _ (s : Store) (out : List ℕ) where
  left-refused : (o : Answer (List ℕ × Store)) (k : ℕ) → (left s out o).answer ≡ refused k → o ≡ refused k
  unfolding left
  left-refused (given p) k e = given-refused e
  left-refused (refused j) k e = ap (λ (x : ℕ). refused x) (refused-same e)

  left-kept :
      (o : Answer (List ℕ × Store)) (k : ℕ) →
      o ≡ refused k →
      left s out o ≡ record { answer = refused k; lent = s; numbers = out }
  unfolding left
  left-kept o k e = ap (left s out) e

  left-whole :
      (o : Answer (List ℕ × Store)) (p : List ℕ × Store) →
      o ≡ given p →
      left s out o ≡ record { answer = given tt; lent = p.1; numbers = p.0 ++ drop (length p.0) out }
  unfolding left
  left-whole o p e = ap (left s out) e

module _ (w : Wanted) (s : Store) (out : List ℕ) where
  abbrev all : Answer (List ℕ × Store)
  all = add_from w (number_room out) s [] (add_count w)

  bad_store : well_formed s ≡ false → (add_many w s out).answer ≡ refused 17
  bad_store f = ap (λ (x : Left). x.answer) (sym (many-bad w s out f))

  module _ (f : well_formed s ≡ true) where
    refused_all : (k : ℕ) → (add_many w s out).answer ≡ refused k → all ≡ refused k
    refused_all k e = left-refused s out all k (sym (ap (λ (x : Left). x.answer) (many-from w s out f)) ∙ e)

    pub refused-first : (k : ℕ) → (add_many w s out).answer ≡ refused k → FirstFault w s (number_room out) k
    refused-first k e =
        from-fault w s (number_room out) k (add_count w) s [] (none refl refl) (omega arith) (omega arith)
        (refused_all k e)

    many-kept :
        (k : ℕ) → all ≡ refused k → add_many w s out ≡ record { answer = refused k; lent = s; numbers = out }
    many-kept k e = many-from w s out f ∙ left-kept s out all k e

    pub first-refused : (k : ℕ) → FirstFault w s (number_room out) k → (add_many w s out).answer ≡ refused k
    first-refused k h =
        ap (λ (x : Left). x.answer) (many-kept k (fault-from w s (number_room out) k h))

    not_stopped : (t : Store) (got : List ℕ) → well_formed t ≡ true → Stops w (number_room out) t got 17 → ⊥
    not_stopped t got g (own e) = add-formed w t g got (length got) e
    not_stopped t got g (no_place i a l e) = omega arith

    not-store : (add_many w s out).answer ≡ refused 17 → ⊥
    not-store e =
        let h = refused-first 17 e in
        not_stopped h.at h.got (made-grows w s f h.before).formed h.stops

    -- the numbers and the store that are given
    module _ (p : List ℕ × Store) (e : all ≡ given p) where
      whole : Whole (number_room out) (add_count w) [] p
      whole = from-whole w (number_room out) (add_count w) s [] p (omega arith) e

      many-whole :
          add_many w s out ≡ record { answer = given tt; lent = p.1; numbers = p.0 ++ drop (length p.0) out }
      many-whole = many-from w s out f ∙ left-whole s out all p e

  pub bad-store-when : ((add_many w s out).answer ≡ refused 17) ↔ (well_formed s ≡ false)
  bad-store-when =
      (λ e. cases (well_formed s) (λ f. absurd (not-store f e)) (λ f. f), bad_store)

  pub refused-unchanged :
      (k : ℕ) →
      (add_many w s out).answer ≡ refused k →
      ((add_many w s out).lent ≡ s) × ((add_many w s out).numbers ≡ out)
  refused-unchanged k e =
      cases (well_formed s)
      (λ f.
      let d = many-kept f k (refused_all f k e) in
      (ap (λ (x : Left). x.lent) d, ap (λ (x : Left). x.numbers) d))
      (λ f.
      let d = sym (many-bad w s out f) in
      (ap (λ (x : Left). x.lent) d, ap (λ (x : Left). x.numbers) d))

  -- a call that gives numbers, in a well-formed store
  record Given : Type 0 where
    formed : well_formed s ≡ true
    got : List ℕ
    at : Store
    is : all ≡ given (got, at)

  given-cases : (add_many w s out).answer ≡ given tt → Given
  given-cases e =
      cases (well_formed s)
      (λ f.
      answer-cases all (λ p d. record { formed = f; got = p.0; at = p.1; is = d })
      (λ k d. given-refused (sym e ∙ ap (λ (x : Left). x.answer) (many-kept f k d))))
      (λ f. given-refused (sym e ∙ bad_store f))

  module _ (h : Given) where
    made : OneByOne w s h.got h.at
    made = from-made w s (number_room out) (add_count w) s [] (h.got, h.at) (none refl refl) h.is

    count : length h.got ≡ add_count w
    count = omega (arith, (whole h.formed (h.got, h.at) h.is).count)

    lent_is : (add_many w s out).lent ≡ h.at
    lent_is = ap (λ (x : Left). x.lent) (many-whole h.formed (h.got, h.at) h.is)

    numbers-are : (add_many w s out).numbers ≡ h.got ++ drop (length h.got) out
    numbers-are = ap (λ (x : Left). x.numbers) (many-whole h.formed (h.got, h.at) h.is)

    front-is : take (add_count w) (add_many w s out).numbers ≡ h.got
    front-is =
        ap (take (add_count w)) numbers-are
        ∙ take_at h.got (drop (length h.got) out) (add_count w) count

  pub given_made :
      (add_many w s out).answer ≡ given tt →
      AllMade w s (number_room out) (take (add_count w) (add_many w s out).numbers) (add_many w s out).lent
  given_made e =
      let h = given-cases e in
      subst (λ (l : List ℕ). AllMade w s (number_room out) l (add_many w s out).lent) (sym (front-is h))
      (subst (AllMade w s (number_room out) h.got) (sym (lent_is h))
      (record {
        made = made h;
        all = count h;
        places = omega (arith, (whole h.formed (h.got, h.at) h.is).places);
      }))

  pub given-grows : (add_many w s out).answer ≡ given tt → Grows s (add_many w s out).lent
  given-grows e =
      let h = given-cases e in
      subst (Grows s) (sym (lent_is h)) (made-grows w s h.formed (made h))

  pub made-given :
      (got : List ℕ) (t : Store) →
      well_formed s ≡ true →
      AllMade w s (number_room out) got t →
      add_many w s out ≡ record { answer = given tt; lent = t; numbers = got ++ drop (add_count w) out }
  made-given got t f m =
      let z : add_count w - length got ≡ 0 = omega (arith, m.all) in
      let e : all ≡ given (got, t) =
      made-from w s (number_room out) m.made (add_count w) (omega (arith, m.all)) (omega (arith, m.all, m.places))
      ∙ ap (add_from w (number_room out) t got) z
      ∙ from_end w (number_room out) t got in
      many-whole f (got, t) e
      ∙ ap (λ (n : ℕ). record { answer = given tt; lent = t; numbers = got ++ drop n out }) m.all

-- what an add made stands in every later store
module _ (w : Wanted) (s : Store) where
  stands-grows : (t u : Store) (got : List ℕ) (e : ℕ) → Grows t u → Stands w t got e → Stands w u got e
  stands-grows t u got e g h = record {
    asked = h.asked;
    is = h.is;
    stands = (omega (arith, h.stands.0, g.more), g.nodes (get_or got e 0) h.stands.0 ∙ h.stands.1);
  }

  -- later numbers change nothing of earlier ones
  stands-more :
      (t : Store) (got : List ℕ) (rest : List ℕ) (e : ℕ) →
      e < length got →
      Stands w t got e →
      Stands w t (got ++ rest) e
  stands-more t got rest e l h =
      let a : take e (got ++ rest) ≡ take e got = take-append-le e got rest (omega arith) in
      let b : get_or (got ++ rest) e 0 ≡ get_or got e 0 = get_or-append got rest 0 e l in
      record {
        asked = h.asked;
        is = h.is;
        stands = rw (a, b) h.stands;
      }

  made-stands : {got : List ℕ} {t : Store} → OneByOne w s got t → (e : ℕ) → e < length got → Stands w t got e
  made-stands (none d g) e l = absurd (omega (arith, ap length d))
  made-stands {got = got} {t = t} (more before u i made d g) e l =
      let took = one-takes u before (asked_at w (length before)) i (ap (λ (a : Answer ℕ × Store). a.0) d) in
      let to : (add_one u before (asked_at w (length before))).1 ≡ t = ap (λ (a : Answer ℕ × Store). a.1) d in
      let takes = subst (λ (x : Store). Takes u (settled before took.asked) i x) to
      took.takes in
      subst (λ (x : List ℕ). Stands w t x e) (sym g)
      (cases (ltb e (length before))
      (λ b.
      let m = ltb-true e (length before) b in
      stands-more t before (i ∷ []) e m
      (stands-grows u t before e takes.grows (made-stands made e m)))
      (λ b.
      let m = ltb-false e (length before) b in
      let n : e ≡ length before = omega (arith, ap length g, snoc-length before i) in
      subst (λ (x : ℕ). Stands w t (before ++ (i ∷ [])) x) (sym n)
      (record {
        asked = took.asked;
        is = took.is;
        stands =
            rw (take_at before (i ∷ []) (length before) refl, get_or_at before i [] 0 (length before) refl)
            (takes.below, takes.is);
      })))

pub given-stands :
    (w : Wanted) (s : Store) (out : List ℕ) (e : ℕ) →
    (add_many w s out).answer ≡ given tt →
    e < add_count w →
    Stands w (add_many w s out).lent (add_many w s out).numbers e
given-stands w s out e d l =
    let h = given-cases w s out d in
    subst (λ (x : List ℕ). Stands w (add_many w s out).lent x e) (sym (numbers-are w s out h))
    (stands-more w s (add_many w s out).lent h.got (drop (length h.got) out) e
    (omega (arith, count w s out h))
    (subst (λ (x : Store). Stands w x h.got e) (sym (lent_is w s out h))
    (made-stands w s (made w s out h) e (omega (arith, count w s out h)))))

-- a store that is not well formed
single-bad : (s : Store) (b : Node) → well_formed s ≡ false → (single s b).0 ≡ refused 17
unfolding single
single-bad s (literal z) f =
    ((promises.literal_added s z).refusals 17).1 (inl (λ t. no_both (well_formed s) t f, refl))
single-bad s (variable n) f =
    ((promises.variable_added s n).refusals 17).1 (inl (λ t. no_both (well_formed s) t f, refl))
single-bad s (application n ks) f =
    ((promises.application_added s n ks).refusals 17).1 (inl (λ t. no_both (well_formed s) t f, refl))

-- a list of one
module _ (w : Wanted) (s : Store) (out : List ℕ) (a : Node) (one : add_count w ≡ 1) (asked : asked_at w 0 ≡ node a) where
  first-add : add_one s [] (asked_at w 0) ≡ single s (settled [] a)
  unfolding add_one
  first-add = rw asked

  pub one-given :
      (t : Store) (i : ℕ) →
      1 ≤ length out →
      single s (settled [] a) ≡ (given i, t) →
      add_many w s out ≡ record { answer = given tt; lent = t; numbers = i ∷ drop 1 out }
  one-given t i h e =
      cases (well_formed s)
      (λ f.
      made-given w s out (i ∷ []) t f
      (record {
        made = more [] s i (none refl refl) (first-add ∙ e) refl;
        all = sym one;
        places = omega (arith, one);
      })
      ∙ ap (λ (n : ℕ). record { answer = given tt; lent = t; numbers = i ∷ drop n out }) one)
      (λ f. given-refused (sym (ap (λ (x : Answer ℕ × Store). x.0) e) ∙ single-bad s (settled [] a) f))

  pub one-refused :
      (t : Store) (k : ℕ) →
      single s (settled [] a) ≡ (refused k, t) →
      add_many w s out ≡ record { answer = refused k; lent = s; numbers = out }
  one-refused t k e =
      let d : (single s (settled [] a)).0 ≡ refused k = ap (λ (x : Answer ℕ × Store). x.0) e in
      cases (well_formed s)
      (λ f.
      many-kept w s out f k
      (fault-from w s (number_room out) k
      (record {
        got = [];
        at = s;
        before = none refl refl;
        places = omega arith;
        one = omega (arith, one);
        stops = own (ap (λ (x : Answer ℕ × Store). x.0) first-add ∙ d);
      })))
      (λ f.
      let j : 17 ≡ k = refused-same (sym (single-bad s (settled [] a) f) ∙ d) in
      sym (many-bad w s out f)
      ∙ ap (λ (n : ℕ). record { answer = refused n; lent = s; numbers = out }) j)

pub seen-once :
    (r q : Result Unit Refusal) (t t' : Store) (out out' : List ℕ) →
    seen_many r t out ≡ seen_many q t' out' →
    (r ≡ q) × (t ≡ t') × (out ≡ out')
seen-once (Ok a) (Ok b) t t' out out' e =
    (refl, ap (λ (x : Left). x.lent) e, ap (λ (x : Left). x.numbers) e)
seen-once (Ok a) (Err q) t t' out out' e = given-refused (ap (λ (x : Left). x.answer) e)
seen-once (Err r) (Ok b) t t' out out' e = given-refused (sym (ap (λ (x : Left). x.answer) e))
seen-once (Err r) (Err q) t t' out out' e = (
  ap Err (number-once r q (refused-same (ap (λ (x : Left). x.answer) e))),
  ap (λ (x : Left). x.lent) e,
  ap (λ (x : Left). x.numbers) e,
)
