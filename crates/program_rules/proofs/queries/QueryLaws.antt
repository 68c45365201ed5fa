-- The query, field by field. Assumes nothing.
use mathlib.Core.Path.{◌≡◌, refl, sym, ap, subst, ◌∙◌}
use mathlib.Core.Bool.{true, false, not}
use mathlib.Core.List.{List}
use Prim.Native.Nat.{ℕ, ◌+◌, ◌≤◌}
use native.Mathlib.Omega.{arith}
use lib.ListN.{length}
use lib.Dec.{eqb}
use Rattle.refusal.specs.declared.Refusal.{Refusal}
use Rattle.refusal.specs.declared.Refusal.TheVariants.{BadMode}
use Rattle.bits.specs.Got.{got, refused, then, must}
use Rattle.bits.specs.Field.{field}
use Rattle.bits.proofs.FieldLaws.{field-read}
use Rattle.bits.proofs.GotLaws.{All, all-got, all-at, all_then, all-must}
use Rattle.program_rules.specs.Query.{Query, query_at}

-- a field that was read ends where its width says
ends : (s : List ℕ) (k w v q : ℕ) → got v q ≡ field s k w → field s k w ≡ got v (k + w)
ends s k w v q e = sym e ∙ ap (got v) (field-read s k w (sym e)).end

module _ (s : List ℕ) where
  pub no_mode : (x : Refusal) → refused x ≡ field s 0 2 → refused x ≡ query_at s
  unfolding query_at then
  no_mode x e = rw (← e) refl

  module _ (m p : ℕ) (em : got m p ≡ field s 0 2) where
    pub bad-mode : eqb m 3 ≡ true → refused BadMode ≡ query_at s
    unfolding query_at then must
    bad-mode b = rw (ends s 0 2 m p em, b) refl

    module _ (b : eqb m 3 ≡ false) where
      pub no-sort : (x : Refusal) → refused x ≡ field s 2 5 → refused x ≡ query_at s
      unfolding query_at then must
      no-sort x e = rw (ends s 0 2 m p em, b, ← e) refl

      module _ (o q : ℕ) (eo : got o q ≡ field s 2 5) where
        pub no_value : (x : Refusal) → refused x ≡ field s 7 9 → refused x ≡ query_at s
        unfolding query_at then must
        no_value x e = rw (ends s 0 2 m p em, b, ends s 2 5 o q eo, ← e) refl

        module _ (v r : ℕ) (ev : got v r ≡ field s 7 9) where
          pub no-count : (x : Refusal) → refused x ≡ field s 16 8 → refused x ≡ query_at s
          unfolding query_at then must
          no-count x e = rw (ends s 0 2 m p em, b, ends s 2 5 o q eo, ends s 7 9 v r ev, ← e) refl

          pub whole-query :
              (n t : ℕ) →
              got n t ≡ field s 16 8 →
              got (record { mode = m; sort = o; value = v; most = n }) 24 ≡ query_at s
          unfolding query_at then must
          whole-query n t e =
              rw (ends s 0 2 m p em, b, ends s 2 5 o q eo, ends s 7 9 v r ev, ends s 16 8 n t e) refl

-- A whole query has its three bytes.
all-long : (s : List ℕ) → All (λ (q : Query) (e : ℕ). 3 ≤ length s) (query_at s)
unfolding query_at
all-long s =
    all_then (field s 0 2) _ (λ m a em.
    all-must (not (eqb m 3)) BadMode _ (λ b.
    all_then (field s a 5) _ (λ o b eo.
    all_then (field s b 9) _ (λ v c ev.
    all_then (field s c 8) _ (λ n d en.
    all-got
    (omega (
      arith,
      (field-read s 0 2 em).end,
      (field-read s a 5 eo).end,
      (field-read s b 9 ev).end,
      (field-read s c 8 en).here,
    )))))))

pub query-long : (s : List ℕ) (q : Query) (e : ℕ) → query_at s ≡ got q e → 3 ≤ length s
query-long s q e h = all-at (subst (All (λ (q : Query) (e : ℕ). 3 ≤ length s)) h (all-long s))
