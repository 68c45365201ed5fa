-- The loop of marked passes, and its start with every row marked. Assumes nothing.
use mathlib.Core.Path.{◌≡◌}
use mathlib.Core.List.{List}
use mathlib.Core.Logic.{⊎_elim}
use Prim.Native.Nat.{ℕ, ◌+◌, ◌/◌, ◌<◌, ◌≤◌}
use native.Mathlib.Omega.{arith}
use lib.ListN.{length, replicate, get_or-replicate, length-replicate}
use Rattle.choice_rules.specs.Rows.{Row}
use Rattle.choice_rules.specs.Run.{State, run}
use Rattle.choice_rules.proofs.ListLaws.{replicate-get}
use Rattle.price_passes.specs.declared.flat.Rows.{Rows}
use Rattle.price_passes.specs.Flat.{top, flat_of, FlatIn, Fresh, state_of, ran_to}
use Rattle.price_passes.proofs.FlatLaws.{rows-length}
use Rattle.price_passes.proofs.RepeatLaws.{Repeated, repeat-begins, repeat-asks, repeat-goes-on, repeat-ends}
use Rattle.price_marks.specs.declared.users.Users.{Users}
use Rattle.price_marks.specs.Marks.{Off, Room, Covered}
use Rattle.price_marks.specs.Links.{PartsOk, LinkRoom, NoLinks, Index}
use Rattle.price_marks.specs.Passes.{Ready, Passed}

-- after p passes that all changed something, with marks that cover what is left
pub record Going (rows : List Row) (n : ℕ) (s : State) (p : ℕ) (marks blocks : List ℕ) : Type 0 where
  pub repeated : Repeated rows n s p
  pub covered : Covered top rows s (Off marks blocks)
  pub room : Room marks blocks

pub going-begins : (rows : List Row) (costs ranks marks blocks : List ℕ) → Fresh costs ranks
    → Covered top rows (state_of costs ranks 0) (Off marks blocks) → Room marks blocks
    → Going rows (length ranks) (state_of costs ranks 0) 0 marks blocks
going-begins rows costs ranks marks blocks z v room =
    record { repeated = repeat-begins rows costs ranks z; covered = v; room = room }

module _ (n : ℕ) (r : Rows) (us : Users)
    (ok : Ready n r us) where
  abbrev flat : List Row
  flat = flat_of r

  module _ (s : State) (p : ℕ) (marks blocks : List ℕ) (v : Going flat n s p marks blocks) where
    -- what the next pass asks
    pub going-asks : (s.last + length r.outputs.now < top)
        × ((length s.costs ≡ length s.ranks)
        × (Ready (length s.ranks) r us
        × (Room marks blocks × Covered top flat s (Off marks blocks))))
    going-asks =
        let q = repeat-asks n r ok.flat s p v.repeated in
        (q.0, (q.1.0, (rw v.repeated.ranks_length ok, (v.room, v.covered))))

    module _ (t : State) (marks' blocks' : List ℕ) (e : Passed flat s t marks' blocks') where
      pub going-goes-on : length t.costs ≡ length s.costs → length t.ranks ≡ length s.ranks
          → (t.last ≡ s.last → ⊥) → Going flat n t (p + 1) marks' blocks'
      going-goes-on lc lr d = record {
        repeated = repeat-goes-on n r ok.flat s t p v.repeated e.passed lc lr d;
        covered = e.covered;
        room = e.room;
      }

      pub going-ends : t.last ≡ s.last → ran_to t.costs t.ranks t.last (p + 1) ≡ run top flat n
      going-ends d = repeat-ends n r ok.flat s t p v.repeated e.passed d

-- the index asks for nothing but rows
module _ (n : ℕ) (r : Rows) (ok : FlatIn n r)
    (few : length r.children.now ≤ 8192) where
  pub link-asks : PartsOk (length r.outputs.now) r.starts.now r.children.now
      × (LinkRoom r.children.now (replicate 512 0) (replicate 8192 0) (replicate 8192 0)
      × NoLinks (replicate 512 0) (replicate 8192 0) (replicate 8192 0))
  link-asks = (
    record {
      few_rows = ok.few_rows;
      starts_length = ok.starts_length;
      starts_rise = ok.starts_rise;
      starts_in = ok.starts_in;
    },
    (
      record {
        few_children = few;
        next_room = omega (arith, length-replicate {A = ℕ} 8192 0);
        owner_room = omega (arith, length-replicate {A = ℕ} 8192 0);
        children_in = λ i h k. omega (arith, length-replicate {A = ℕ} 512 0);
      },
      record {
        first_zero = replicate-get 512;
        next_zero = replicate-get 8192;
        owner_zero = replicate-get 8192;
      },
    ),
  )

  pub links-ready : (us : Users) → Index r.starts.now r.children.now us.first.now us.next.now us.owner.now (length r.outputs.now)
      → length us.first.now ≡ 512 → length us.next.now ≡ 8192 → length us.owner.now ≡ 8192
      → Ready n r us
  links-ready us v lf ln lo = record {
    flat = ok;
    index = v;
    first_room = omega (arith, ok.few_classes);
    next_room = omega arith;
    owner_room = omega arith;
  }

  -- no row is off where every mark is set
  pub all-marked : (s : State) → Covered top (flat_of r) s
      (Off (replicate 1024 1) (replicate 32 1))
  all-marked s i h o =
      let l : i < 1024 = omega (arith, ok.few_rows, rows-length r.outputs.now r.heads.now r.starts.now r.children.now) in
      let b = get_or-replicate {A = ℕ} 32 (i / 32) 1 0 (omega arith) in
      let m = get_or-replicate {A = ℕ} 1024 i 1 0 l in
      absurd (⊎_elim (λ x. omega arith) (λ x. omega arith) o)

  pub mark-room : Room (replicate 1024 1) (replicate 32 1)
  mark-room = record { marks_room = length-replicate {A = ℕ} 1024 1; blocks_room = length-replicate {A = ℕ} 32 1 }
