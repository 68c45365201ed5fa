-- One marked row: what its relaxation and its marking ask and leave. Assumes nothing.
use mathlib.Core.Path.{◌≡◌, ap, sym, ◌∙◌, subst}
use mathlib.Core.List.{List, [], ◌∷◌, map}
use mathlib.Core.Logic.{◌⊎◌, inl, inr, ⊎_elim, ◌≢◌}
use Prim.Native.Nat.{ℕ, suc, ◌+◌, ◌-◌, ◌≤◌, ◌<◌, min}
use native.Mathlib.Omega.{arith}
use native.Mathlib.Decide.{ℕ_discrete, dec_lt}
use lib.ListN.{length, get_or, set, drop, length-set, length-take, length-drop}
use lib.Seq.{get_or-set_other, get_or-take, get_or-drop}
use Rattle.choice_rules.specs.Rows.{Child, Row, row_at}
use Rattle.choice_rules.specs.Run.{State, relax}
use Rattle.choice_rules.proofs.ListLaws.{Each}
use Rattle.choice_rules.proofs.RankLaws.{Other}
use Rattle.price_passes.specs.declared.flat.Rows.{Rows}
use Rattle.price_passes.specs.Flat.{top, child_of, row_of, part_of, flat_of, ChildrenIn}
use Rattle.price_passes.proofs.ChildLaws.{child-when-class, child-when-literal}
use Rattle.price_passes.proofs.FlatLaws.{rows-length, rows_get, part_in}
use Rattle.price_marks.specs.declared.users.Users.{Users}
use Rattle.price_marks.specs.Marks.{Off, Room, Covered}
use Rattle.price_marks.specs.Links.{Meets, PartsOk, LinksOk, MarkedFrom}
use Rattle.price_marks.specs.Passes.{Ready, Turned}
use Rattle.price_marks.proofs.SkipLaws.{relax-covers}
use Rattle.price_marks.proofs.LinkLaws.{starts-mono}

-- children none of which is class d
each-other : (d : ℕ) (xs : List ℕ) → ((k : ℕ) → k < length xs → get_or xs k 0 < 512 → get_or xs k 0 ≢ d)
    → Each (Other d) (map child_of xs)
each-other d [] f = tt
each-other d (x ∷ xs) f =
    (one (dec_lt x 512), each-other d xs (λ k l. f (suc k) (omega arith)))
  where
    one : Dec (x < 512) → Other d (child_of x)
    one (yes h) = rw (child-when-class x h) (f 0 (omega arith) h)
    one (no h) = rw (child-when-literal x (omega arith)) tt

-- a mark cleared
clear_kept : (marks blocks : List ℕ) (i j : ℕ) → Off (set marks i 0) blocks j → (j ≡ i) ⊎ Off marks blocks j
clear_kept marks blocks i j o = ⊎_elim (λ x. inr (inl x)) (λ x. go x (ℕ_discrete j i)) o
  where
    go : get_or (set marks i 0) j 0 ≡ 0 → Dec (j ≡ i) → (j ≡ i) ⊎ Off marks blocks j
    go x (yes e) = inl e
    go x (no d) = inr (inr (sym (get_or-set_other marks i j 0 0 d) ∙ x))

module _ (n : ℕ) (r : Rows) (us : Users)
    (ok : Ready n r us) where
  abbrev flat : List Row
  flat = flat_of r

  pub parts-ok : PartsOk (length r.outputs.now) r.starts.now r.children.now
  parts-ok = record {
    few_rows = ok.flat.few_rows;
    starts_length = ok.flat.starts_length;
    starts_rise = ok.flat.starts_rise;
    starts_in = ok.flat.starts_in;
  }

  -- a row that is off after marking has not the class for a child
  free_of : (c : ℕ) (marks₀ blocks₀ marks blocks : List ℕ)
      → MarkedFrom us.next.now us.owner.now (get_or us.first.now c 0) marks₀ blocks₀ marks blocks → (j : ℕ) → j < length r.outputs.now
      → Off marks blocks j → Each (Other c) (map child_of (part_of r.starts.now r.children.now j))
  free_of c marks₀ blocks₀ marks blocks v j h o = each-other c (part_of r.starts.now r.children.now j) (λ k l x e. at k l x e)
    where
      a : ℕ
      a = get_or r.starts.now j 0

      at : (k : ℕ) → k < length (part_of r.starts.now r.children.now j) → get_or (part_of r.starts.now r.children.now j) k 0 < 512
          → get_or (part_of r.starts.now r.children.now j) k 0 ≢ c
      at k l x e =
          let l' : k < min (get_or r.starts.now (j + 1) 0 - a) (length r.children.now - a) = simp (length-take, length-drop) at l in
          let l'' : k < get_or r.starts.now (j + 1) 0 - a = omega arith in
          let g : get_or (part_of r.starts.now r.children.now j) k 0 ≡ get_or r.children.now (a + k) 0
          = get_or-take (get_or r.starts.now (j + 1) 0 - a) (drop a r.children.now) k 0 l'' ∙ get_or-drop a r.children.now k 0 in
          let u = ok.index.chains.met (a + k)
          (omega (arith, starts-mono (length r.outputs.now) r.starts.now r.children.now parts-ok 0 j (omega arith) (omega arith)))
          (omega (
            arith,
            starts-mono (length r.outputs.now) r.starts.now r.children.now parts-ok (j + 1) (length r.outputs.now) (omega arith)
                (omega arith),
          ))
          (omega arith) in
          v.on j (a + k) o
          (subst (λ (z : ℕ). Meets us.next.now (a + k) (get_or us.first.now z 0)) (sym g ∙ e) u)
          (ok.index.owners.owned j (a + k) h (omega arith) (omega arith))

  module _ (s : State) (i : ℕ) (h : i < length r.outputs.now) (lc : length s.costs ≡ n) (lr : length s.ranks ≡ n) where
    -- what relaxing row i asks
    pub turn-asks : s.last < top
        → (s.last < top) × ((length s.costs ≡ length s.ranks) × ((get_or r.outputs.now i 0 < length s.ranks)
        × ChildrenIn (length s.ranks) (part_of r.starts.now r.children.now i)))
    turn-asks l = (
      l,
      (
        omega arith,
        (
          omega (arith, ok.flat.outputs_in i h),
          rw lr (part_in n (get_or r.starts.now (i + 1) 0 - get_or r.starts.now i 0) (get_or r.starts.now i 0) r.children.now
              ok.flat.children_in),
        ),
      ),
    )

    -- and what marking after it
    pub mark-asks : LinksOk us.next.now us.owner.now (get_or us.first.now (get_or r.outputs.now i 0) 0)
    mark-asks =
        let e : length r.outputs.now - 1 + 1 ≡ length r.outputs.now = omega arith in
        let last : get_or r.starts.now (length r.outputs.now) 0 ≤ length r.children.now
        = rw e at (ok.flat.starts_in (length r.outputs.now - 1) (omega arith)) in
        record {
          low = omega (arith, ok.index.chains.first_low (get_or r.outputs.now i 0), ok.next_room);
          rooms = ok.owner_room;
          next_low = ok.index.chains.next_low;
          owner_low = ok.index.owners.owner_low;
        }

    abbrev row : Row
    row = row_at flat i

    output-is : row.output ≡ get_or r.outputs.now i 0
    output-is = ap (λ (q : Row). q.output) (rows_get r.outputs.now r.heads.now r.starts.now r.children.now i h)

    module _ (marks blocks : List ℕ) (room : Room marks blocks) (v : Covered top flat s (Off marks blocks)) (t : State)
        (e : t ≡ relax top s (row_of (get_or r.outputs.now i 0) (get_or r.heads.now i 0) (part_of r.starts.now r.children.now i))) where
      relaxed-is : t ≡ relax top s row
      relaxed-is = e ∙ ap (λ (q : Row). relax top s q) (sym (rows_get r.outputs.now r.heads.now r.starts.now r.children.now i h))

      covers : (off : ℕ → Type 0) → ((j : ℕ) → off j → (j ≡ i) ⊎ Off marks blocks j)
          → (t.last ≢ s.last → (j : ℕ) → j < length flat → off j
          → Each (Other row.output) (row_at flat j).children)
          → Covered top flat t off
      covers off was free =
          let in_row : row.output < n = omega (arith, ok.flat.outputs_in i h, output-is) in
          subst (λ (u : State). Covered top flat u off) (sym relaxed-is)
          (relax-covers top flat s (Off marks blocks) off i (omega arith) (omega arith) v was
          (λ d. free (λ x. d (sym (ap (λ (u : State). u.last) relaxed-is) ∙ x))))

      -- nothing was stored
      pub turn-still : t.last ≡ s.last → Turned flat i s t (set marks i 0) blocks
      turn-still k = record {
        relaxed = relaxed-is;
        covered = covers (Off (set marks i 0) blocks) (clear_kept marks blocks i) (λ d. absurd (d k));
        room = record { marks_room = length-set marks i 0 ∙ room.marks_room; blocks_room = room.blocks_room };
      }

      -- a cost was stored
      pub turn-marks : (marks' blocks' : List ℕ)
          → MarkedFrom us.next.now us.owner.now (get_or us.first.now (get_or r.outputs.now i 0) 0) (set marks i 0) blocks marks' blocks'
          → Room marks' blocks' → Turned flat i s t marks' blocks'
      turn-marks marks' blocks' m room' = record {
        relaxed = relaxed-is;
        covered = covers (Off marks' blocks') (λ j o. clear_kept marks blocks i j (m.kept j o)) (λ d. free);
        room = room';
      }
        where
          free : (j : ℕ) → j < length flat → Off marks' blocks' j
              → Each (Other row.output) (row_at flat j).children
          free j l o =
              let l' : j < length r.outputs.now = omega (arith, rows-length r.outputs.now r.heads.now r.starts.now r.children.now) in
              let f = free_of (get_or r.outputs.now i 0) (set marks i 0) blocks marks' blocks' m j l' o in
              subst (λ (ks : List Child). Each (Other row.output) ks)
              (sym (ap (λ (q : Row). q.children) (rows_get r.outputs.now r.heads.now r.starts.now r.children.now j l')))
              (subst (λ (d : ℕ). Each (Other d) (map child_of (part_of r.starts.now r.children.now j))) (sym output-is) f)
