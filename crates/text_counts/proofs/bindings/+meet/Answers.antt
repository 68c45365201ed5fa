-- `bindings::meet` meets its contract: nothing if bound already, else the children, then the term. Assumes nothing.
use Prim.Native.Nat.{◌+◌, ◌≤◌, ℕ, ◌<◌}
use mathlib.Core.Path.{◌≡◌, sym, ap, ◌∙◌}
use mathlib.Core.Bool.{Bool}
use mathlib.Core.List.{List, ◌++◌}
use lib.ListN.{length, get_or}
use borrow.Author.Tests.{lt-ltb, le-ltb}
use Rattle.text_rules.specs.Counts.{in_turn}
use Rattle.text_rules.specs.Bindings.{Bound, nowhere, find, bind}
use Rattle.term_rules.specs.Lent.{kids_at}
use Rattle.text_counts.specs.Met.{Ready, bounds, place_no, wanted_at, met_at}
use Rattle.text_counts.proofs.bindings.FindLaws.{one, placed_of, nowhere-of}
use Rattle.text_counts.proofs.bindings.MeetLaws.{bind-no, bind-yes, met-old, met-new}
use Rattle.text_counts.proofs.bindings.TableLaws.{
  bound-room,
  bounds-more,
  met-more,
  Turning,
  turning-again,
  turning-end,
}
use native.Mathlib.Omega.{arith}
use Rattle.std.proofs.Common.{rules}
use Rattle.text_counts.proofs.bindings.+meet.Goals as goal

module _ {rs ws places terms indents : List ℕ} {n m i t : ℕ} (r : Ready rs ws places terms indents n m i t) where
  -- the bindings before the call, and after it
  abbrev before : List Bound
  before = bounds terms indents m

  abbrev kids : List ℕ
  kids = kids_at rs t

  abbrev inside : List Bound
  inside = in_turn (met_at (kids_at rs) (wanted_at ws) (i + 2)) kids before

  abbrev after : List Bound
  after = met_at (kids_at rs) (wanted_at ws) i t before

  abbrev place_of : ℕ
  place_of = get_or places t 0

  right : place_of ≡ place_no (find t 0 before)
  right = r.met.right t (omega (arith, r.known, r.in_places))

  -- t has a binding
  is-old : 0 < place_of → before ≡ after
  is-old l =
      let p = placed_of (find t 0 before) (omega (arith, right)) in
      sym (met-old (kids_at rs) (wanted_at ws) n r.linked.lower i t before p.number r.known p.is)

  -- it has none
  unbound : place_of ≤ 0 → find t 0 before ≡ nowhere
  unbound l = nowhere-of (find t 0 before) (omega (arith, right))

  is-new : place_of ≤ 0 → after ≡ bind (wanted_at ws t) t i inside
  is-new l = met-new (kids_at rs) (wanted_at ws) n r.linked.lower i t before r.known (unbound l)

  is-unwanted : place_of ≤ 0 → get_or ws t 0 ≡ 0 → after ≡ inside
  is-unwanted l e =
      is-new l
      ∙ (ap (λ (b : Bool). bind b t i inside) (le-ltb 0 (get_or ws t 0) (omega arith)) ∙ bind-no t i inside)

  is-wanted : place_of ≤ 0 → (get_or ws t 0 ≡ 0 → ⊥) → after ≡ inside ++ one t i
  is-wanted l e =
      is-new l
      ∙ (ap (λ (b : Bool). bind b t i inside) (lt-ltb 0 (get_or ws t 0) (omega (arith, e))) ∙ bind-yes t i inside)

  -- after the loop
  module _
      (places' terms' indents' : List ℕ)
      (b j : ℕ)
      (v : Turning (kids_at rs) (wanted_at ws) i t kids places terms indents m places' terms' indents' b j)
    where
      turned : length kids ≤ j → bounds terms' indents' b ≡ inside
      turned l =
          turning-end (kids_at rs) (wanted_at ws) n r.linked.lower i t kids places terms indents m places' terms'
          indents' b j v l

      room : b < length terms'
      room =
          bound-room places' terms' indents' b t i v.met
          (omega (arith, r.known, r.in_places, v.places_long)) v.out

pub returns-then-found-t-gt0-clause-done : goal.returns-then-found-t-gt0-clause-done
returns-then-found-t-gt0-clause-done t c = record {
  met = c.requires.ready.met;
  same = is-old c.requires.ready
      c.if-found-t-gt0.true;
}

pub meet-requires : goal.meet-requires
meet-requires t c =
    let l = c.loop-k in
    let k =
    c.requires.ready.linked.lower c.args.t c.requires.ready.known l.k-index
    (omega (arith, c.loop-k-test.true, ap length l.invariant.0)) in
    rw l.invariant.0 (
      omega (arith, k),
      record {
        linked = c.requires.ready.linked;
        in_wanted = c.requires.ready.in_wanted;
        in_places = omega (arith, c.requires.ready.in_places, l.invariant.1.0.places_long);
        known = omega (arith, k, c.requires.ready.known);
        deep = omega (arith, k, c.requires.ready.deep);
        met = l.invariant.1.0.met;
      },
    )

pub loop-k-preserved : goal.loop-k-preserved
loop-k-preserved t c =
    let l = c.loop-k in
    let low : l.k-index < length (kids c.requires.ready) =
    omega (arith, c.loop-k-test.true, ap length l.invariant.0) in
    let k = c.requires.ready.linked.lower c.args.t c.requires.ready.known l.k-index low in
    let q = c.meet in
    let d = rw l.invariant.0 at q.ensures.done in (
      l.invariant.0,
      (
        turning-again (kids_at c.args.records.now) (wanted_at c.args.wanted.now) c.args.n
            c.requires.ready.linked.lower c.args.i c.args.t (kids c.requires.ready) c.args.found.now.places.now
            c.args.found.now.terms.now c.args.found.now.indents.now c.args.found.now.count
            l.found.places.now l.found.terms.now l.found.indents.now l.found.count
            l.k-index l.invariant.1.0
            q.new.found.places.now q.new.found.terms.now q.new.found.indents.now q.new.found.count
            low k c.requires.ready.known
            q.ensures.long.places q.ensures.long.terms q.ensures.long.indents d.met d.same,
        search rules,
      ),
    )

pub returns-then-wanted-t-eq0-clause-done : goal.returns-then-wanted-t-eq0-clause-done
returns-then-wanted-t-eq0-clause-done t c =
    let l = c.loop-k in
    record {
      met = l.invariant.1.0.met;
      same =
          turned c.requires.ready l.found.places.now l.found.terms.now l.found.indents.now l.found.count l.k-index
          l.invariant.1.0
          (omega (arith, c.loop-k-test.false, ap length l.invariant.0))
          ∙ sym (is-unwanted c.requires.ready c.if-found-t-gt0.false c.if-wanted-t-eq0.true);
    }

pub bounds-found-b : goal.bounds-found-b
bounds-found-b t c =
    let l = c.loop-k in
    omega (
      arith,
      room c.requires.ready l.found.places.now l.found.terms.now l.found.indents.now l.found.count l.k-index
          l.invariant.1.0,
      l.invariant.1.0.terms_long,
    )

pub bounds-found-b-2 : goal.bounds-found-b-2
bounds-found-b-2 t c =
    let l = c.loop-k in
    omega (
      arith,
      room c.requires.ready l.found.places.now l.found.terms.now l.found.indents.now l.found.count l.k-index
          l.invariant.1.0,
      l.invariant.1.0.terms_long,
    )

pub returns-clause-done : goal.returns-clause-done
returns-clause-done t c =
    let l = c.loop-k in
    let k : c.args.t < length l.found.places.now =
    omega (arith, c.requires.ready.known, c.requires.ready.in_places, l.invariant.1.0.places_long) in
    record {
      met =
          met-more l.found.places.now l.found.terms.now l.found.indents.now l.found.count c.args.t c.args.i
          l.invariant.1.0.met k l.invariant.1.0.out;
      same =
          bounds-more l.found.places.now l.found.terms.now l.found.indents.now l.found.count c.args.t c.args.i
          l.invariant.1.0.met k l.invariant.1.0.out
          ∙ (ap (λ (x : List Bound). x ++ one c.args.t c.args.i)
          (turned c.requires.ready l.found.places.now l.found.terms.now l.found.indents.now l.found.count l.k-index
          l.invariant.1.0 (omega (arith, c.loop-k-test.false, ap length l.invariant.0)))
          ∙ sym (is-wanted c.requires.ready c.if-found-t-gt0.false c.if-wanted-t-eq0.false));
    }
