-- `bindings::bind` meets its contract: counts, sizes, flags, and the root is met. Assumes nothing.
use Prim.Native.Nat.{◌-◌, ◌<◌}
use mathlib.Core.Path.{ap, ◌∙◌}
use Rattle.term_rules.specs.Lent.{kids_at}
use Rattle.text_counts.specs.Met.{wanted_at, met_at}
use Rattle.text_counts.proofs.bindings.TableLaws.{bounds-none}
use Rattle.text_counts.proofs.bindings.WantedLaws.{wanted-of-marked, bindings-of-met, met-none}
use native.Mathlib.Omega.{arith}
use Rattle.text_counts.proofs.bindings.bind.Goals as goal

pub meet-requires : goal.meet-requires
meet-requires c =
    let b = c.requires.blank in
    record {
      ready = record {
        linked = c.requires.linked;
        in_wanted =
            omega (
              arith,
              b.in_counts,
              c.count.auto.counts,
              c.mark.auto.counts,
            );
        in_places = b.in_places;
        known = omega (arith, c.requires.n_nonzero);
        deep = omega (arith, c.requires.linked.few);
        met =
            met-none c.args.found.now.places.now c.args.found.now.terms.now c.args.found.now.indents.now b.places_zero
            b.in_terms
            b.in_indents;
      };
    }

pub returns-clause-all_met : goal.returns-clause-all_met
returns-clause-all_met c =
    let k : c.args.n - 1 < c.args.n = omega (arith, c.requires.n_nonzero) in
    let w =
    wanted-of-marked c.args.records.now
    c.count.new.counts
    c.size.new.sizes
    c.mark.new.counts c.args.n
    c.count.ensures
    c.size.ensures
    c.mark.ensures in
    let q = c.meet in
    record {
      met = q.ensures.done.met;
      same =
          q.ensures.done.same
          ∙ (ap
          (met_at (kids_at c.args.records.now)
          (wanted_at
          c.mark.new.counts) 0 (c.args.n - 1))
          (bounds-none c.args.found.now.terms.now c.args.found.now.indents.now)
          ∙ bindings-of-met (kids_at c.args.records.now) c.args.n c.requires.linked.lower (c.args.n - 1) k
          (wanted_at
          c.mark.new.counts) w);
    }
