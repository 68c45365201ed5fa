-- `variants_reply::put` meets its contract: a well-formed store can be read, and no term has a let name. Assumes
-- nothing.
use Prim.Native.Nat.{ℕ, ◌≤◌}
use mathlib.Core.Path.{ap, ◌∙◌}
use mathlib.Core.List.{List}
use lib.ListN.{length, replicate, length-replicate}
use Rattle.term_rules.specs.Facts.{Sound}
use Rattle.term_rules.proofs.FactsLaws.{sound-of-well_formed}
use Rattle.text_pieces.specs.Readable.{Readable}
use Rattle.text_pieces.proofs.heads.ReadableLaws.{readable-of-sound}
use Rattle.text_whole.proofs.PlacedLaws.{zeros-get}
use Rattle.text_whole.proofs.PlainLaws.{plain-tables}
use Rattle.answer_rules.specs.Answers.{value}
use Rattle.program_rules.specs.Reply.{in_room, put_in}
use Rattle.term_layout.specs.Sound.{store_of}
use Rattle.program.proofs.variants_reply.TextLaws.{text-is}
use native.Mathlib.Omega.{arith}
use native.Mathlib.Omega.{arith}
use Rattle.program.proofs.variants_reply.put.Goals.{Start}
use Rattle.program.proofs.variants_reply.put.Goals as goal

sound :
    (s : Start) →
    Sound (store_of s.args.store.now)
sound s =
    sound-of-well_formed
    (store_of s.args.store.now)
    s.args.store.now.sound

readable :
    (s : Start) →
    Readable s.args.store.now.records.now s.args.store.now.literals.now s.args.store.now.names.now s.args.store.now.terms
readable s =
    readable-of-sound s.args.store.now.records.now s.args.store.now.literals.now s.args.store.now.names.now s.args.store.now.terms
    s.args.store.now.symbols s.args.store.now.terms (sound s) (omega arith)

few : (s : Start) → s.args.store.now.terms ≤ length (replicate {A = ℕ} 1024 0)
few s = omega (arith, (sound s).term_limit, length-replicate {A = ℕ} 1024 0)

pub widths-requires : goal.widths-requires
widths-requires c =
    plain-tables c.args.store.now.records.now c.args.store.now.literals.now c.args.store.now.names.now (replicate 1024 0)
    c.args.store.now.names.now c.args.store.now.terms (readable (goal.at.widths-requires c).Start) (zeros-get 1024) (replicate 1024 0) (few (goal.at.widths-requires c).Start) (few (goal.at.widths-requires c).Start)

pub put_lines-requires : goal.put_lines-requires
put_lines-requires c =
    record {
      plain_sheet = record {
        readable = readable (goal.at.put_lines-requires c).Start;
        zeros = zeros-get 1024;
        in_places = few (goal.at.put_lines-requires c).Start;
        in_wides =
            omega (arith, few (goal.at.put_lines-requires c).Start, c.widths.auto.wides);
        widths = c.widths.ensures;
      };
      within = c.requires.within;
    }

pub returns : goal.returns
returns c =
    c.put_lines.ensures
    ∙ ap (λ (text : List ℕ). put_in (in_room (length c.args.out.now) (value text)) c.args.out.now)
    (text-is c.args.store.now.records.now c.args.store.now.literals.now c.args.store.now.names.now c.args.store.now.terms
    c.args.store.now.symbols c.args.costs.now c.args.found.now c.args.k c.args.passes
    c.requires.within.costs_long c.requires.within.terms_long)
