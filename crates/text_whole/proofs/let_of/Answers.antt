-- `text_whole::let_of` meets its contract: the stem, and then the text. Assumes nothing.
use Prim.Native.Nat.{ℕ, ◌+◌, ◌≤◌}
use mathlib.Core.Path.{◌≡◌, sym, ap, ◌∙◌}
use mathlib.Core.Bool.{true, false}
use mathlib.Core.List.{List, ◌++◌}
use lib.ListN.{length, take, length-append, length-replicate}
use Rattle.decimal.specs.Written.{Wrote}
use Rattle.name.specs.Name.{valid}
use Rattle.term.proofs.Promises.{promises as store-promises}
use Rattle.text_rules.specs.LetText.{several}
use Rattle.text_pieces.proofs.heads.ReadableLaws.{readable-of-sound}
use Rattle.text_whole.specs.LetPlaced.{naming, valid_prefix}
use Rattle.text_whole.proofs.LetPlacedLaws.{stem-long, stem-clean, stem-is, layable-of-sound, let-text-last}
use native.Mathlib.Omega.{arith}
use Rattle.term_layout.specs.Sound.{store_of}
use Rattle.text_whole.proofs.let_of.Goals as goal

module _ (prefix hint : List ℕ) (p : valid_prefix prefix ≡ true) (q : valid hint ≡ true) where
  abbrev stem : List ℕ
  stem = prefix ++ hint

  fits : length prefix + length hint ≤ 62
  fits = stem-long prefix hint p q

  fits_all : length stem ≤ 62
  fits_all = omega (arith, fits, length-append prefix hint)

  -- what the stem's array holds then, whatever it held
  module _ (o o' : List ℕ) (r : ℕ) (w : Wrote stem r o o') where
    is : take r o' ≡ stem
    is = stem-is stem o o' r w

    clean : several (take r o') ≡ false
    clean = ap several is ∙ stem-clean prefix hint p q

pub join-e-requires : goal.join-e-requires
join-e-requires c = fits c.args.naming.now.prefix.now c.args.naming.now.hint.now c.requires.prefix_value.0
    c.requires.prefix_value.1

pub slice_bounds-stem-end : goal.slice_bounds-stem-end
slice_bounds-stem-end c =
    let j = c.join-e in
    omega (
      arith,
      j.ensures.long,
      j.auto.stem,
      fits_all c.args.naming.now.prefix.now c.args.naming.now.hint.now
          c.requires.prefix_value.0 c.requires.prefix_value.1,
      length-replicate {A = ℕ} 62 0,
    )

pub slice_bounds-spelling-end : goal.slice_bounds-spelling-end
slice_bounds-spelling-end c =
    let j = c.join-e in
    j.ensures.long ∙ ap length (sym (is c.args.naming.now.prefix.now c.args.naming.now.hint.now
    c.requires.prefix_value.0 c.requires.prefix_value.1 _ j.new.stem j.result j.ensures))

pub invariant_of-nodes : goal.invariant_of-nodes
invariant_of-nodes c =
    record {
      readable = readable-of-sound c.args.store.now.records.now c.args.store.now.literals.now
          c.args.store.now.names.now c.args.store.now.terms
          c.args.store.now.symbols (c.args.term + 1) (store-promises.facts (store_of c.args.store.now)
          c.args.store.now.sound) (omega (arith, c.requires.term_lt_terms));
    }

pub put_let-requires : goal.put_let-requires
put_let-requires c =
    let j = c.join-e in
    layable-of-sound c.args.store.now.records.now c.args.store.now.literals.now c.args.store.now.names.now
    c.args.store.now.terms
    c.args.store.now.symbols (store-promises.facts (store_of c.args.store.now) c.args.store.now.sound) (take
    j.result j.new.stem) c.args.term
    c.args.naming.now.start c.requires.term_lt_terms (clean c.args.naming.now.prefix.now c.args.naming.now.hint.now
    c.requires.prefix_value.0 c.requires.prefix_value.1 _ j.new.stem j.result j.ensures) c.requires.start_bound

pub returns : goal.returns
returns c =
    let j = c.join-e in
    c.put_let.ensures.right c.args.naming.now.prefix.now c.args.naming.now.hint.now
    (sym (is c.args.naming.now.prefix.now c.args.naming.now.hint.now c.requires.prefix_value.0
    c.requires.prefix_value.1 _ j.new.stem j.result j.ensures))
    ∙ let-text-last c.args.store.now.records.now c.args.store.now.literals.now c.args.store.now.names.now
    c.args.store.now.terms
    c.args.store.now.symbols (naming c.args.naming.now.prefix.now c.args.naming.now.hint.now c.args.naming.now.start
    c.args.naming.now.bare) c.args.term c.args.out.now

pub overflow_add-nodes : goal.overflow_add-nodes
overflow_add-nodes c =
    let w = store-promises.facts (store_of c.args.store.now) c.args.store.now.sound in
    record { fits = omega (arith, w.term_limit, c.requires.term_lt_terms) }
