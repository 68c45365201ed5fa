-- `text_whole::put_bound` meets its contract: the inline lengths, the length, then the bytes. Assumes nothing.
use Prim.Native.Nat.{ℕ, ◌+◌, ◌-◌, ◌≤◌}
use mathlib.Core.Path.{◌≡◌, sym, ap, ◌∙◌}
use mathlib.Core.List.{List, ◌++◌}
use mathlib.Core.Bool.{Bool}
use lib.IntN.{ℤ}
use lib.ListN.{length, drop}
use Rattle.term_rules.specs.Nodes.{Node}
use Rattle.text_rules.specs.LetText.{bindings_of, let_layout}
use Rattle.text_pieces.specs.Readable.{nodes}
use Rattle.text_write.specs.Piece.{view, Sheet}
use Rattle.text_write.specs.Widths.{called_by, Widths, Tables}
use Rattle.text_counts.specs.Met.{AllMet}
use Rattle.text_lines.specs.Lines.{Bundle}
use Rattle.text_lines.specs.Whole.{whole_text}
use Rattle.text_whole.specs.Placed.{told}
use Rattle.text_whole.specs.LetPlaced.{written, refusal, naming, Layable}
use Rattle.text_whole.proofs.PlacedLaws.{placed-fits, placed-refuses}
use Rattle.text_whole.proofs.LaidLaws.{laid-tables, laid-bundle, laid_next, laid-sheet, laid-text}
use native.Mathlib.Omega.{arith}
use Rattle.text_whole.proofs.put_bound.Goals as goal

module _
    {rs : List ℕ}
    {ls : List ℤ}
    {ns stem : List ℕ}
    {n start : ℕ}
    (l : Layable rs ls ns stem n start)
    {ps ts is : List ℕ}
    {m : ℕ}
    (met : AllMet rs ps ts is n m)
    (low : n ≤ length ps)
    (few : length ts ≤ 1024)
    (bare : Bool)
  where
    abbrev node : ℕ → Node
    node = nodes rs ls ns

    abbrev whole : List ℕ → List ℕ
    whole ws = whole_text (view rs ls ns ps ws stem start bare 80) rs ws ts is n m

    abbrev text : List ℕ → List ℕ → List ℕ
    text prefix hint = let_layout node (naming prefix hint start bare) (n - 1)

    abbrev next : ℕ
    next = start + length (bindings_of node (n - 1))

    bundle : Bundle ts is n m start
    bundle = laid-bundle rs ls ns stem ps ts is n start m l met low few

    tables : (ws : List ℕ) → n ≤ length ws → Tables rs ls ns ps ws n start
    tables ws k = laid-tables rs ls ns stem ps ts is n start m l met low few ws k

    count : start + m ≡ next
    count = laid_next rs ls ns stem ps ts is n start m l met low few

    -- what the table of inline lengths tells, whatever list it is now
    module _ (ws : List ℕ) (w : Widths node (called_by ps stem start bare) ws n) where
      sheet : n ≤ length ws → Sheet rs ls ns ps ws n start
      sheet k = laid-sheet rs ls ns stem ps ts is n start m l met low few bare ws w k

      right : (prefix hint : List ℕ) → prefix ++ hint ≡ stem → whole ws ≡ text prefix hint
      right prefix hint e =
          laid-text rs ls ns stem ps ts is n start m l met low few bare ws w prefix hint e

pub widths-requires : goal.widths-requires
widths-requires c = tables c.requires.layable c.requires.all_met c.requires.n_in_bounds.0 c.requires.n_in_bounds.2
    c.args.spelling.now.bare c.args.wides.now c.requires.n_in_bounds.1

pub invariant_of-page : goal.invariant_of-page
invariant_of-page c =
    record {
      sheet = sheet c.requires.layable c.requires.all_met c.requires.n_in_bounds.0 c.requires.n_in_bounds.2
          c.args.spelling.now.bare c.widths.new.wides c.widths.ensures
          (omega (arith, c.widths.auto.wides, c.requires.n_in_bounds.1));
    }

pub let_length-long-requires : goal.let_length-long-requires
let_length-long-requires c =
    record {
      n_nonzero = c.requires.layable.some;
      bundle = bundle c.requires.layable c.requires.all_met c.requires.n_in_bounds.0 c.requires.n_in_bounds.2
          c.args.spelling.now.bare;
    }

pub returns-then-out-long : goal.returns-then-out-long
returns-then-out-long c =
    let as-text = text c.requires.layable c.requires.all_met c.requires.n_in_bounds.0 c.requires.n_in_bounds.2
    c.args.spelling.now.bare in
    let after = next c.requires.layable c.requires.all_met c.requires.n_in_bounds.0 c.requires.n_in_bounds.2
    c.args.spelling.now.bare in
    record {
      right = λ prefix hint e.
          sym
          (placed-refuses (as-text prefix hint) (written (length (as-text prefix hint)) after) (refusal 13)
          c.args.out.now
          (omega (
            arith,
            c.if-out-long.true,
            c.let_length-long.ensures,
            ap length (right c.requires.layable c.requires.all_met c.requires.n_in_bounds.0 c.requires.n_in_bounds.2
                c.args.spelling.now.bare c.widths.new.wides c.widths.ensures prefix hint e),
          )));
    }

pub put_let-length-requires : goal.put_let-length-requires
put_let-length-requires c =
    record {
      n_nonzero = c.requires.layable.some;
      bundle = bundle c.requires.layable c.requires.all_met c.requires.n_in_bounds.0 c.requires.n_in_bounds.2
          c.args.spelling.now.bare;
      m_in_bounds = omega (arith, c.if-out-long.false, c.let_length-long.ensures);
    }

pub overflow_add-next : goal.overflow_add-next
overflow_add-next c =
    omega (arith, c.requires.layable.low, c.requires.all_met.met.free, c.requires.n_in_bounds.2)

pub returns : goal.returns
returns c =
    let as-text = text c.requires.layable c.requires.all_met c.requires.n_in_bounds.0 c.requires.n_in_bounds.2
    c.args.spelling.now.bare in
    let after = next c.requires.layable c.requires.all_met c.requires.n_in_bounds.0 c.requires.n_in_bounds.2
    c.args.spelling.now.bare in
    let w = c.put_let-length.ensures in
    let fits : length (whole c.requires.layable c.requires.all_met c.requires.n_in_bounds.0 c.requires.n_in_bounds.2
    c.args.spelling.now.bare c.widths.new.wides) ≤ length c.args.out.now =
    omega (arith, c.if-out-long.false, c.let_length-long.ensures) in
    record {
      right = λ prefix hint e.
          let q = right c.requires.layable c.requires.all_met c.requires.n_in_bounds.0 c.requires.n_in_bounds.2
          c.args.spelling.now.bare c.widths.new.wides c.widths.ensures prefix hint e in
          ap (λ (n : ℕ). told (written n (c.args.spelling.now.start + c.args.bindings.now.count))
          c.put_let-length.new.out)
          (w.long ∙ ap length q)
          ∙ (ap (λ (n : ℕ). told (written (length (as-text prefix hint)) n) c.put_let-length.new.out)
          (count c.requires.layable c.requires.all_met c.requires.n_in_bounds.0 c.requires.n_in_bounds.2
          c.args.spelling.now.bare)
          ∙ (ap (λ (o : List ℕ). told (written (length (as-text prefix hint)) after) o)
          (w.bytes ∙ ap (λ (x : List ℕ). x ++ drop (length x) c.args.out.now) q)
          ∙ sym
          (placed-fits (as-text prefix hint) (written (length (as-text prefix hint)) after) (refusal 13)
          c.args.out.now (omega (arith, fits, ap length q)))));
    }
