-- `text::check_naming` meets its contract: the prefix, the hint, and the start count. Assumes nothing.
use mathlib.Core.Path.{sym, ◌∙◌}
use Rattle.text_whole.specs.LetPlaced.{naming}
use Rattle.text.proofs.LetToldLaws.{let-prefix-refuses, let-hint-refuses, let-start-refuses}
use Rattle.text.proofs.check_naming.Goals as goal

pub returns-then-not-is_prefix : goal.returns-then-not-is_prefix
returns-then-not-is_prefix c =
    let n = c.args.naming.now in
    record {
      lets = λ s bare t out h.
          let-prefix-refuses s (naming n.prefix.now n.hint.now n.start bare) t out h.formed h.known
          (sym c.is_prefix.ensures ∙ c.if-not-is_prefix.true);
    }

pub returns-then-not-is_valid : goal.returns-then-not-is_valid
returns-then-not-is_valid c =
    let n = c.args.naming.now in
    record {
      lets = λ s bare t out h.
          let-hint-refuses s (naming n.prefix.now n.hint.now n.start bare) t out h.formed h.known
          (sym c.is_prefix.ensures ∙ c.if-not-is_prefix.false) (sym c.is_valid.ensures ∙ c.if-not-is_valid.true);
    }

pub returns-then-naming-gt-LAST_START : goal.returns-then-naming-gt-LAST_START
returns-then-naming-gt-LAST_START c =
    let n = c.args.naming.now in
    record {
      lets = λ s bare t out h.
          let-start-refuses s (naming n.prefix.now n.hint.now n.start bare) t out h.formed h.known
          (sym c.is_prefix.ensures ∙ c.if-not-is_prefix.false) (sym c.is_valid.ensures ∙ c.if-not-is_valid.false)
          c.if-naming-gt-LAST_START.true;
    }

pub returns : goal.returns
returns c =
    record {
      prefix_valid = sym c.is_prefix.ensures ∙ c.if-not-is_prefix.false;
      hint_valid = sym c.is_valid.ensures ∙ c.if-not-is_valid.false;
      start_low = c.if-naming-gt-LAST_START.false;
    }
