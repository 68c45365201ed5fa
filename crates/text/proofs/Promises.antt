-- The promises of the crate `text` hold. Assumes nothing.
use mathlib.Core.Path.{◌∙◌}
use Rattle.text.specs.Promises.{Promises}
use Rattle.text_whole.proofs.PlacedLaws.{placed-fits, placed-refuses}
use Rattle.text.proofs.ToldLaws.{plain-store-refuses, plain-term-refuses, plain-placed}
use Rattle.text.proofs.LetToldLaws.{
  let-store-refuses,
  let-term-refuses,
  let-prefix-refuses,
  let-hint-refuses,
  let-start-refuses,
  let-placed,
}
use Rattle.text.proofs.TwinLaws.{
  plain-of-tree,
  let-of-tree,
  next-of-tree,
  plain-of-grown,
  let-of-grown,
  next-of-grown,
}
use Rattle.text.proofs.NextLaws.{next_low}
use Rattle.text.proofs.PromiseLaws.{
  plain-keeps,
  let-keeps,
  plain-literal,
  plain-variable,
  literal-positive,
  literal-negative,
  digits_value,
  digits-lead,
  plain-determined,
  let-determined,
}

pub promises : Promises
promises = record {
  plain_store = plain-store-refuses;
  plain_term = plain-term-refuses;
  plain_no_room = λ s t out h l. plain-placed s t out h.formed h.known ∙ placed-refuses _ _ _ out l;
  plain_written = λ s t out h l. plain-placed s t out h.formed h.known ∙ placed-fits _ _ _ out l;
  let_store = let-store-refuses;
  let_term = let-term-refuses;
  let_prefix = λ s nm t out h p. let-prefix-refuses s nm t out h.formed h.known p;
  let_hint = λ s nm t out h p n. let-hint-refuses s nm t out h.formed h.known p n;
  let_start = λ s nm t out h p n b. let-start-refuses s nm t out h.formed h.known p n b;
  let_no_room = λ s nm t out h n l.
      let-placed s nm t out h.formed h.known n.prefix n.hint n.start ∙ placed-refuses _ _ _ out l;
  let_written = λ s nm t out h n l.
      let-placed s nm t out h.formed h.known n.prefix n.hint n.start ∙ placed-fits _ _ _ out l;
  let_next = λ s nm t h l. next_low s nm t h.formed h.known l;
  plain_keeps = plain-keeps;
  let_keeps = let-keeps;
  plain_tree = λ s s' i j t h g m m'. plain-of-tree s s' i j t h.formed g.formed h.known g.known m m';
  let_tree = λ s s' i j t nm h g m m'. (
    let-of-tree s s' i j t h.formed g.formed h.known g.known m m' nm,
    next-of-tree s s' i j t h.formed g.formed h.known g.known m m' nm,
  );
  plain_grown = λ s s' i h g. plain-of-grown s s' h.formed g i h.known;
  let_grown = λ s s' i nm h g.
      (let-of-grown s s' h.formed g i h.known nm, next-of-grown s s' h.formed g i h.known nm);
  literal_positive = λ s t n e. plain-literal s t _ e ∙ literal-positive n;
  literal_negative = λ s t n e. plain-literal s t _ e ∙ literal-negative n;
  digits_exact = digits_value;
  digits_lead = digits-lead;
  variable_bare = plain-variable;
  plain_determined = plain-determined;
  let_determined = let-determined;
}
