-- `variant_lines::one_length` meets its contract: the line, the plain text and the newline. Assumes nothing.
use lib.ListN.{get_or}
use Rattle.text_pieces.specs.Readable.{nodes}
use Rattle.program_rules.proofs.headlines.LineLaws.{digits-few, variant-length}
use Rattle.program.proofs.variant_lines.ReplyLaws.{reply-measured}
use Rattle.program.proofs.variant_lines.SheetLaws.{wide_is}
use native.Mathlib.Omega.{arith}
use Rattle.program.proofs.variant_lines.one_length.Goals as goal

pub overflow_add-head : goal.overflow_add-head
overflow_add-head c =
    omega (
      arith,
      c.variant_length-head.ensures,
      variant-length
          c.args.i
          c.args.c
          c.args.n,
      digits-few
          c.args.i
          (omega (arith)),
      digits-few
          c.args.c
          (omega (arith)),
      digits-few
          c.args.n
          (omega (arith)),
    )

pub returns : goal.returns
returns c =
    reply-measured (nodes c.args.records.now c.args.literals.now c.args.names.now) c.args.n
    c.args.i c.args.c c.args.t (get_or c.args.wides.now c.args.t 0)
    c.variant_length-head.result c.add.result (wide_is c.args.records.now
    c.args.literals.now c.args.names.now c.args.places.now c.args.wides.now c.args.n
    c.requires.plain_sheet c.args.t c.requires.t_lt_n) c.variant_length-head.ensures c.add.ensures
