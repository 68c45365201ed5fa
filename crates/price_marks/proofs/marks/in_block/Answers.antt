-- `price_marks::marks::in_block` meets its contract, by its four ways. Assumes nothing.
use Rattle.price_marks.proofs.NextLaws.{block-off, block-scanned, block-seen, block-cleared}
use Rattle.price_marks.proofs.marks.in_block.Goals as goal

pub returns-then-blocks-b-eq0 : goal.returns-then-blocks-b-eq0
returns-then-blocks-b-eq0 c =
    let a = c.args in
    block-off a.marks.now a.blocks.now a.from a.to c.requires.room c.requires.from_bound c.requires.to_value c.if-blocks-b-eq0.true

pub returns-then-j-to : goal.returns-then-j-to
returns-then-j-to c =
    let a = c.args in
    block-scanned a.marks.now a.blocks.now a.from a.to c.requires.room c.requires.from_bound c.requires.to_value
    c.scan-j.result c.scan-j.ensures

pub returns-then-b-from : goal.returns-then-b-from
returns-then-b-from c =
    let a = c.args in
    block-scanned a.marks.now a.blocks.now a.from a.to c.requires.room c.requires.from_bound c.requires.to_value a.to
    (block-seen a.marks.now a.blocks.now a.from a.to c.requires.room c.requires.from_bound c.requires.to_value c.scan-j.result c.scan-j.ensures c.if-j-to.false)

pub returns : goal.returns
returns c =
    let a = c.args in
    block-cleared a.marks.now a.blocks.now a.from a.to c.requires.room c.requires.from_bound c.requires.to_value c.if-b-from.false
    (block-seen a.marks.now a.blocks.now a.from a.to c.requires.room c.requires.from_bound c.requires.to_value c.scan-j.result c.scan-j.ensures c.if-j-to.false)
