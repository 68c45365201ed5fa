-- `text_whole::join` meets its contract: the prefix, and the hint after it. Assumes nothing.
use mathlib.Core.List.{◌++◌}
use Rattle.decimal.proofs.WrittenLaws.{stands-of-wrote, wrote-of-stands, stands-then}
use Rattle.text_whole.proofs.join.Goals as goal

pub returns : goal.returns
returns c =
    let a = c.args in
    let q = c.put_bytes in
    wrote-of-stands a.stem.now (a.prefix.now ++ a.hint.now) _ _
    (stands-then a.stem.now a.prefix.now _ _
    (stands-of-wrote a.stem.now a.prefix.now _ _ c.put_bytes-p.ensures) a.hint.now
    q.new.out q.result q.ensures)
