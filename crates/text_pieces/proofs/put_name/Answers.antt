-- `text_pieces::put_name` meets its contract: the stem, and the count after it. Assumes nothing.
use Prim.Native.Nat.{◌+◌}
use mathlib.Core.List.{◌++◌}
use Rattle.decimal.proofs.WrittenLaws.{stands-of-wrote, wrote-of-stands, stands-then, stands-fits}
use Rattle.text_rules.specs.LetText.{count_text}
use Rattle.text_pieces.proofs.PieceLaws.{name_text-is, name_text-length}
use native.Mathlib.Omega.{arith}
use Rattle.text_pieces.proofs.put_name.Goals as goal

pub put_bytes-p-requires : goal.put_bytes-p-requires
put_bytes-p-requires c =
    omega (
      arith,
      c.requires.k_in_bounds,
      name_text-length c.args.spelling.now.stem.now c.args.spelling.now.start
          c.args.spelling.now.bare c.args.k,
    )

pub put_count-requires : goal.put_count-requires
put_count-requires c =
    let a = c.args in
    stands-fits a.out.now a.spelling.now.stem.now _ _
    (stands-of-wrote a.out.now a.spelling.now.stem.now _ _ c.put_bytes-p.ensures)
    (count_text a.spelling.now.bare (a.spelling.now.start + a.k))
    (omega (
      arith,
      c.requires.k_in_bounds,
      name_text-length a.spelling.now.stem.now a.spelling.now.start
          a.spelling.now.bare a.k,
    ))

pub returns : goal.returns
returns c =
    let a = c.args in
    rw (name_text-is a.spelling.now.stem.now a.spelling.now.start a.spelling.now.bare a.k)
    (wrote-of-stands a.out.now (a.spelling.now.stem.now ++ count_text a.spelling.now.bare (a.spelling.now.start +
    a.k)) _ _
    (stands-then a.out.now a.spelling.now.stem.now _ _
    (stands-of-wrote a.out.now a.spelling.now.stem.now _ _
    c.put_bytes-p.ensures)
    (count_text a.spelling.now.bare (a.spelling.now.start + a.k)) c.put_count.new.out
    c.put_count.result
    c.put_count.ensures))
