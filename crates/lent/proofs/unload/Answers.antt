-- `lent::unload` meets its contract: each record is put where the flat arrays have it. Assumes nothing.
use Rattle.std.proofs.Common.{◌≡◌, set, ◌∙◌, arith}
use Rattle.term_rules.specs.Lent.{record_in}
use Rattle.lent.proofs.CopyLaws.{put_to, put_to-none, put_to-more}
use Rattle.lent.proofs.unload.Goals as goal

pub loop-i-init : goal.loop-i-init
loop-i-init c = put_to-none c.args.ts.now c.args.f.now.records c.args.f.now.literals

pub loop-i-preserved : goal.loop-i-preserved
loop-i-preserved c =
    let put : c.put_at.new.ts
    ≡ set (put_to c.args.ts.now c.args.f.now.records c.args.f.now.literals c.loop-i.i) c.loop-i.i
    (record_in c.args.f.now.records c.args.f.now.literals c.loop-i.i)
    = cc in
    put ∙ put_to-more c.args.ts.now c.args.f.now.records c.args.f.now.literals c.loop-i.i (omega arith)
