use Rattle.disk_lines.proofs.Past.{fail_lines, flush_lines}
use Rattle.disk_lines.proofs.skipping.run_lines.Goals as goal

pub returns-in-Ok : goal.returns-in-Ok
returns-in-Ok g c =
    fail_lines c.args.is_raw c.args.keeps_going _ _ _ _ _ _ (g.W.Write.contents c.flush-flushed.new.self)
    c.flush-flushed.ensures.bytes _ _ c.in-Ok.field-0 c.in-Ok.ensures

pub returns-in_default : goal.returns-in_default
returns-in_default g c =
    flush_lines c.args.is_raw c.args.keeps_going _ _ _ _ _ _ (g.W.Write.contents c.flush-flushed.new.self)
    c.flush-flushed.ensures.bytes _ _ c.run_past-ran.result c.run_past-ran.ensures

pub returns-in_default-2 : goal.returns-in_default-2
returns-in_default-2 g c =
    flush_lines c.args.is_raw c.args.keeps_going _ _ _ _ _ _ (g.W.Write.contents c.flush-flushed.new.self)
    c.flush-flushed.ensures.bytes _ _ c.run_past-ran.result c.run_past-ran.ensures
