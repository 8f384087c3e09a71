use Rattle.images.proofs.Callers.{append_keeps}
use Rattle.bytes_tests.proofs.seglets.fill.Goals as goal

pub loop-appended-preserved : goal.loop-appended-preserved
loop-appended-preserved c =
    (append_keeps c.loop-appended.images c.append.new.self c.args.id _ c.in-Ok.ensures.ok c.loop-appended.invariant).0
