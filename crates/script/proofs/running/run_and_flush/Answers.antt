use Rattle.script.proofs.Turning.{flushes, fails_to_flush}
use Rattle.script.proofs.running.run_and_flush.Goals as goal

pub returns-in-Ok : goal.returns-in-Ok
returns-in-Ok g c = λ options begins.
    fails_to_flush c.args.is_raw c.args.keeps_going options _ _ _ _
    (g.W.Write.contents c.flush-flushed.new.self) _ _ c.flush-flushed.ensures.bytes c.in-Ok.field-0
    (c.in-Ok.ensures options begins)

pub returns-in_default : goal.returns-in_default
returns-in_default g c = λ options begins.
    flushes c.args.is_raw c.args.keeps_going options _ _ _ _
    (g.W.Write.contents c.flush-flushed.new.self) _ _ c.flush-flushed.ensures.bytes c.run_lines-ran.result
    (c.run_lines-ran.ensures options begins)

pub returns-in_default-2 : goal.returns-in_default-2
returns-in_default-2 g c = λ options begins.
    flushes c.args.is_raw c.args.keeps_going options _ _ _ _
    (g.W.Write.contents c.flush-flushed.new.self) _ _ c.flush-flushed.ensures.bytes c.run_lines-ran.result
    (c.run_lines-ran.ensures options begins)
