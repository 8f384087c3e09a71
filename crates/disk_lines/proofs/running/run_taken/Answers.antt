use Rattle.std.proofs.Common.{subst}
use Rattle.lines.specs.Reading.{TakesLine}
use Rattle.lines.specs.declared.reading.Taken.{Taken}
use Rattle.disk_lines.proofs.Turning.{ended_fails, last_fails, turn_ends, turn_last, turn_more, turn_too_long}
use Rattle.disk_lines.proofs.running.run_taken.Goals as goal

pub returns-in-Ok : goal.returns-in-Ok
returns-in-Ok g c = λ had left line.
    turn_more c.args.is_raw c.args.store.now.master.knows c.run_text.new.store.master.knows c.args.number had left
    (g.W.Write.contents c.args.writer.now) (g.W.Write.contents c.run_text.new.writer) c.args.text.now
    (subst (λ (t : Taken). TakesLine c.args.is_raw had left c.args.text.now t) c.in-Ended.is line) c.in-Ok.ensures

pub returns-in-Err : goal.returns-in-Err
returns-in-Err g c = λ had left line.
    ended_fails c.args.is_raw c.args.store.now.master.knows c.run_text.new.store.master.knows c.args.number had left
    (g.W.Write.contents c.args.writer.now) (g.W.Write.contents c.run_text.new.writer) c.args.text.now c.in-Err.fault
    c.requires
    (subst (λ (t : Taken). TakesLine c.args.is_raw had left c.args.text.now t) c.in-Ended.is line) c.in-Err.ensures

pub returns-in-Ok-run_text : goal.returns-in-Ok-run_text
returns-in-Ok-run_text g c = λ had left line.
    turn_last c.args.is_raw c.args.store.now.master.knows c.run_text-in-Last.new.store.master.knows c.args.number had
    left (g.W.Write.contents c.args.writer.now) (g.W.Write.contents c.run_text-in-Last.new.writer) c.args.text.now
    (subst (λ (t : Taken). TakesLine c.args.is_raw had left c.args.text.now t) c.in-Last.is line)
    c.in-Ok-run_text.ensures

pub returns-in-Err-run_text : goal.returns-in-Err-run_text
returns-in-Err-run_text g c = λ had left line.
    last_fails c.args.is_raw c.args.store.now.master.knows c.run_text-in-Last.new.store.master.knows c.args.number had
    left (g.W.Write.contents c.args.writer.now) (g.W.Write.contents c.run_text-in-Last.new.writer) c.args.text.now
    c.in-Err-run_text.fault c.requires
    (subst (λ (t : Taken). TakesLine c.args.is_raw had left c.args.text.now t) c.in-Last.is line)
    c.in-Err-run_text.ensures

pub returns-in-Nothing : goal.returns-in-Nothing
returns-in-Nothing g c = λ had left line.
    turn_ends c.args.is_raw c.args.store.now.master.knows c.args.number had left (g.W.Write.contents c.args.writer.now)
    c.args.text.now (subst (λ (t : Taken). TakesLine c.args.is_raw had left c.args.text.now t) c.in-Nothing.is line)

pub returns-in-TooLong : goal.returns-in-TooLong
returns-in-TooLong g c = λ had left line.
    turn_too_long c.args.is_raw c.args.store.now.master.knows c.args.number had left
    (g.W.Write.contents c.args.writer.now) c.args.text.now
    (subst (λ (t : Taken). TakesLine c.args.is_raw had left c.args.text.now t) c.in-TooLong.is line)
