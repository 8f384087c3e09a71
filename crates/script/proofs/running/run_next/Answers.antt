use Rattle.std.proofs.Common.{inl, inr, [], arith, refl, sym}
use Rattle.lines.specs.declared.reading.ReadFault.TheVariants.{ReadFailed, WriteFailed, NoMemory}
use Rattle.lines.specs.declared.reading.Taken.TheVariants.{Ended, Last, Nothing, TooLong}
use Rattle.script.proofs.Turning.{stopped_as, taken_as, turn_fails, turn_last, turn_more}
use Rattle.script.proofs.running.run_next.Goals as goal

pub returns-in-Ok : goal.returns-in-Ok
returns-in-Ok g c =
    let taken = taken_as c.args.is_raw _ _ _ _ _ Ended c.in-Ok-Ended.field-0-is (sym c.text.ensures)
    c.in-Ok-Ended.ensures.taken in
    turn_more c.args.is_raw c.args.keeps_going c.args.session.now c.run_or_skip.new.session c.args.number
    (g.R.Read.remaining c.args.reader.now) (g.R.Read.remaining c.next_line.new.reader)
    (g.W.Write.contents c.args.writer.now) (g.W.Write.contents c.next_line.new.writer)
    (g.W.Write.contents c.run_or_skip.new.writer) c.args.errors.now c.run_or_skip.new.errors c.args.skipped.now
    c.run_or_skip.new.skipped c.next_line.ensures.flushed c.text.result.now taken.0 c.in-Ok.ensures

pub returns-in-Err : goal.returns-in-Err
returns-in-Err g c =
    let taken = taken_as c.args.is_raw _ _ _ _ _ Ended c.in-Ok-Ended.field-0-is (sym c.text.ensures)
    c.in-Ok-Ended.ensures.taken in
    turn_fails c.args.is_raw c.args.keeps_going c.args.session.now c.run_or_skip.new.session c.args.number
    (g.R.Read.remaining c.args.reader.now) (g.R.Read.remaining c.next_line.new.reader)
    (g.W.Write.contents c.args.writer.now) (g.W.Write.contents c.next_line.new.writer)
    (g.W.Write.contents c.run_or_skip.new.writer) c.args.errors.now c.run_or_skip.new.errors c.args.skipped.now
    c.run_or_skip.new.skipped c.next_line.ensures.flushed c.text.result.now c.in-Err.fault _ taken.1 taken.0 (inl refl)
    c.in-Err.ensures

pub returns-in-Ok-run_or_skip : goal.returns-in-Ok-run_or_skip
returns-in-Ok-run_or_skip g c =
    let taken = taken_as c.args.is_raw _ _ _ _ _ Last c.in-Ok-Last.field-0-is
    (sym c.text-in-Ok-Last.ensures) c.in-Ok-Last.ensures.taken in
    turn_last c.args.is_raw c.args.keeps_going c.args.session.now c.run_or_skip-in-Ok-Last.new.session c.args.number
    (g.R.Read.remaining c.args.reader.now) (g.R.Read.remaining c.next_line.new.reader)
    (g.W.Write.contents c.args.writer.now) (g.W.Write.contents c.next_line.new.writer)
    (g.W.Write.contents c.run_or_skip-in-Ok-Last.new.writer) c.args.errors.now c.run_or_skip-in-Ok-Last.new.errors
    c.args.skipped.now c.run_or_skip-in-Ok-Last.new.skipped c.next_line.ensures.flushed c.text-in-Ok-Last.result.now
    taken.0 taken.1 taken.2 c.in-Ok-run_or_skip.ensures

pub returns-in-Err-run_or_skip : goal.returns-in-Err-run_or_skip
returns-in-Err-run_or_skip g c =
    let taken = taken_as c.args.is_raw _ _ _ _ _ Last c.in-Ok-Last.field-0-is
    (sym c.text-in-Ok-Last.ensures) c.in-Ok-Last.ensures.taken in
    turn_fails c.args.is_raw c.args.keeps_going c.args.session.now c.run_or_skip-in-Ok-Last.new.session c.args.number
    (g.R.Read.remaining c.args.reader.now) (g.R.Read.remaining c.next_line.new.reader)
    (g.W.Write.contents c.args.writer.now) (g.W.Write.contents c.next_line.new.writer)
    (g.W.Write.contents c.run_or_skip-in-Ok-Last.new.writer) c.args.errors.now c.run_or_skip-in-Ok-Last.new.errors
    c.args.skipped.now c.run_or_skip-in-Ok-Last.new.skipped c.next_line.ensures.flushed c.text-in-Ok-Last.result.now
    c.in-Err-run_or_skip.fault _ taken.3 taken.0 (inr (refl, taken.2, taken.1)) c.in-Err-run_or_skip.ensures

pub returns-in-Ok-Nothing : goal.returns-in-Ok-Nothing
returns-in-Ok-Nothing g c =
    let there = taken_as c.args.is_raw _ _ _ _ _ Nothing c.in-Ok-Nothing.field-0-is refl c.in-Ok-Nothing.ensures.taken
    in
    inr (there.0, there.1, c.next_line.ensures.flushed, refl, refl)

pub returns-in-Ok-TooLong : goal.returns-in-Ok-TooLong
returns-in-Ok-TooLong g c =
    let there = taken_as c.args.is_raw _ _ _ _ _ TooLong c.in-Ok-TooLong.field-0-is refl c.in-Ok-TooLong.ensures.taken
    in (
      (
        refl,
        c.next_line.new.self,
        there.0,
        inl (there.1, there.2),
        c.next_line.ensures.flushed,
        inr (inl (refl, there.2)),
      ),
      refl,
      λ on. inl refl,
    )

pub returns-in-Err-ReadFailed : goal.returns-in-Err-ReadFailed
returns-in-Err-ReadFailed g c =
    let there = stopped_as c.args.is_raw _ _ _ _ ReadFailed c.in-Err-ReadFailed.field-0-is
    c.in-Err-ReadFailed.ensures.fault in
    ((c.next_line.new.self, there.0, there.1, c.next_line.ensures.flushed), refl, λ on. tt)

pub returns-in-Err-WriteFailed : goal.returns-in-Err-WriteFailed
returns-in-Err-WriteFailed g c =
    let there = stopped_as c.args.is_raw _ _ _ _ WriteFailed c.in-Err-WriteFailed.field-0-is
    c.in-Err-WriteFailed.ensures.fault in
    (inr (c.next_line.new.self, there.0, there.1, c.next_line.ensures.flushed), refl, λ on. tt)

pub returns-in-Err-NoMemory : goal.returns-in-Err-NoMemory
returns-in-Err-NoMemory g c =
    let there = stopped_as c.args.is_raw _ _ _ _ NoMemory c.in-Err-NoMemory.field-0-is c.in-Err-NoMemory.ensures.fault
    in
    (([], there.0, omega arith, c.next_line.ensures.flushed), refl, λ on. tt)
