use Rattle.std.proofs.Common.{Bool, refl, subst}
use Rattle.script.specs.Turns.{ReportsBadLine}
use Rattle.script.proofs.Skipping.{command_taken, fault_taken, other_taken, skip_taken}
use Rattle.script.proofs.running.run_or_skip.Goals as goal

pub returns-in-Ok-true : goal.returns-in-Ok-true
returns-in-Ok-true g c =
    command_taken c.args.keeps_going c.args.is_raw c.args.session.now c.run_text.new.session c.args.text.now
    c.args.number (g.W.Write.contents c.args.writer.now) (g.W.Write.contents c.run_text.new.writer) c.args.errors.now
    c.report_unsure.new.errors c.args.skipped.now c.made-made.result c.made-made.ensures c.requires.text
    c.in-Ok-true.field-0 c.in-Ok-true.field-0-test c.in-Ok-true.ensures c.report_unsure.ensures

pub returns-in-Ok-false : goal.returns-in-Ok-false
returns-in-Ok-false g c =
    other_taken c.args.keeps_going c.args.is_raw c.args.session.now c.run_text.new.session c.args.text.now c.args.number
    (g.W.Write.contents c.args.writer.now) (g.W.Write.contents c.run_text.new.writer) c.args.errors.now
    c.args.errors.now c.args.skipped.now c.requires.text c.in-Ok-false.field-0
    c.in-Ok-false.field-0-test c.in-Ok-false.ensures refl

pub returns-then-not-keeps_going : goal.returns-then-not-keeps_going
returns-then-not-keeps_going g c = (c.in-Err.ensures, refl, λ on. let off = c.if-not-keeps_going.true in absurd (cc))

pub returns-then-not-report_bad_line : goal.returns-then-not-report_bad_line
returns-then-not-report_bad_line g c =
    fault_taken c.args.keeps_going c.args.is_raw c.args.session.now c.run_text.new.session c.args.text.now c.args.number
    (g.W.Write.contents c.args.writer.now) (g.W.Write.contents c.run_text.new.writer) c.args.errors.now
    c.report_bad_line.new.errors c.args.skipped.now c.in-Err.fault c.in-Err.ensures
    (subst (λ (b : Bool). ReportsBadLine c.in-Err.fault c.args.errors.now c.report_bad_line.new.errors b)
    c.if-not-report_bad_line.true c.report_bad_line.ensures)

pub returns-else-not-report_bad_line : goal.returns-else-not-report_bad_line
returns-else-not-report_bad_line g c =
    skip_taken c.args.keeps_going c.args.is_raw c.args.session.now c.run_text.new.session c.args.text.now c.args.number
    (g.W.Write.contents c.args.writer.now) (g.W.Write.contents c.run_text.new.writer) c.args.errors.now
    c.report_bad_line.new.errors c.args.skipped.now c.in-Err.fault c.if-not-keeps_going.false c.requires.text
    c.in-Err.ensures
    (subst (λ (b : Bool). ReportsBadLine c.in-Err.fault c.args.errors.now c.report_bad_line.new.errors b)
    c.if-not-report_bad_line.false c.report_bad_line.ensures)
