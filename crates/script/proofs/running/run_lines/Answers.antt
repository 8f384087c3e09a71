use Rattle.std.proofs.Common.{◌≡◌, ◌-◌, ◌^◌, arith}
use Rattle.script.proofs.Turning.{starts_running, running_stands, more_ran, none_ran, fails, runs_dry, dry_fails}
use Rattle.script.proofs.running.run_lines.Goals as goal

pub loop-number-init : goal.loop-number-init
loop-number-init g c = λ options begins.
    starts_running c.args.is_raw c.args.keeps_going options c.args.session.now (g.R.Read.remaining c.args.reader.now)
    (g.W.Write.contents c.args.writer.now) c.args.errors.now begins

pub returns-in-Ok-false : goal.returns-in-Ok-false
returns-in-Ok-false g c = λ options begins. none_ran c.args.is_raw c.args.keeps_going _ _ _ _ _ _ _ _ _ _ _ _ _ _
    (c.loop-number.invariant options begins) c.run_next.new.session c.in-Ok-false.field-0 c.in-Ok-false.field-0-test
    c.in-Ok-false.ensures

pub returns-in-Err : goal.returns-in-Err
returns-in-Err g c = λ options begins. fails c.args.is_raw c.args.keeps_going _ _ _ _ _ _ _ _ _ _ _ _
    c.run_next.new.skipped _
    (c.loop-number.invariant options begins) c.run_next.new.session c.in-Err.fault c.in-Err.ensures

pub loop-number-preserved : goal.loop-number-preserved
loop-number-preserved g c = λ options begins.
    more_ran c.args.is_raw c.args.keeps_going _ _ _ _ _ _ _ _ _ _ _ _ _ _ (c.loop-number.invariant options begins)
    c.run_next.new.session c.in-Ok-true.field-0 c.in-Ok-true.field-0-test c.in-Ok-true.ensures

pub returns-in-Ok : goal.returns-in-Ok
returns-in-Ok g c = λ options begins.
    let last : c.loop-number.number ≡ 2 ^ 64 - 1 = omega (
      arith,
      c.loop-number-test.false,
      c.loop-number.auto.number-end,
    ) in
    runs_dry c.args.is_raw c.args.keeps_going options c.loop-number.session _ _
    (g.R.Read.remaining c.no_more.new.reader) _ _ (g.W.Write.contents c.no_more.new.writer) _ _ _ c.loop-number.number
    last
    (c.loop-number.invariant options begins) c.in-Ok.field-0 c.in-Ok.ensures

pub returns : goal.returns
returns g c = λ options begins.
    let last : c.loop-number.number ≡ 2 ^ 64 - 1 = omega (
      arith,
      c.loop-number-test.false,
      c.loop-number.auto.number-end,
    ) in
    dry_fails c.args.is_raw c.args.keeps_going options c.loop-number.session _ _
    (g.R.Read.remaining c.no_more.new.reader) _ _ (g.W.Write.contents c.no_more.new.writer) _ _ _ c.loop-number.number
    last
    (c.loop-number.invariant options begins) c.in-Err-no_more.fault c.in-Err-no_more.ensures

pub run_next-requires-clause-stands : goal.run_next-requires-clause-stands
run_next-requires-clause-stands g c = λ κs out. running_stands c.args.is_raw _ _ _ _ _ _ _ _ _ _ _
    (c.loop-number.invariant c.requires.0 c.requires.1)
