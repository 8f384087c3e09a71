use Rattle.std.proofs.Common.{refl}
use Rattle.std.proofs.lemmas.Result.{IfOk-weaker}
use Rattle.clap.specs.declared.builder.command.Command.TheViews.{out-Command}
use Rattle.command_line.specs.CommandLine.{numbered}
use Rattle.command_line.proofs.Ramlog.{flagged, grown, growing, opening, texts_given}
use Rattle.command_line.proofs.reading.command.Goals as goal

pub loop-option-init : goal.loop-option-init
unfolding numbered
loop-option-init c =
    let new = c.new.ensures in
    let same =
    texts_given (out-Command c.new.result) _ _ _ _ (record { about = _; after_help = _; usage = _; version = _ })
    c.about.ensures c.after_help.ensures c.override_usage.ensures c.version-command.ensures in
    opening _ _ _ _ new.app (new.empty.0, new.empty.1) new.local same refl

pub loop-option-preserved : goal.loop-option-preserved
loop-option-preserved c =
    growing _ _ _ _ _ _ c.loop-option.invariant c.loop-option-test.true c.in_ok-command.ensures
    c.argument.ensures.rule c.argument.ensures.plain c.argument.ensures.local

pub returns : goal.returns
returns c = IfOk-weaker _ _ _ (λ command added. flagged _ command _
    (grown _ _ _ c.loop-option.invariant c.loop-option-test.false) added c.argument-2.ensures.rule
    c.argument-2.ensures.plain c.argument-2.ensures.local) c.arg-2.ensures
