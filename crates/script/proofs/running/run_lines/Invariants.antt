use Rattle.command_line.specs.declared.settings.Options.{Options}
use Rattle.script.specs.Sessions.{BeginsSession}
use Rattle.script.proofs.Turning.{Running}
use Rattle.script.proofs.running.run_lines.Given as goal

abbrev pub invariant-loop-number : goal.invariant-loop-number
invariant-loop-number g l = (options : Options) → BeginsSession options l.fn.session →
    Running l.fn.is_raw l.fn.keeps_going options l.session (g.R.Read.remaining l.fn.reader)
    (g.R.Read.remaining l.reader)
    (g.W.Write.contents l.fn.writer) (g.W.Write.contents l.writer) l.fn.errors l.errors l.skipped l.number
