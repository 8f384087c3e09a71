use Rattle.std.proofs.Common.{true, refl, subst, sym}
use Rattle.next_master.specs.answers.Errors.{Writes}
use Rattle.next_master.specs.answers.Texts.{fault_lines}
use Rattle.next_master.specs.answers.declared.fault.ScriptFault.{ScriptFault}
use Rattle.script.specs.Turns.{ReportsBadLine}
use Rattle.script.proofs.printing.report_bad_line.Goals as goal

pub returns-in-BadLine : goal.returns-in-BadLine
returns-in-BadLine g c =
    let before = c.args.errors.now in
    let after = c.report.new.errors in
    subst (λ (f : ScriptFault). ReportsBadLine f before after true) (sym c.in-BadLine.is) (
      refl,
      subst (λ (f : ScriptFault). Writes before after (fault_lines before.explains f)) c.in-BadLine.is
          c.report.ensures.lines,
    )
