use Rattle.std.proofs.Common.{◌+◌, refl, subst, sym}
use Rattle.std.specs.Prelude.{Some}
use Rattle.answers.specs.Errors.{Writes}
use Rattle.answers.specs.Texts.{fault_lines}
use Rattle.answers.specs.declared.fault.ScriptFault.{ScriptFault}
use Rattle.disk_lines.specs.Skips.{Skips}
use Rattle.disk_lines.proofs.skipping.skip.Goals as goal

pub returns-else-not-has_next : goal.returns-else-not-has_next
returns-else-not-has_next g c =
    let before = c.args.errors.now in
    let after = c.report.new.errors in
    subst (λ (f : ScriptFault). Skips c.args.keeps_going f before after (Some (c.in-BadLine.number + 1)))
    (sym c.in-BadLine.is) (
      c.if-not-keeps_going.false,
      (c.has_next.ensures.yes c.if-not-has_next.false).0,
      (c.has_next.ensures.yes c.if-not-has_next.false).1,
      refl,
      subst (λ (f : ScriptFault). Writes before after (fault_lines before.explains f)) c.in-BadLine.is
          c.report.ensures.lines,
    )
