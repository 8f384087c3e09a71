use Rattle.std.proofs.Common.{[], inr, refl}
use Rattle.std.proofs.KnownBytes.{Keeps-refl}
use Rattle.lines.specs.Grammar.{shown_line}
use Rattle.std.proofs.Common.{◌∷◌, ◌++◌}
use Rattle.std.specs.Prelude.{codes}
use Rattle.disk_lines.proofs.Others.{for_memory}
use Rattle.disk_lines.proofs.Turning.{text_written}
use Rattle.disk_lines.proofs.running.run_text.Goals as goal

pub returns-in-Err : goal.returns-in-Err
returns-in-Err g c =
    (refl, (λ line says. c.in-Err.ensures.complete refl line says, c.in-Err.ensures.reason), Keeps-refl _, refl)

pub returns-in_default : goal.returns-in_default
returns-in_default g c =
    text_written c.args.is_raw _ _ c.args.text.now c.args.number _ _ (shown_line c.in-Ok.line)
    (codes "refused NotOnDisk" ++ 10 ∷ []) c.write_bytes.result c.in-Ok.ensures.sound
    (inr (inr (inr (
      for_memory c.in-Ok.line c.in_default.not-Idle (λ d is. c.in_default.not-Command d is)
          (λ t is. c.in_default.not-List t is),
      refl,
      refl,
    )))) c.write_bytes.ensures
