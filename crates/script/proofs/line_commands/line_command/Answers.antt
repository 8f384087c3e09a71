use Rattle.std.proofs.Common.{Some, ap, sym}
use Rattle.script.proofs.line_commands.line_command.Goals as goal

pub returns-in-Cas : goal.returns-in-Cas
returns-in-Cas c = rw c.in-Cas.is (ap Some (sym c.put_command-in-Cas.ensures))
