use Rattle.file_backup.proofs.Opened.{opened}
use Rattle.file_backup.proofs.laws.crashes_are_opened.Goals as goal

pub returns : goal.returns
returns c = opened
