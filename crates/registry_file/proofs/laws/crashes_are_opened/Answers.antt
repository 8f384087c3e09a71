use Rattle.registry_file.proofs.Opened.{crashes_opened}
use Rattle.registry_file.proofs.laws.crashes_are_opened.Goals as goal

pub returns : goal.returns
returns c = crashes_opened
