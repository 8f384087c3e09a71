use Rattle.log_laws.proofs.LoadedObjects.{loaded_is_represented}
use Rattle.log_laws.proofs.laws.load_stands.Goals as goal

pub returns : goal.returns
returns c = loaded_is_represented
