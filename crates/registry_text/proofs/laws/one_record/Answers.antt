use Rattle.registry_text.proofs.OneText.{are_read_back}
use Rattle.registry_text.proofs.laws.one_record.Goals as goal

pub returns : goal.returns
returns c = are_read_back
