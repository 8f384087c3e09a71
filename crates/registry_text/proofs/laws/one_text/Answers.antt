use Rattle.registry_text.proofs.OneText.{have_one_text}
use Rattle.registry_text.proofs.laws.one_text.Goals as goal

pub returns : goal.returns
returns c = have_one_text
