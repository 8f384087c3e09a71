use Rattle.op_text.proofs.OneText.{has_one_text}
use Rattle.op_text.proofs.laws.one_text.Goals as goal

pub returns : goal.returns
returns c = has_one_text
