use Rattle.entry.proofs.TextLemmas.{entries_in-text}
use Rattle.entry.proofs.laws.one_reading.Goals as goal

pub returns : goal.returns
returns c = entries_in-text
