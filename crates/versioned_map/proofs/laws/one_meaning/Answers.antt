use Rattle.entry.specs.Meaning.{among}
use Rattle.versioned_map.proofs.Meanings.{one_contents}
use Rattle.versioned_map.proofs.laws.one_meaning.Goals as goal

pub returns : goal.returns
returns c = λ bag. one_contents (among bag)
