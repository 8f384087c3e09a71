use Rattle.entry.specs.Meaning.{among}
use Rattle.versioned_map.proofs.Meanings.{by_membership, from_membership}
use Rattle.versioned_map.proofs.laws.meaning_by_members.Goals as goal

pub returns : goal.returns
returns c = record { is_meaning = λ bag. from_membership (among bag); of_lists = by_membership }
