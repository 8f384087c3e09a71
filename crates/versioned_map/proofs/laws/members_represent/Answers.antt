use Rattle.versioned_map.proofs.Represented.{same_members}
use Rattle.versioned_map.proofs.laws.members_represent.Goals as goal

pub returns : goal.returns
returns c = same_members
