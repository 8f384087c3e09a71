use Rattle.log_laws.proofs.Images.{between_stands}
use Rattle.log_laws.proofs.laws.images_stand.Goals as goal

pub returns : goal.returns
returns c = between_stands
