use Rattle.compactor.proofs.FollowLaw.{follows}
use Rattle.compactor.proofs.laws.index_follows.Goals as goal

pub returns : goal.returns
returns c = λ ids held images segment valid lie all. follows ids held images segment valid lie all
