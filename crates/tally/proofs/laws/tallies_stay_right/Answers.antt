use Rattle.tally.proofs.Rights.{stay_right, leave_right, begin_right, create_is_right, replace_is_right}
use Rattle.tally.proofs.Rights.{carry_is_right, compact_is_right}
use Rattle.tally.proofs.laws.tallies_stay_right.Goals as goal

pub returns-clause-stay : goal.returns-clause-stay
returns-clause-stay c = stay_right

pub returns-clause-leave : goal.returns-clause-leave
returns-clause-leave c = leave_right

pub returns-clause-begin : goal.returns-clause-begin
returns-clause-begin c = begin_right

pub returns-clause-create : goal.returns-clause-create
returns-clause-create c = create_is_right

pub returns-clause-replace : goal.returns-clause-replace
returns-clause-replace c = replace_is_right

pub returns-clause-carry : goal.returns-clause-carry
returns-clause-carry c = carry_is_right

pub returns-clause-compact : goal.returns-clause-compact
returns-clause-compact c = compact_is_right
