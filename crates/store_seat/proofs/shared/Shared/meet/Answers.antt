use Rattle.std.proofs.Common.{rules}
use Rattle.store_seat.proofs.shared.Shared.meet.Goals as goal

-- by no named step, so that a call without one is refused for what it does
pub returns : goal.returns
returns g c = search rules
