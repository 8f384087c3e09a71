-- Laws about how many pushes a failover still needs.
use Rattle.std.specs.Prelude.{◌<◌, ◌≤◌}
use Rattle.master_state.specs.Data.{MasterData}
use Rattle.master_state.specs.Invariant.{IsCore}
use Rattle.master_failover.specs.declared.push.Push.{Push}
use Rattle.master_failover.specs.declared.push.Push.TheVariants as push
use Rattle.master_failover.specs.Left.{left_now}
use Rattle.master_failover.specs.Mending.{IsNextMend, turned_data, mended_data}

-- Each push that is taken lowers the number of pushes that the failover still needs.
abbrev pub MendLowers : Type 0
MendLowers = (d : MasterData) (p : Push) → IsCore d → IsNextMend d p → left_now (mended_data d p) < left_now d

-- Putting the new head doesn't raise this number, even if its first Open isn't counted.
abbrev pub TurnLowers : Type 0
TurnLowers = (d : MasterData) → IsCore d → IsNextMend d push.Turn → left_now (turned_data d) ≤ left_now d
