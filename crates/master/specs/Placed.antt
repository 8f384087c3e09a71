-- Which backups a master's segments are on.
use Rattle.std.specs.Prelude.{◌≡◌, ℕ, ◌≤◌, List, [], length, Bool, true, false, not, ◌&&◌, Option, Some, IfSome}
use Rattle.std.specs.Prelude.{slice_get, if◌then◌else◌}
use Rattle.std.specs.List.{AllByRecursion}
use Rattle.std.specs.Option.{option_map_or}
use Rattle.entry.specs.Bag.{IsAmong}
use Rattle.images.specs.Image.{Image}
use Rattle.log_head.specs.declared.head.Roll.{Roll}
use Rattle.log_head.specs.log_laws.Ids.{without}
use Rattle.master_core.specs.master_state.declared.failover.Failover.{Failover}
use Rattle.master_core.specs.master_state.declared.failover.Part.{Part}
use Rattle.master_core.specs.master_state.declared.failover.Part.TheVariants as part
use Rattle.master_core.specs.master_state.Data.{MasterData}
use Rattle.master_core.specs.master_state.Ledger.{took_in, counts_in, shut_in}
use Rattle.master_core.specs.master_state.Log.{home, placed, is_headless}

-- how many replicas of the head are closed, by a roll that was under way as a failover began, until that makes its own
abbrev pub closed_in : Part → ℕ → ℕ
closed_in part.Mends n = n
closed_in part.Opens n = 0
closed_in part.Closes n = 0
closed_in part.Repairs n = 0

-- the first head isn't rolled from
abbrev pub closed_by : Option Failover → ℕ
closed_by o = option_map_or (λ (f : Failover). if f.is_first then 0 else closed_in f.part f.closed) o 0

-- how many are, by a roll that is under way, or that was as a failover began
abbrev pub closed_now : MasterData → ℕ
closed_now d = option_map_or (λ (r : Roll). r.closed) d.head.roll (closed_by d.failover)

-- the new head of a failover is being opened, for an old one
abbrev pub is_opens : Part → Bool
is_opens part.Mends = false
is_opens part.Opens = true
is_opens part.Closes = false
is_opens part.Repairs = false

abbrev pub is_opening : Option Failover → Bool
is_opening o = option_map_or (λ (f : Failover). is_opens f.part && not f.is_first) o false

-- the backups that took an Open or a Seal of the segment, and haven't failed
abbrev pub holders : MasterData → ℕ → List ℕ
holders d s = without d.failed (took_in d.ledger s)

-- Each segment's replicas are on the first of its homes: those that took it and haven't failed are as many of them as
-- replicas are counted. Each home of the head took as many units as are counted for its replica.
pub record IsPlaced (d : MasterData) : Type 0 where
  pub none : is_headless d ≡ true → took_in d.ledger 0 ≡ []
  pub head : holders d d.head.id ≡ placed d.config d.failed d.head.id (length d.head.taken)
  pub counts : (j k : ℕ) → slice_get d.head.taken j ≡ Some k
      → counts_in d.ledger (home d.config d.failed d.head.id j) ≡ k
  pub unopened : is_headless d ≡ true → (b : ℕ) → counts_in d.ledger b ≡ 0
  -- no replica of the old head lags once a failover's new head is made
  pub whole : is_opening d.failover ≡ true → AllByRecursion (λ (k : ℕ). length d.head.units ≤ k) d.head.taken
  pub new : IfSome d.head.roll (λ (r : Roll). holders d r.id ≡ placed d.config d.failed r.id r.opened)
  pub shut : without d.failed (shut_in d.ledger) ≡ placed d.config d.failed d.head.id (closed_now d)
  -- each closed segment of the log, and each survivor of the open pass
  pub closed : (image : Image) → IsAmong image d.closed
      → holders d image.id ≡ placed d.config d.failed image.id image.replicas
