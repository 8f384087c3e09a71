-- Runs of a log whose backups may fail, over a fleet.
use Rattle.std.specs.Prelude.{ℕ}
use Rattle.replica.specs.declared.op.TakeFault.TheVariants as take_fault
use Rattle.replica.specs.Picture.{FleetState, shown_of}
use Rattle.log_laws.specs.Shown.{Shown as ModelShown}
use Rattle.log_bytes.specs.Spelled.{read_shown}

-- ---- runs

-- what the model shows of the master, as it is read from the fleet's bytes
abbrev pub read_fleet : ℕ → FleetState → ModelShown
read_fleet master f = read_shown master (shown_of f master)
