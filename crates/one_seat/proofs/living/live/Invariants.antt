use Rattle.std.specs.Prelude.{length}
use Rattle.backup.specs.State.{fleet_state}
use Rattle.store_lines.specs.locked_log.Made.{made_now}
use Rattle.store_lines.specs.master.World.{world}
use Rattle.one_seat.proofs.living.live.Given as goal

abbrev pub ghosts-live_in-B-Naming : goal.ghosts-live_in-B-Naming
ghosts-live_in-B-Naming g a = record {
  table = a.blank.table;
  made = made_now a.blank.seats (world fleet_state a.master);
}

abbrev pub ghosts-live_in-B-Labels : goal.ghosts-live_in-B-Labels
ghosts-live_in-B-Labels g a = record { cells = a.blank.cells; start = length a.master.knows.history }

abbrev pub ghosts-live_in-B-Ledger : goal.ghosts-live_in-B-Ledger
ghosts-live_in-B-Ledger g a = record { name = a.blank.name; parts = a.blank.parts }
