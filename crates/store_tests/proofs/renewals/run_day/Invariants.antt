use Rattle.backup.specs.State.{fleet_state}
use Rattle.store_clients.specs.locked_log.Made.{made_now}
use Rattle.store_clients.specs.master.World.{world_of}
use Rattle.store_tests.proofs.renewals.run_day.Given as goal

abbrev pub ghosts-day-B-Naming : goal.ghosts-day-B-Naming
ghosts-day-B-Naming g a = record {
  table = a.blank.table;
  made = made_now a.blank.seats (world_of a.paused.master.knows (fleet_state a.paused.master.fleet.fleet));
}

abbrev pub ghosts-day-B-Labels : goal.ghosts-day-B-Labels
ghosts-day-B-Labels g a = record { cells = a.blank.cells; start = a.paused.start }

abbrev pub ghosts-day-B-Ledger : goal.ghosts-day-B-Ledger
ghosts-day-B-Ledger g a = record { name = a.blank.name; parts = a.blank.parts }
