use Rattle.std.specs.Prelude.{length}
use Rattle.backup.specs.State.{fleet_state}
use Rattle.locked_log.specs.Made.{made_now}
use Rattle.locked_log.specs.master.World.{world}
use Rattle.holding_tests.proofs.holdings.run_rows.Given as goal

abbrev pub ghosts-count_in-B-Naming : goal.ghosts-count_in-B-Naming
ghosts-count_in-B-Naming g a = record {
  table = a.blank.table;
  made = made_now a.blank.seats (world fleet_state a.master);
}

abbrev pub ghosts-count_in-B-Labels : goal.ghosts-count_in-B-Labels
ghosts-count_in-B-Labels g a = record { cells = a.blank.cells; start = length a.master.knows.history }

abbrev pub ghosts-count_in-B-Ledger : goal.ghosts-count_in-B-Ledger
ghosts-count_in-B-Ledger g a = record { name = a.blank.name; parts = a.blank.parts }
