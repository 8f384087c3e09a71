use Rattle.std.specs.Prelude.{length}
use Rattle.counted_calls.specs.locked_log.Made.{made_now}
use Rattle.counted_calls.specs.master.World.{world}
use Rattle.store_clients.proofs.workload.clients_over.Given as goal

abbrev pub ghosts-clients_in-B-Naming : goal.ghosts-clients_in-B-Naming
ghosts-clients_in-B-Naming g a = record { table = a.blank.table; made = made_now 64 (world g.F.Fleet.state a.master) }

abbrev pub ghosts-clients_in-B-Labels : goal.ghosts-clients_in-B-Labels
ghosts-clients_in-B-Labels g a = record { cells = a.blank.cells; start = length a.master.knows.history }

abbrev pub ghosts-clients_in-B-Ledger : goal.ghosts-clients_in-B-Ledger
ghosts-clients_in-B-Ledger g a = record { name = a.blank.name; parts = a.blank.parts }
