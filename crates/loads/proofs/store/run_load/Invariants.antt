use Rattle.std.specs.Prelude.{length}
use Rattle.counted_calls.specs.locked_log.Made.{made_now}
use Rattle.counted_calls.specs.master.World.{world}
use Rattle.loads.proofs.store.run_load.Given as goal

abbrev pub ghosts-load_in-B-Naming : goal.ghosts-load_in-B-Naming
ghosts-load_in-B-Naming g a =
    record { table = a.blank.table; made = made_now a.plan.threads (world g.F.Fleet.state a.master) }

abbrev pub ghosts-load_in-B-Labels : goal.ghosts-load_in-B-Labels
ghosts-load_in-B-Labels g a = record { cells = a.blank.cells; start = length a.master.knows.history }

abbrev pub ghosts-load_in-B-Ledger : goal.ghosts-load_in-B-Ledger
ghosts-load_in-B-Ledger g a = record { name = a.blank.name; parts = a.blank.parts }
