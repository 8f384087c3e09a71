use Rattle.std.specs.Prelude.{◌≡◌}
use Rattle.file_fleet.specs.Fleet.{fleet_state}
use Rattle.file_fleet.specs.Noting.{noted_by}
use Rattle.disk_store.proofs.shortening.shorten_all.Given as goal

abbrev pub invariant-loop-backup : goal.invariant-loop-backup
invariant-loop-backup l = (l.master.knows ≡ l.fn.master.knows)
    × (fleet_state noted_by l.master.fleet ≡ fleet_state noted_by l.fn.master.fleet)
