use Rattle.std.proofs.Common.{◌≡◌, Some, refl, ap}
use Rattle.std.specs.List.{slice_get}
use Rattle.std.proofs.lemmas.Option.{slice_get_read}
use Rattle.backup.specs.Shelf.{holdings_of}
use Rattle.backup.specs.declared.memory.MemoryBackup.{MemoryBackup}
use Rattle.file_backup.specs.Replay.{held_in}
use Rattle.file_fleet.proofs.Held.{one_shown, shown_once}
use Rattle.file_fleet.proofs.fleet.FileFleetFleet.holdings.Goals as goal

pub returns-clause-shown : goal.returns-clause-shown
returns-clause-shown g c =
    let members = c.self.inside.members.list.items in
    let member = c.in-Some.member.now in
    let found = c.in-Some.ensures.lookup in
    let at : slice_get members c.args.backup ≡ Some member =
    rw c.as_slice.ensures.value at (slice_get_read _ _ c.args.backup member refl found.3.0 found.1) in
    let whole : c.show.new.list.items ≡ holdings_of c.args.backup c.memory.result.now =
    rw c.new-list.ensures.items at c.in_ok-show.ensures.shown in
    rw (← c.self.view_is, whole)
    (one_shown members c.args.backup member c.memory.result.now at
    (ap (λ (m : MemoryBackup). held_in m) c.memory.ensures) c.show.ensures.ordered)

pub returns-clause-once : goal.returns-clause-once
returns-clause-once g c =
    let whole : c.show.new.list.items ≡ holdings_of c.args.backup c.memory.result.now =
    rw c.new-list.ensures.items at c.in_ok-show.ensures.shown in
    rw whole (shown_once c.args.backup c.memory.result.now c.show.ensures.ordered)
