use Rattle.std.proofs.Common.{◌≡◌, ◌<◌, Some, length, refl, arith}
use Rattle.std.proofs.lemmas.Option.{slice_get_read}
use Rattle.std.specs.List.{slice_get}
use Rattle.backup.specs.Shelf.{holdings_of}
use Rattle.backup.proofs.Held.{on_err, one_shown, some_held}
use Rattle.backup.proofs.Rising.{rising_none, rising_images, IsOnce-from_rising}
use Rattle.backup.proofs.fleet.MemoryFleetFleet.holdings.Goals as goal
use Rattle.backup.proofs.fleet.MemoryFleetFleet.holdings.Goals.{In_ok-show}

pub returns-in_default-clause-rising : goal.returns-in_default-clause-rising
returns-in_default-clause-rising c = rw c.new-list.ensures.items rising_none

whole : (c : In_ok-show) → c.show.new.list.items ≡ holdings_of c.args.backup c.in-Some.memory.now
whole c = rw c.new-list.ensures.items at c.in_ok-show.ensures.shown

pub returns-clause-shown : goal.returns-clause-shown
returns-clause-shown c =
    let backups = c.args.self.now.backups.items in
    let memory = c.in-Some.memory.now in
    let found = c.in-Some.ensures.lookup in
    let is : slice_get backups c.args.backup ≡ Some memory =
    rw c.as_slice.ensures.value at (slice_get_read _ _ c.args.backup memory refl found.3.0 found.1) in
    rw (whole (goal.at.returns-clause-shown c).In_ok-show)
    (one_shown backups c.args.backup memory is c.show.ensures.ordered)

pub returns-clause-rising : goal.returns-clause-rising
returns-clause-rising c =
    rw (whole (goal.at.returns-clause-rising c).In_ok-show)
    (rising_images c.args.backup c.in-Some.memory.now.replicas c.show.ensures.ordered)

pub returns-clause-once : goal.returns-clause-once
returns-clause-once c = IsOnce-from_rising c.show.new.list.items (returns-clause-rising c)

pub returns-in_err-show-clause-memory : goal.returns-in_err-show-clause-memory
returns-in_err-show-clause-memory c =
    let backups = c.args.self.now.backups.items in
    let memory = c.in-Some.memory.now in
    let found = c.in-Some.ensures.lookup in
    let is : slice_get backups c.args.backup ≡ Some memory =
    rw c.as_slice.ensures.value at (slice_get_read _ _ c.args.backup memory refl found.3.0 found.1) in
    let full = c.in_err-show.ensures.full in
    let none = c.new-list.ensures.len in
    let some : 0 < length (holdings_of c.args.backup memory) = omega (arith, full, none) in
    on_err c.from_residual.result (some_held backups c.args.backup memory is c.in_err-show.ensures.ordered some)
