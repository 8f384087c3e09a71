use Rattle.std.proofs.Common.{◌≡◌, [], ◌++◌, Option, sym, ap, ◌∙◌, drop, arith}
use Rattle.std.specs.List.{AllByRecursion}
use Rattle.std.proofs.lemmas.List.{append-nil, drop_all}
use Rattle.std.proofs.lemmas.List.Elements.{recursion_from_All}
use Rattle.file_backup.specs.Mirror.{memory_of}
use Rattle.file_backup.specs.declared.mirror.FileBackup.{FileBackup}
use Rattle.file_fleet.specs.declared.member.Member.{Member}
use Rattle.fleet_start.proofs.Listing.{IsOrdered, all_listed, list_at, listed_more, ordered_more, ordered_none}
use Rattle.fleet_start.proofs.Listing.{ordered_one, rising_list, shows_none, shows_one}
use Rattle.fleet_start.proofs.found.Found.inventory.Goals as goal
use Rattle.fleet_start.proofs.found.Found.inventory.Goals.{in-Some+in_ok-show-in-Some, in-None}

pub loop-backup-preserved : goal.loop-backup-preserved
loop-backup-preserved g c =
    let seen = c.deref-place-items.result.now in
    let places = c.args.self.now.places.items in
    let same = c.deref-place-items.ensures.value in
    elim c.match-place.branch [
      | in-Some+in_ok-show-in-Some w ↦ rw w.list-is (record {
        whole =
            listed_more seen places c.loop-backup.backup c.place-item.result same c.loop-backup-test.true
            c.place-item.is c.loop-backup.list.items _ _
            (shows_one c.loop-backup.backup c.place-item.result _ w.memory.result.now w.in-Some.is
            (w.memory.ensures ∙ ap (λ (b : FileBackup g.row.D.Denot). memory_of b) w.backup.ensures)
            c.loop-backup.list.items _ w.in_ok-show-in-Some.ensures.shown)
            c.loop-backup.invariant.whole;
        ordered =
            ordered_more seen places c.loop-backup.backup c.place-item.result same c.loop-backup-test.true
            c.place-item.is
            (ordered_one c.place-item.result _ w.memory.result.now w.in-Some.is
            (w.memory.ensures ∙ ap (λ (b : FileBackup g.row.D.Denot). memory_of b) w.backup.ensures)
            w.in_ok-show-in-Some.ensures.ordered)
            c.loop-backup.invariant.ordered;
      })
      | in-None w ↦ rw w.list-is (record {
        whole =
            listed_more seen places c.loop-backup.backup c.place-item.result same c.loop-backup-test.true
            c.place-item.is c.loop-backup.list.items _ _
            (shows_none c.loop-backup.backup c.place-item.result w.in-None.is c.loop-backup.list.items)
            c.loop-backup.invariant.whole;
        ordered =
            ordered_more seen places c.loop-backup.backup c.place-item.result same c.loop-backup-test.true
            c.place-item.is (ordered_none c.place-item.result w.in-None.is) c.loop-backup.invariant.ordered;
      })
    ]

pub returns-clause-shown : goal.returns-clause-shown
returns-clause-shown g c =
    let places = c.args.self.now.places.items in
    let none : drop c.loop-backup.backup places ≡ [] = drop_all c.loop-backup.backup places (omega arith) in
    let e : c.loop-backup.list.items ++ [] ≡ list_at 0 places = rw none at c.loop-backup.invariant.whole in
    let whole : c.new.result ≡ list_at 0 places = c.new.ensures ∙ sym (append-nil c.loop-backup.list.items) ∙ e in
    let ordered : AllByRecursion (λ (p : Option (Member g.row.D.Denot)). IsOrdered p) places =
    recursion_from_All (λ (p : Option (Member g.row.D.Denot)). IsOrdered p) places
    (λ k d l. c.loop-backup.invariant.ordered k d (omega arith)) in
    rw whole (all_listed places ordered)

pub returns-clause-rising : goal.returns-clause-rising
returns-clause-rising g c =
    let places = c.args.self.now.places.items in
    let none : drop c.loop-backup.backup places ≡ [] = drop_all c.loop-backup.backup places (omega arith) in
    let e : c.loop-backup.list.items ++ [] ≡ list_at 0 places = rw none at c.loop-backup.invariant.whole in
    let whole : c.new.result ≡ list_at 0 places = c.new.ensures ∙ sym (append-nil c.loop-backup.list.items) ∙ e in
    let ordered : AllByRecursion (λ (p : Option (Member g.row.D.Denot)). IsOrdered p) places =
    recursion_from_All (λ (p : Option (Member g.row.D.Denot)). IsOrdered p) places
    (λ k d l. c.loop-backup.invariant.ordered k d (omega arith)) in
    rw whole (rising_list 0 places ordered)
