use Rattle.std.proofs.Common.{◌≡◌, ◌<◌, [], ◌++◌, length, sym, ◌∙◌, drop, arith}
use Rattle.std.proofs.lemmas.List.{append-nil, drop_all}
use Rattle.std.proofs.lemmas.List.Elements.{recursion_from_All}
use Rattle.backup.specs.Shelf.{IsInOrder, holdings_of}
use Rattle.backup.proofs.Held.{AreInOrder, inventory_of, all_shown, shown_more, ordered_more}
use Rattle.backup.proofs.Held.{is_there, on_err, some_held}
use Rattle.backup.proofs.Rising.{rising_inventory}
use Rattle.backup.proofs.fleet.MemoryFleet.inventory.Goals as goal

whole : (c : goal.After-new) → c.new.result ≡ inventory_of 0 c.args.self.now.backups.items
whole c =
    let backups = c.args.self.now.backups.items in
    let none : drop c.loop-backup.backup backups ≡ [] = drop_all c.loop-backup.backup backups (omega arith) in
    let e : c.loop-backup.list.items ++ [] ≡ inventory_of 0 backups = rw none at c.loop-backup.invariant.whole in
    c.new.ensures ∙ sym (append-nil c.loop-backup.list.items) ∙ e

ordered : (c : goal.After-new) → AreInOrder c.args.self.now.backups.items
ordered c =
    recursion_from_All IsInOrder c.args.self.now.backups.items
    (λ k d l. c.loop-backup.invariant.ordered k d (omega arith))

pub returns-clause-shown : goal.returns-clause-shown
returns-clause-shown c = rw (whole c) (all_shown c.args.self.now.backups.items (ordered c))

pub returns-clause-rising : goal.returns-clause-rising
returns-clause-rising c = rw (whole c) (rising_inventory 0 c.args.self.now.backups.items (ordered c))

pub loop-backup-preserved : goal.loop-backup-preserved
loop-backup-preserved c =
    let seen = c.deref-memory-items.result.now in
    let backups = c.args.self.now.backups.items in
    let same = c.deref-memory-items.ensures.value in
    record {
      whole =
          shown_more seen backups c.loop-backup.backup c.memory-item.result same c.loop-backup-test.true
          c.memory-item.is c.loop-backup.list.items _ _ c.in_ok-show.ensures.shown c.loop-backup.invariant.whole;
      ordered =
          ordered_more seen backups c.loop-backup.backup c.memory-item.result same c.loop-backup-test.true
          c.memory-item.is c.in_ok-show.ensures.ordered c.loop-backup.invariant.ordered;
    }

pub returns-in_err-show-clause-memory : goal.returns-in_err-show-clause-memory
returns-in_err-show-clause-memory c =
    let backups = c.args.self.now.backups.items in
    let b = c.loop-backup.backup in
    let x = c.memory-item.result in
    let is = is_there c.deref-memory-items.result.now backups b x c.deref-memory-items.ensures.value
    c.loop-backup-test.true c.memory-item.is in
    let full = c.in_err-show.ensures.full in
    let within = c.loop-backup.list.ok.1 in
    let some : 0 < length (holdings_of b x) = omega (arith, full, within) in
    on_err c.from_residual.result (b, some_held backups b x is c.in_err-show.ensures.ordered some)
