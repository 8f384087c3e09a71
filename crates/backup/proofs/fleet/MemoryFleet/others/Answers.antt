use Rattle.std.proofs.Common.{◌≡◌, [], ◌++◌, sym, ◌∙◌, drop, arith}
use Rattle.std.proofs.lemmas.List.{append-nil, drop_all}
use Rattle.std.proofs.lemmas.List.Elements.{recursion_from_All}
use Rattle.backup.specs.Retire.{spots_of_others}
use Rattle.backup.specs.Shelf.{IsInOrder, holdings_of}
use Rattle.backup.specs.State.{picture_of}
use Rattle.backup.proofs.Held.{AreInOrder, inventory_of, all_shown, is_there, on_err, one_shown}
use Rattle.backup.proofs.Others.{are_others, other_held}
use Rattle.backup.proofs.Rising.{rising_inventory}
use Rattle.backup.proofs.fleet.MemoryFleet.others.Goals as goal

pub returns-clause-others : goal.returns-clause-others
returns-clause-others c =
    let backups = c.args.self.now.backups.items in
    let last = c.loop-backup in
    let none : drop last.backup backups ≡ [] = drop_all last.backup backups (omega arith) in
    let whole : last.list.items ++ [] ≡ spots_of_others c.args.keep (inventory_of 0 backups) =
    rw none at last.invariant.whole in
    let all : last.list.items ≡ spots_of_others c.args.keep (inventory_of 0 backups) =
    sym (append-nil last.list.items) ∙ whole in
    let ordered : AreInOrder backups =
    recursion_from_All IsInOrder backups (λ k d l. last.invariant.ordered k d (omega arith)) in
    rw all (are_others c.args.keep (inventory_of 0 backups) (picture_of backups) (all_shown backups ordered)
    (rising_inventory 0 backups ordered))

pub returns-in_err-list_others-clause-memory : goal.returns-in_err-list_others-clause-memory
returns-in_err-list_others-clause-memory c =
    let backups = c.args.self.now.backups.items in
    let b = c.loop-backup.backup in
    let x = c.memory-item.result in
    let is = is_there c.deref-memory-items.result.now backups b x c.deref-memory-items.ensures.value
    c.loop-backup-test.true c.memory-item.is in
    on_err c.from_residual.result
    (other_held c.args.keep (holdings_of b x) (picture_of backups) c.in_err-list_others.ensures.needed
    (λ h among. ((one_shown backups b x is c.in_err-list_others.ensures.ordered h).0 among).1))
