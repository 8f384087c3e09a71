use Rattle.std.proofs.Common.{◌≡◌, [], ◌++◌, sym, ◌∙◌, drop, arith}
use Rattle.std.specs.List.{AllByRecursion}
use Rattle.std.proofs.lemmas.List.{append-nil, drop_all}
use Rattle.std.proofs.lemmas.List.Elements.{recursion_from_All}
use Rattle.backup.specs.Retire.{spots_of_others}
use Rattle.backup.specs.Shelf.{IsInOrder}
use Rattle.file_fleet.specs.declared.member.Member.{Member}
use Rattle.file_fleet.proofs.Inventory.{inventory_at, memory_at, ordered_more, others_at, others_more}
use Rattle.file_fleet.proofs.members.Members.others.Goals as goal

pub returns : goal.returns
returns g c =
    let members = c.args.self.now.list.items in
    let last = c.loop-backup in
    let none : drop last.backup members ≡ [] = drop_all last.backup members (omega arith) in
    let whole : last.spots.items ++ [] ≡ spots_of_others c.args.keep (inventory_at 0 members) =
    rw none at last.invariant.whole in
    let all : last.spots.items ≡ spots_of_others c.args.keep (inventory_at 0 members) =
    sym (append-nil last.spots.items) ∙ whole in
    let ordered : AllByRecursion (λ (h : Member g.row.D.Denot). IsInOrder (memory_at h)) members =
    recursion_from_All (λ (h : Member g.row.D.Denot). IsInOrder (memory_at h)) members
    (λ k d l. last.invariant.ordered k d (omega arith)) in
    rw all (others_at c.args.keep members ordered)

pub loop-backup-preserved : goal.loop-backup-preserved
loop-backup-preserved g c =
    let seen = c.deref-member-items.result.now in
    let members = c.args.self.now.list.items in
    let same = c.deref-member-items.ensures.value in
    record {
      whole =
          others_more seen members c.loop-backup.backup c.member-item.result same c.loop-backup-test.true
          c.member-item.is
          c.memory.result.now c.memory.ensures c.args.keep c.loop-backup.spots.items _ _
          c.in_ok-list_others.ensures.listed
          c.loop-backup.invariant.whole;
      ordered =
          ordered_more seen members c.loop-backup.backup c.member-item.result same c.loop-backup-test.true
          c.member-item.is c.memory.result.now c.memory.ensures c.in_ok-list_others.ensures.ordered
          c.loop-backup.invariant.ordered;
    }
