use Rattle.std.proofs.Common.{◌≡◌, [], ◌++◌, refl, sym, ◌∙◌, drop, arith, rules}
use Rattle.std.specs.List.{AllByRecursion}
use Rattle.std.proofs.lemmas.List.{append-nil, drop_all}
use Rattle.std.proofs.lemmas.List.Elements.{recursion_from_All}
use Rattle.backup.specs.Shelf.{IsInOrder}
use Rattle.file_fleet.specs.declared.member.Member.{Member}
use Rattle.file_fleet.proofs.Inventory.{all_shown, inventory_at, memory_at, ordered_more, rising_inventory, shown_more}
use Rattle.fleets.proofs.inventory.inventory_of.Goals as goal

pub loop-backup-preserved : goal.loop-backup-preserved
loop-backup-preserved g c =
    let members = c.args.members.now in
    record {
      whole =
          shown_more members members c.loop-backup.backup c.index-members-backup.result refl c.loop-backup-test.true
          c.index-members-backup.is c.memory.result.now (search rules) c.loop-backup.list.items _ _
          c.in_ok-show.ensures.shown c.loop-backup.invariant.whole;
      ordered =
          ordered_more members members c.loop-backup.backup c.index-members-backup.result refl c.loop-backup-test.true
          c.index-members-backup.is c.memory.result.now (search rules) c.in_ok-show.ensures.ordered
          c.loop-backup.invariant.ordered;
    }

pub returns-clause-shown : goal.returns-clause-shown
returns-clause-shown g c =
    let members = c.args.members.now in
    let none : drop c.loop-backup.backup members ≡ [] = drop_all c.loop-backup.backup members (omega arith) in
    let e : c.loop-backup.list.items ++ [] ≡ inventory_at 0 members = rw none at c.loop-backup.invariant.whole in
    let whole : c.new.result ≡ inventory_at 0 members =
    c.new.ensures ∙ sym (append-nil c.loop-backup.list.items) ∙ e in
    let ordered : AllByRecursion (λ (h : Member g.row.D.Denot). IsInOrder (memory_at h)) members =
    recursion_from_All (λ (h : Member g.row.D.Denot). IsInOrder (memory_at h)) members
    (λ k d l. c.loop-backup.invariant.ordered k d (omega arith)) in
    rw whole (all_shown members ordered)

pub returns-clause-rising : goal.returns-clause-rising
returns-clause-rising g c =
    let members = c.args.members.now in
    let none : drop c.loop-backup.backup members ≡ [] = drop_all c.loop-backup.backup members (omega arith) in
    let e : c.loop-backup.list.items ++ [] ≡ inventory_at 0 members = rw none at c.loop-backup.invariant.whole in
    let whole : c.new.result ≡ inventory_at 0 members =
    c.new.ensures ∙ sym (append-nil c.loop-backup.list.items) ∙ e in
    let ordered : AllByRecursion (λ (h : Member g.row.D.Denot). IsInOrder (memory_at h)) members =
    recursion_from_All (λ (h : Member g.row.D.Denot). IsInOrder (memory_at h)) members
    (λ k d l. c.loop-backup.invariant.ordered k d (omega arith)) in
    rw whole (rising_inventory 0 members ordered)
