use Rattle.std.proofs.Common.{sym, subst}
use Rattle.backup.specs.Slots.{Slots, IsGapFor}
use Rattle.backup.proofs.Shelves.{ordered_inserted}
use Rattle.backup.proofs.shelf.Shelf.insert.Goals as goal

pub invariant_of-self-2 : goal.invariant_of-self-2
invariant_of-self-2 c =
    let place = c.args.place in
    let gap = subst (λ (slots : Slots). IsGapFor slots place c.args.at) (sym c.self.view_is) c.requires in
    rw c.in_ok-insert.ensures.items
    (ordered_inserted c.self.inside.slots.items place c.args.at c.args.stored c.self.invariant gap)
