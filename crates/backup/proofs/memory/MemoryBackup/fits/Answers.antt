use Rattle.std.proofs.Common.{◌≡◌, Option, Some, get_or, sym, ap, ◌∙◌}
use Rattle.std.specs.Prelude.{is_some}
use Rattle.std.specs.List.{HoldsAt}
use Rattle.std.proofs.lemmas.List.{get_or_default}
use Rattle.replica.specs.Op.{ActValue, shown_act}
use Rattle.replica.specs.Picture.{Replica}
use Rattle.replica.specs.Take.{effect}
use Rattle.backup.specs.Slots.{Slots, Place}
use Rattle.backup.proofs.Shelves.{stored_at, none_at}
use Rattle.backup.proofs.memory.MemoryBackup.fits.Goals as goal

pub returns-in-Ok-clause-fits : goal.returns-in-Ok-clause-fits
returns-in-Ok-clause-fits c =
    let place : Place = (c.args.op.now.master, c.args.op.now.segment) in
    let act : ActValue = shown_act c.args.op.now.act in
    let slots = c.args.self.now.replicas in
    let found = c.in-Ok.found in
    let slot = c.index-as_slice-found.result in
    let at = c.in-Ok.ensures.found in
    let here : HoldsAt (λ x. x.1 ≡ (get_or slots found slot).1) slots found =
    λ d. ap (λ x. x.1) (sym (get_or_default slots found slot d at.within)) in
    c.allows.ensures
    ∙ ap (λ (xs : Slots). is_some (effect act (Some (get_or xs found slot).1)))
    (c.as_slice.ensures.all ∙ c.find.ensures.same)
    ∙ ap (λ (o : Option Replica). is_some (effect act o))
    (sym (stored_at slots c.find.ensures.ordered place found at (get_or slots found slot).1 here))

pub returns-in-Err-clause-fits : goal.returns-in-Err-clause-fits
returns-in-Err-clause-fits c =
    let place : Place = (c.args.op.now.master, c.args.op.now.segment) in
    c.is_making.ensures
    ∙ ap (λ (o : Option Replica). is_some (effect (shown_act c.args.op.now.act) o))
    (sym (none_at c.args.self.now.replicas c.find.ensures.ordered place c.in-Err.field-0 c.in-Err.ensures.absent))
