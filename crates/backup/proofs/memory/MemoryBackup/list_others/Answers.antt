use Rattle.std.proofs.Common.{◌<◌, length, map, subst}
use Rattle.backup.specs.Retire.{spots_of_others}
use Rattle.backup.specs.Shelf.{holding_of}
use Rattle.backup.specs.Slots.{Slots}
use Rattle.backup.proofs.Held.{on_err}
use Rattle.backup.proofs.Others.{other_slot}
use Rattle.backup.proofs.memory.MemoryBackup.list_others.Goals as goal

pub returns-in_err-push-clause-needed : goal.returns-in_err-push-clause-needed
returns-in_err-push-clause-needed c =
    let slots = c.as_slice-place-items in
    on_err c.from_residual.result
    (subst (λ (es : Slots). 0 < length (spots_of_others c.args.keep (map (holding_of c.args.backup) es)))
    slots.ensures.all
    (other_slot c.args.keep c.args.backup slots.result.now c.loop-place.place-index c.loop-place-item.result
    c.loop-place-test.true c.loop-place-item.is c.if-place-keep.true))
