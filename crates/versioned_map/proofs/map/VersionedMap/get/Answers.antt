use Rattle.std.proofs.Common.{refl}
use Rattle.versioned_map.specs.Map.{IsAtSlot}
use Rattle.versioned_map.proofs.Failing.{failing_from_all}
use Rattle.versioned_map.proofs.Puts.{slot_has}
use Rattle.versioned_map.proofs.map.VersionedMap.get.Goals as goal

pub returns-in_ok-copy_value-in-Some-clause-reply : goal.returns-in_ok-copy_value-in-Some-clause-reply
returns-in_ok-copy_value-in-Some-clause-reply c =
    let os = c.self.inside.objects.items in
    let k = c.args.key.now in
    let at : IsAtSlot os k c.in-Some.slot = rw (← c.self.view_is) at c.in-Some.ensures.found in
    let has = slot_has os k c.in-Some.slot c.index-object.result.now c.self.invariant at c.index-object.ensures in
    rw (← c.self.view_is) (rw (has, c.in_ok-copy_value-in-Some.ensures) refl)

pub returns-in_err-copy_value-in-Some-clause-refused : goal.returns-in_err-copy_value-in-Some-clause-refused
returns-in_err-copy_value-in-Some-clause-refused c =
    let os = c.self.inside.objects.items in
    let k = c.args.key.now in
    let at : IsAtSlot os k c.in-Some.slot = rw (← c.self.view_is) at c.in-Some.ensures.found in
    let has = slot_has os k c.in-Some.slot c.index-object.result.now c.self.invariant at c.index-object.ensures in
    rw (← c.self.view_is) (failing_from_all c.from_residual.result _ (rw has refl))
