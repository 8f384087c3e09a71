use Rattle.std.proofs.Common.{◌≡◌, ◌+◌, max, refl, ap, ◌∙◌, rules}
use Rattle.std.specs.List.{remove}
use Rattle.versioned_map.specs.declared.command.Command.TheVariants.{Delete}
use Rattle.versioned_map.specs.Versioned.{after_command}
use Rattle.versioned_map.specs.Map.{MapValue, IsAtSlot, map_state}
use Rattle.versioned_map.proofs.Puts.{slot_has, map_state-remove}
use Rattle.versioned_map.proofs.map.VersionedMap.delete.Goals as goal

pub returns-in-Some-clause-reply : goal.returns-in-Some-clause-reply
returns-in-Some-clause-reply c =
    let os = c.self.inside.objects.items in
    let k = c.args.key.now in
    let at : IsAtSlot os k c.in-Some.slot = rw (← c.self.view_is) at c.in-Some.ensures.found in
    let has = slot_has os k c.in-Some.slot c.remove-object.result c.self.invariant at c.remove-object.ensures.value in
    rw (← c.self.view_is) (rw has refl)

pub returns-in-Some-clause-state : goal.returns-in-Some-clause-state
returns-in-Some-clause-state c =
    let os = c.self.inside.objects.items in
    let k = c.args.key.now in
    let o = c.remove-object.result in
    let at : IsAtSlot os k c.in-Some.slot = rw (← c.self.view_is) at c.in-Some.ensures.found in
    let items : c.remove-object.new.self.items ≡ remove os c.in-Some.slot = c.remove-object.ensures.items in
    let safe : c.max-self-inside.result ≡ max c.self.inside.safe (o.version + 1) = search rules in
    rw (items, safe)
    (map_state-remove os c.self.inside.safe k c.in-Some.slot o c.self.invariant at c.remove-object.ensures.value
    ∙ ap (λ (m : MapValue). after_command (map_state m) (Delete k)) c.self.view_is)
