use Rattle.std.proofs.Common.{◌≡◌, ◌+◌, ◌<◌, List, [], ◌∷◌, length, false, IsErrOf, refl, subst}
use Rattle.segment.specs.declared.fault.AppendFault.TheVariants as append_fault
use Rattle.entry.specs.declared.entry.Entry.{Entry}
use Rattle.entry.specs.Text.{text_of}
use Rattle.entry.specs.View.{shown, shown_key}
use Rattle.master_state.specs.Causes.{is_empty}
use Rattle.versioned_map.specs.Units.{object_entry, tombstone_entry}
use Rattle.master_commands.proofs.unit.append_change.Goals as goal

pub returns-in-Replace-clause-ok : goal.returns-in-Replace-clause-ok
returns-in-Replace-clause-ok c =
    let tombstone = c.tombstone_of-tombstone.ensures in
    rw (c.in-Put.is, c.in-Replace.is, ← tombstone, ← c.object_of-object.ensures) c.append-in-Replace.ensures.ok

pub returns-in-Replace-clause-full : goal.returns-in-Replace-clause-full
returns-in-Replace-clause-full c =
    let tombstone = c.tombstone_of-tombstone.ensures in
    let unit : ◌≡◌ {A = List Entry} (shown c.tombstone_of-tombstone.result ∷ shown c.object_of-object.result ∷ [])
    (tombstone_entry (shown_key c.in-Put.key) c.in-Replace.dead c.args.segment
    ∷ object_entry (shown_key c.in-Put.key) c.in-Replace.version c.in-Put.value.bytes.now ∷ []) =
    λ i. tombstone i ∷ c.object_of-object.ensures i ∷ [] in
    rw (c.in-Put.is, c.in-Replace.is)
    (subst (λ (u : List Entry). IsErrOf c.append-in-Replace.result append_fault.Full → (is_empty u ≡ false)
    × (c.args.limit < length (text_of c.args.head.now.image) + length (text_of u))) unit
    (λ is. (refl, c.append-in-Replace.ensures.full is)))
