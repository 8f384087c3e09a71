use Rattle.std.proofs.Common.{◌≡◌, ◌+◌, [], ◌∷◌, length, ap, ◌∙◌, arith}
use Rattle.std.proofs.lemmas.List.{append_assoc}
use Rattle.entry.specs.declared.key.Key.{Key}
use Rattle.entry.specs.Format.{spelling}
use Rattle.entry.proofs.SpellingLemmas.{length-header, length-safe, length-object, length-tombstone}
use Rattle.entry.proofs.writing.put_entry.Goals as goal

pub put_u64-requires : goal.put_u64-requires
put_u64-requires c =
    let len : length (spelling c.args.entry.now) ≡ 18 = rw c.in-Header.is (length-header _) in omega arith

pub put_u64-requires-in-Header : goal.put_u64-requires-in-Header
put_u64-requires-in-Header c =
    let len : length (spelling c.args.entry.now) ≡ 18 = rw c.in-Header.is (length-header _) in omega arith

pub put_u64-requires-in-Safe : goal.put_u64-requires-in-Safe
put_u64-requires-in-Safe c =
    let len : length (spelling c.args.entry.now) ≡ 9 = rw c.in-Safe.is (length-safe _) in omega arith

pub put_object-requires-clause-room : goal.put_object-requires-clause-room
put_object-requires-clause-room c =
    let len : length (spelling c.args.entry.now)
    ≡ 23 + length c.in-Object.object.key.bytes + length c.in-Object.object.value =
    rw c.in-Object.is (length-object _) in
    let key : length c.view-key.result.bytes.now ≡ length c.in-Object.object.key.bytes =
    ap (λ (k : Key). length k.bytes) c.view-key.ensures in
    rw c.as_slice.ensures.bytes (omega arith)

pub put_tombstone-requires : goal.put_tombstone-requires
put_tombstone-requires c =
    let len : length (spelling c.args.entry.now) ≡ 27 + length c.in-Tombstone.tombstone.key.bytes =
    rw c.in-Tombstone.is (length-tombstone _) in
    let key : length c.view-key-in-Tombstone.result.bytes.now ≡ length c.in-Tombstone.tombstone.key.bytes =
    ap (λ (k : Key). length k.bytes) c.view-key-in-Tombstone.ensures in
    omega arith

pub returns-in-Safe : goal.returns-in-Safe
returns-in-Safe c =
    c.put_u64-in-Safe.ensures.items
    ∙ rw (c.put_u8-in-Safe.ensures.items, c.get.ensures.value, c.in-Safe.is)
    (append_assoc c.args.out.now.items (3 ∷ []) _)
