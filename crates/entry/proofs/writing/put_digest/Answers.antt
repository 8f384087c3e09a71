use Rattle.std.proofs.Common.{◌≡◌, ◌+◌, ◌*◌, length, arith}
use Rattle.entry.specs.Format.{digest_spelling}
use Rattle.entry.proofs.SpellingLemmas.{length-digest, length-lengths}
use Rattle.entry.proofs.writing.put_digest.Goals as goal

pub put_u32-requires : goal.put_u32-requires
put_u32-requires c =
    let len : length (digest_spelling c.args.digest.now) ≡ 5 + 8 * length c.in-Ids.ids =
    rw c.in-Ids.is (length-digest _) in
    omega arith

pub put_ids-requires : goal.put_ids-requires
put_ids-requires c =
    let len : length (digest_spelling c.args.digest.now) ≡ 5 + 8 * length c.in-Ids.ids =
    rw c.in-Ids.is (length-digest _) in
    rw c.as_slice-in-Ids.ensures.ids (omega arith)

pub put_u32-requires-in-Lengths : goal.put_u32-requires-in-Lengths
put_u32-requires-in-Lengths c =
    let len : length (digest_spelling c.args.digest.now) ≡ 5 + 16 * length c.in-Lengths.segments =
    rw c.in-Lengths.is (length-lengths _) in
    omega arith

pub put_listed-requires : goal.put_listed-requires
put_listed-requires c =
    let len : length (digest_spelling c.args.digest.now) ≡ 5 + 16 * length c.in-Lengths.segments =
    rw c.in-Lengths.is (length-lengths _) in
    rw c.as_slice-in-Lengths-2.ensures.segments (omega arith)
