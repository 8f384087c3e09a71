use Rattle.std.proofs.Common.{Some, length, sym, ap, ◌∙◌}
use Rattle.entry.specs.declared.entry.Entry.{Entry}
use Rattle.entry.specs.Format.{spelling}
use Rattle.entry.specs.View.{shown}
use Rattle.cleaner.specs.declared.ahead.Seen.TheVariants as seen
use Rattle.cleaner.specs.Passes.{seen_of}
use Rattle.cleaner.proofs.Reading.{never_unread, read_seen}
use Rattle.cleaner.proofs.ahead.seen_at.Goals as goal

pub unreachable-requires : goal.unreachable-requires
unreachable-requires c =
    let t = c.bytes-text.ensures in
    never_unread c.args.segment.now c.args.at c.bytes-text.result.now t.text t.valid c.if-at-text.false c.requires
    c.in_default.ensures.complete

pub returns-in-Object-clause-seen : goal.returns-in-Object-clause-seen
returns-in-Object-clause-seen c =
    let t = c.bytes-text.ensures in
    let seed = c.args.index.now.held.seed in
    let e = shown c.in-Ok.entry in
    let x = seen.Object c.hash.result c.in-Ok.len in
    let is = ap shown c.in-Object.is in
    read_seen c.args.segment.now c.args.at c.bytes-text.result.now t.text t.valid c.if-at-text.false e c.in-Ok.len
    c.in-Ok.ensures.complete seed x c.requires t.limit
    (λ size. ap (seen_of seed) is ∙ (λ i. Some (seen.Object (sym c.hash.ensures i)
    ((sym (size ∙ ap (λ (x : Entry). length (spelling x)) is)) i))))

pub returns-in-Tombstone-clause-seen : goal.returns-in-Tombstone-clause-seen
returns-in-Tombstone-clause-seen c =
    let t = c.bytes-text.ensures in
    let seed = c.args.index.now.held.seed in
    let e = shown c.in-Ok.entry in
    let x = seen.Tombstone c.in-Tombstone.tombstone.segment c.in-Ok.len in
    let is = ap shown c.in-Tombstone.is in
    read_seen c.args.segment.now c.args.at c.bytes-text.result.now t.text t.valid c.if-at-text.false e c.in-Ok.len
    c.in-Ok.ensures.complete seed x c.requires t.limit
    (λ size. ap (seen_of seed) is ∙ ap (λ n. Some (seen.Tombstone c.in-Tombstone.tombstone.segment n))
    (sym (size ∙ ap (λ (x : Entry). length (spelling x)) is)))
