use Rattle.std.proofs.Common.{length, arith}
use Rattle.entry.proofs.DigestLemmas.{length-digest_at, within_ids, within_lengths, id_among_ids, id_among_lengths}
use Rattle.entry.proofs.view.DigestRef.id.Goals as goal

pub u64_at-requires : goal.u64_at-requires
u64_at-requires c =
    let d = c.args.self.now in
    let len = length-digest_at d.has_lengths d.count d.text.now in
    let within = within_lengths d.has_lengths d.count (length d.text.now) c.if-self.true d.within in
    omega (arith, c.requires)

pub u64_at-requires-else-self : goal.u64_at-requires-else-self
u64_at-requires-else-self c =
    let d = c.args.self.now in
    let len = length-digest_at d.has_lengths d.count d.text.now in
    let within = within_ids d.has_lengths d.count (length d.text.now) c.if-self.false d.within in
    omega (arith, c.requires)

pub returns-then-self : goal.returns-then-self
returns-then-self c =
    let d = c.args.self.now in
    rw c.u64_at.ensures (id_among_lengths d.has_lengths d.count c.args.place d.text.now c.if-self.true c.requires)

pub returns-else-self : goal.returns-else-self
returns-else-self c =
    let d = c.args.self.now in
    rw c.u64_at-else-self.ensures
    (id_among_ids d.has_lengths d.count c.args.place d.text.now c.if-self.false c.requires)
