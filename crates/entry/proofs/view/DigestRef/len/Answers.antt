use Rattle.std.proofs.Common.{length, arith}
use Rattle.entry.proofs.DigestLemmas.{length-digest_at, within_lengths, len_among_ids, len_among_lengths}
use Rattle.entry.proofs.view.DigestRef.len.Goals as goal

pub u64_at-requires : goal.u64_at-requires
u64_at-requires c =
    let d = c.args.self.now in
    let len = length-digest_at d.has_lengths d.count d.text.now in
    let within = within_lengths d.has_lengths d.count (length d.text.now) c.if-self.true d.within in
    omega (arith, c.requires)

pub returns-then-self : goal.returns-then-self
returns-then-self c =
    let d = c.args.self.now in
    len_among_lengths d.has_lengths d.count c.args.place c.u64_at.result d.text.now c.if-self.true d.lengths c.requires
    c.u64_at.ensures

pub returns-else-self : goal.returns-else-self
returns-else-self c =
    let d = c.args.self.now in
    len_among_ids d.has_lengths d.count c.args.place d.text.now c.if-self.false c.requires
