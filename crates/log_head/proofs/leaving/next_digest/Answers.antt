use Rattle.std.proofs.Common.{length, sym, ap, ◌∙◌, arith}
use Rattle.entry.specs.declared.digest.Digest.TheVariants.{Lengths}
use Rattle.entry.proofs.LengthLemmas.{length-ids_in}
use Rattle.log_head.specs.Head.{digest_in}
use Rattle.log_head.proofs.Listing.{are_lengths, is_digest}
use Rattle.log_head.proofs.RisingIds.{others_apart}
use Rattle.log_head.proofs.leaving.next_digest.Goals as goal

pub next_segments-requires-clause-outside : goal.next_segments-requires-clause-outside
next_segments-requires-clause-outside c = others_apart _ _ c.args.id c.requires.rise

pub new-requires : goal.new-requires
new-requires c =
    let size = length-ids_in c.in_ok-segments.segments.items in
    let same = ap length c.in_ok-segments.ensures.ids in
    let few = c.requires.count in
    are_lengths _ _ _ _ _ _ c.in_ok-segments.ensures.ids c.in_ok-segments.ensures.lens c.push_reserved.ensures.items
    c.requires.rise c.requires.count
    (record { id = c.ranges.id.fits; least = omega arith; greatest = omega arith })

pub returns-then-lists_lengths : goal.returns-then-lists_lengths
returns-then-lists_lengths c =
    ap Lengths c.new.ensures
    ∙ is_digest _ _ _ _ _ _ c.in_ok-segments.ensures.ids c.in_ok-segments.ensures.lens c.push_reserved.ensures.items
    (digest_in c.args.image.now) (sym c.lists_lengths.ensures ∙ c.if-lists_lengths.true) (omega arith)
