use Rattle.std.proofs.Common.{◌∙◌, sym}
use Rattle.entry.specs.View.{shown_object}
use Rattle.partitions.proofs.PartLists.{begins_at, ends_at, in_order}
use Rattle.partitions.proofs.listing.follows.Goals as goal

pub returns-in-Less : goal.returns-in-Less
returns-in-Less c =
    let os = c.args.objects.now in
    let ps = c.args.later.now in
    let last = shown_object c.in-Some.last in
    let first = shown_object c.in-Some-first.first in
    let front = c.in-Some.ensures.some in
    let rest = c.in-Some-first.ensures.some in
    λ _. in_order os ps last first c.requires.objects c.requires.later (ends_at os front.0 last front.1)
    (begins_at ps rest.0 first rest.1) (sym c.cmp.ensures ∙ c.in-Less.is)
