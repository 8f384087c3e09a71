use Rattle.std.proofs.Common.{◌<◌, ◌+◌, refl, subst}
use Rattle.packing.specs.declared.sizes.Sizes.{Sizes}
use Rattle.packing.specs.Packing.{most_ids, with_object}
use Rattle.entry.specs.View.{shown_object}
use Rattle.replay.proofs.Needed.{none_on_the_way}
use Rattle.replay.proofs.needs.seglets_needed.Goals as goal

pub returns-in-None-with_object-clause-none : goal.returns-in-None-with_object-clause-none
returns-in-None-with_object-clause-none c = λ none.
    none_on_the_way c.args.config.now c.args.rebuilt.now.objects c.loop-object.object-iterator c.next.new.self
    c.loop-object.log (shown_object c.in-Some.object) c.spelled_len.result c.loop-object.invariant
    c.in-Some.ensures.steps c.spelled_len.ensures.len
    (subst (λ (s : Sizes). most_ids s < (with_object s c.loop-object.log c.spelled_len.result).closed + 2)
    c.sizes-sizes.ensures (c.in-None-with_object.ensures.none refl))
