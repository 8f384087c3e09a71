use Rattle.std.proofs.Common.{ap, ◌∙◌}
use Rattle.packing.specs.declared.sizes.Sizes.{Sizes}
use Rattle.packing.specs.Limits.{is_limit}
use Rattle.next_master.proofs.NextConfig.{has_limit, has_no_limit}
use Rattle.next_master.proofs.later.has_room.Goals as goal

pub returns-then-options-2 : goal.returns-then-options-2
returns-then-options-2 c =
    has_no_limit c.args.options.now c.if-options.false c.if-options-gt4294967296.false c.if-options-2.true

pub returns : goal.returns
returns c =
    c.is_limit.ensures
    ∙ ap (λ (s : Sizes). is_limit s c.args.options.now.largest c.args.options.now.live) c.sizes_of.ensures
    ∙ has_limit c.args.options.now c.if-options.false c.if-options-gt4294967296.false c.if-options-2.false
