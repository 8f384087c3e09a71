use Rattle.std.proofs.Common.{◌∙◌}
use Rattle.embedded.proofs.Losing.{ok_covers}
use Rattle.embedded.proofs.options.whole_will.Goals as goal

pub returns : goal.returns
returns c = ok_covers _ _ c.make_will.result (c.as_slice.ensures.value ∙ c.in_ok-tablets.ensures)
    c.make_will.ensures.divides
