use Rattle.std.proofs.Common.{below_more, ◌∙◌, arith}
use Rattle.rebuilding.proofs.ids.place_of.Goals as goal

pub loop-place-preserved : goal.loop-place-preserved
loop-place-preserved c = below_more _ _ c.loop-place.invariant (λ is. c.if-id_at-id.false (c.id_at.ensures ∙ is))

pub returns-clause-none : goal.returns-clause-none
returns-clause-none c =
    let end = c.loop-place-test.false in λ i lt. c.loop-place.invariant i (omega (arith, lt, end))
