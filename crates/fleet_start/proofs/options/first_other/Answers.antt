use Rattle.fleet_start.proofs.Asked.{differs, met_more}
use Rattle.fleet_start.proofs.options.first_other.Goals as goal

pub returns-then-not-is_met-clause-first : goal.returns-then-not-is_met-clause-first
returns-then-not-is_met-clause-first c =
    differs c.loop-i.i c.args.kept.now c.args.asked.now _ c.loop-i-test.true c.loop-i.invariant
    (c.is_met.ensures.other c.if-not-is_met.true)

pub loop-i-preserved : goal.loop-i-preserved
loop-i-preserved c =
    met_more c.loop-i.i c.args.kept.now c.args.asked.now _ c.loop-i-test.true c.loop-i.invariant
    (c.is_met.ensures.met c.if-not-is_met.false)
