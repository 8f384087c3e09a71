use Rattle.std.proofs.Common.{sym, ◌∙◌}
use Rattle.master_space.proofs.Ordering.{place_here, place_later}
use Rattle.master_space.proofs.candidates.place_for.Goals as goal

pub returns-then-is_before-clause-place : goal.returns-then-is_before-clause-place
returns-then-is_before-clause-place c =
    place_here c.args.candidate.now (record { id = 0; kept = 0 }) c.args.candidates.now c.loop-at.at c.loop-at-test.true
    c.loop-at.invariant
    (sym c.is_before.ensures ∙ c.if-is_before.true)

pub loop-at-preserved : goal.loop-at-preserved
loop-at-preserved c =
    place_later c.args.candidate.now (record { id = 0; kept = 0 }) c.args.candidates.now c.loop-at.at
    c.loop-at-test.true c.loop-at.invariant
    (sym c.is_before.ensures ∙ c.if-is_before.false)
