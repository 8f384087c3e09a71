use Rattle.std.proofs.Common.{ℕ, ◌+◌, List, sym, subst, ◌∙◌, arith}
use Rattle.std.specs.List.{AllByRecursion}
use Rattle.entry.specs.Text.{IsSegment}
use Rattle.images.specs.Image.{Image}
use Rattle.master_state.specs.Data.{MasterData}
use Rattle.master_space.proofs.Ordering.{IsFitting, fitting_next, fitting_survivors}
use Rattle.master_space.proofs.choosing.fitting.Goals.{After-with_capacity}
use Rattle.master_space.proofs.choosing.fitting.Goals as goal

-- what is closed are segments
segments : (c : After-with_capacity)
    → AllByRecursion (λ (x : Image). IsSegment x.segment) c.args.core.now.closed
segments c =
    subst (λ (m : MasterData). AllByRecursion (λ (x : Image). IsSegment x.segment) m.closed) c.core.view_is
    c.core.invariant.2.segments

pub returns-then-not-may_fill-clause-survivors : goal.returns-then-not-may_fill-clause-survivors
returns-then-not-may_fill-clause-survivors c =
    fitting_survivors c.args.core.now
    (segments (goal.at.returns-then-not-may_fill-clause-survivors c).After-with_capacity)
    c.args.candidates.now c.loop-candidate.candidate-index c.loop-candidate.victims.items c.loop-candidate.level
    c.loop-candidate.invariant.fits

pub loop-candidate-preserved : goal.loop-candidate-preserved
loop-candidate-preserved c =
    let lens = c.push_reserved.ensures.len in
    let capacity = c.push_reserved.ensures.capacity in
    let room = c.loop-candidate.invariant.room in
    record {
      fits =
          subst (λ (ids : List ℕ). IsFitting c.args.core.now c.args.candidates.now
          (c.loop-candidate.candidate-index + 1) ids c.filled_by-next.result) (sym c.push_reserved.ensures.items)
          (fitting_next c.args.core.now c.args.candidates.now c.loop-candidate.candidate-index
          c.loop-candidate.victims.items c.loop-candidate.level c.loop-candidate.invariant.fits
          (record { id = 0; kept = 0 }) c.loop-candidate-test.true c.filled_by-next.result
          c.filled_by-next.ensures.filled (sym c.if-not-may_fill.false ∙ c.may_fill.ensures)
          c.filled_by-next.ensures.limit);
      room = omega (arith, lens, capacity, room, c.loop-candidate-test.true);
    }

pub returns-clause-survivors : goal.returns-clause-survivors
returns-clause-survivors c =
    fitting_survivors c.args.core.now (segments (goal.at.returns-clause-survivors c).After-with_capacity)
    c.args.candidates.now c.loop-candidate.candidate-index c.loop-candidate.victims.items c.loop-candidate.level
    c.loop-candidate.invariant.fits
