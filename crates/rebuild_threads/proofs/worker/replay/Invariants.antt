use Rattle.std.specs.Prelude.{IfErr}
use Rattle.partitions.specs.Setbacks.{IsSetback}
use Rattle.rebuild_threads.proofs.worker.replay.Given as goal

abbrev pub invariant-loop : goal.invariant-loop
invariant-loop g l =
    (goal.iterator-loop g).can_next l.iterator' × (goal.iterator-loop g).is_finite l.iterator'
    × IfErr l.so_far (IsSetback g.D.Division.parts g.D.Division.segments)
