use Rattle.std.specs.Prelude.{IfErr}
use Rattle.store_seat.specs.Stops.{StopsPush}
use Rattle.locked_log.specs.Held.{held}
use Rattle.locked_log.specs.Steps.{PushesHeld}
use Rattle.locked_log.proofs.Stopping.{refused_push, made_push, idle_push, lost_push}
use Rattle.locked_log.proofs.state.State.push_held.Goals.{in-Ok, in-Err+in-Nothing, in-Err+in-Lost, in-Err+in_default}
use Rattle.locked_log.proofs.state.State.push_held.Goals as goal

pub returns-clause-stops : goal.returns-clause-stops
returns-clause-stops g c =
    let s = held g.F.Fleet.state c.args.self.now in
    let t = held g.F.Fleet.state c.step_held.new.self in
    elim c.match-step_held.branch as (λ _. IfErr c.match-step_held.result StopsPush) [
      | in-Ok w ↦ rw w.result-is tt
      | in-Err+in-Nothing w ↦ rw w.result-is tt
      | in-Err+in-Lost w ↦ rw w.result-is tt
      | in-Err+in_default w ↦ rw w.result-is (refused_push s t c.step_held.result w.in-Err.refusal
          c.step_held.ensures.turns w.in-Err.is w.in_default.not-Nothing w.in_default.not-Lost).1
    ]

pub returns-clause-pushes : goal.returns-clause-pushes
returns-clause-pushes g c =
    let s = held g.F.Fleet.state c.args.self.now in
    let t = held g.F.Fleet.state c.step_held.new.self in
    let turns = c.step_held.ensures.turns in
    elim c.match-step_held.branch as (λ _. PushesHeld s c.match-step_held.result t) [
      | in-Ok w ↦ rw w.result-is (made_push s t c.step_held.result _ turns w.in-Ok.is)
      | in-Err+in-Nothing w ↦ rw w.result-is
          (idle_push s t c.step_held.result w.in-Err.refusal turns w.in-Err.is w.in-Nothing.is)
      | in-Err+in-Lost w ↦ rw w.result-is
          (lost_push s t c.step_held.result w.in-Err.refusal turns _ w.in-Err.is w.in-Lost.is)
      | in-Err+in_default w ↦ rw w.result-is (refused_push s t c.step_held.result w.in-Err.refusal turns w.in-Err.is
          w.in_default.not-Nothing w.in_default.not-Lost)
    ]
