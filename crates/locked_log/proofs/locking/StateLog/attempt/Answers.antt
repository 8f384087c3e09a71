use Rattle.std.proofs.Common.{refl, ap, sym, subst, rules}
use Rattle.std.specs.Prelude.{IfSome, Result}
use Rattle.std.specs.Result.{result_err}
use Rattle.store_seat.specs.Stops.{RefusesRoll}
use Rattle.locked_log.specs.Applies.{WaitsForRoll}
use Rattle.locked_log.specs.Held.{held}
use Rattle.locked_log.proofs.Advancing.{makes_of}
use Rattle.locked_log.proofs.Stopping.{roll_refuses}
use Rattle.locked_log.proofs.locking.StateLog.attempt.Goals.{in-Ok, in-Err}
use Rattle.locked_log.proofs.locking.StateLog.attempt.Goals as goal

pub returns-then-not-waits_for_roll-clause-seat : goal.returns-then-not-waits_for_roll-clause-seat
returns-then-not-waits_for_roll-clause-seat g c =
    makes_of _ _ c.args.seat.now c.enter_held.new.seat c.args.command.now c.enter_held.result
    c.enter_held.ensures.enters
    (λ waits. let yes = c.waits_for_roll.ensures.1 waits in
    let no = c.if-not-waits_for_roll.true in cc)

pub returns-then-not-waits_for_roll-clause-held : goal.returns-then-not-waits_for_roll-clause-held
returns-then-not-waits_for_roll-clause-held g c = (
  c.enter_held.ensures.enters,
  λ waits. let yes = c.waits_for_roll.ensures.1 waits in
      let no = c.if-not-waits_for_roll.true in cc,
)

pub returns-clause-seat : goal.returns-clause-seat
returns-clause-seat g c = elim c.match-step_held.branch [
  | in-Ok w ↦ rw w.result-is (refl, tt)
  | in-Err w ↦ rw w.result-is (
    refl,
    subst (λ (a : Result _ _). IfSome (result_err a) RefusesRoll) w.in-Err.is
        (roll_refuses _ _ c.step_held.result c.step_held.ensures.turns),
  )
]

pub returns-clause-held : goal.returns-clause-held
returns-clause-held g c =
    let waits : WaitsForRoll (held g.F.Fleet.state c.args.self.now) c.args.seat.now c.args.command.now =
    c.waits_for_roll.ensures.0 (search rules) in
    let turns = c.step_held.ensures.turns in elim c.match-step_held.branch [
      | in-Ok w ↦ rw w.result-is (waits, refl, (c.step_held.result, turns, ap result_err (sym w.in-Ok.is)))
      | in-Err w ↦ rw w.result-is (waits, refl, (c.step_held.result, turns, ap result_err (sym w.in-Err.is)))
    ]
