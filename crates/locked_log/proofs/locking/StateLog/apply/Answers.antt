use Rattle.std.proofs.Common.{◌≡◌, rules}
use Rattle.std.specs.Prelude.{Err}
use Rattle.store_seat.specs.declared.fault.CallFault.TheVariants.{Refused}
use Rattle.store_step.specs.master.master_state.declared.step.Refusal.TheVariants as refusal
use Rattle.locked_log.specs.Held.{held}
use Rattle.locked_log.proofs.Advancing.{makes_of}
use Rattle.locked_log.proofs.Rolling.{waits_then, done_then}
use Rattle.locked_log.proofs.locking.StateLog.apply.Goals as goal

pub returns-then-is_rolling-clause-seat : goal.returns-then-is_rolling-clause-seat
returns-then-is_rolling-clause-seat g c =
    let rolls : c.enter_held-made.result ≡ Err (Refused refusal.Rolling) = c.is_rolling.ensures.0 (search rules) in
    (waits_then (held g.F.Fleet.state c.args.self.now) (held g.F.Fleet.state c.enter_held-made.new.self)
    c.args.seat.now c.enter_held-made.new.seat c.args.command.now c.enter_held-made.result
    c.enter_held-made.ensures.enters rolls).2

pub returns-then-is_rolling-clause-held : goal.returns-then-is_rolling-clause-held
returns-then-is_rolling-clause-held g c =
    let rolls : c.enter_held-made.result ≡ Err (Refused refusal.Rolling) = c.is_rolling.ensures.0 (search rules) in
    (waits_then (held g.F.Fleet.state c.args.self.now) (held g.F.Fleet.state c.enter_held-made.new.self)
    c.args.seat.now c.enter_held-made.new.seat c.args.command.now c.enter_held-made.result
    c.enter_held-made.ensures.enters rolls)

pub returns-clause-seat : goal.returns-clause-seat
returns-clause-seat g c =
    makes_of (held g.F.Fleet.state c.args.self.now) (held g.F.Fleet.state c.enter_held-made.new.self) c.args.seat.now
    c.enter_held-made.new.seat c.args.command.now c.enter_held-made.result c.enter_held-made.ensures.enters
    (done_then (held g.F.Fleet.state c.args.self.now) (held g.F.Fleet.state c.enter_held-made.new.self) c.args.seat.now
    c.enter_held-made.new.seat c.args.command.now c.enter_held-made.result c.enter_held-made.ensures.enters
    (λ is. let yes = c.is_rolling.ensures.1 is in
    let no = c.if-is_rolling.false in cc))

pub returns-clause-held : goal.returns-clause-held
returns-clause-held g c = (
  c.enter_held-made.ensures.enters,
  (done_then (held g.F.Fleet.state c.args.self.now) (held g.F.Fleet.state c.enter_held-made.new.self) c.args.seat.now
      c.enter_held-made.new.seat c.args.command.now c.enter_held-made.result c.enter_held-made.ensures.enters
      (λ is. let yes = c.is_rolling.ensures.1 is in
      let no = c.if-is_rolling.false in cc)),
)
