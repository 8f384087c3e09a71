use Rattle.std.proofs.Common.{sym, subst, Err}
use Rattle.locked_log.specs.Applies.{AppliesHeld}
use Rattle.locked_log.specs.Held.{StateValue, held}
use Rattle.locked_log.specs.States.{Lasts}
use Rattle.locked_log.proofs.Lasting.{lasts_same}
use Rattle.locked_log.proofs.state.State.apply_held.Goals as goal

pub returns-then-not-has_cell-clause-applies : goal.returns-then-not-has_cell-clause-applies
returns-then-not-has_cell-clause-applies g c = c.lacks_cell.ensures

pub returns-then-not-has_cell-clause-lasts : goal.returns-then-not-has_cell-clause-lasts
returns-then-not-has_cell-clause-lasts g c = lasts_same 1 (held g.F.Fleet.state c.args.self.now)

pub returns-then-not-reserve-clause-applies : goal.returns-then-not-reserve-clause-applies
returns-then-not-reserve-clause-applies g c =
    subst (λ (y : StateValue _). AppliesHeld (held g.F.Fleet.state y) c.args.seat.now c.args.command.now
    (Err c.want.result) (held g.F.Fleet.state c.reserve.new.self) c.args.seat.now) c.reserve.ensures.same c.want.ensures

pub returns-then-not-reserve-clause-lasts : goal.returns-then-not-reserve-clause-lasts
returns-then-not-reserve-clause-lasts g c =
    subst (λ (y : StateValue _). Lasts 1 (held g.F.Fleet.state c.args.self.now) (held g.F.Fleet.state y))
    (sym c.reserve.ensures.same) (lasts_same 1 (held g.F.Fleet.state c.args.self.now))

pub returns-clause-applies : goal.returns-clause-applies
returns-clause-applies g c =
    subst (λ (y : StateValue _). AppliesHeld (held g.F.Fleet.state y) c.args.seat.now c.args.command.now
    c.apply_reserved.result (held g.F.Fleet.state c.apply_reserved.new.self) c.apply_reserved.new.seat)
    c.reserve.ensures.same c.apply_reserved.ensures.applies

pub returns-clause-lasts : goal.returns-clause-lasts
returns-clause-lasts g c =
    subst (λ (y : StateValue _). Lasts 1 (held g.F.Fleet.state y) (held g.F.Fleet.state c.apply_reserved.new.self))
    c.reserve.ensures.same c.apply_reserved.ensures.lasts
