use Rattle.store_seat.proofs.Owning.{settled}
use Rattle.store_seat.proofs.shared.Shared.settle.Goals as goal

pub returns-in-Ok-finish : goal.returns-in-Ok-finish
returns-in-Ok-finish g c =
    settled c.args.seat.now c.compare.new.self c.finish.new.seat c.args.place c.in-Ok.answer.0 c.in-Ok.answer.1
    c.compare.new.receipt c.in-Ok.ensures.seat c.compare.ensures.agree c.compare.ensures.same.0
    c.compare.ensures.same.1 c.in-Ok-finish.ensures.ok
