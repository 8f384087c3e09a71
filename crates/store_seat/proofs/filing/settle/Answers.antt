use Rattle.std.proofs.Common.{rules, arith}
use Rattle.store_seat.specs.Accounts.{Knows}
use Rattle.store_seat.proofs.filing.settle.Goals as goal

pub returns : goal.returns
returns g c =
    let known : Knows c.args.book.now.items c.args.seat.now = c.is_known.ensures.0 (search rules) in
    (omega (arith, c.if-place-durable.false), known, c.answer.ensures.book, c.answer.ensures.seat)
