use Rattle.std.proofs.Common.{◌∙◌}
use Rattle.store_seat.proofs.Calling.{refused_call, left_call, answered_call, unanswered, answered_then}
use Rattle.store_seat.proofs.shared.Shared.ask.Goals as goal

pub returns-in-Err : goal.returns-in-Err
returns-in-Err g c = refused_call c.args.seat.now c.apply.new.seat c.args.command.now c.in-Err.fault c.in-Err.ensures

pub returns-in-Err-conclude : goal.returns-in-Err-conclude
returns-in-Err-conclude g c =
    let made = c.in-Ok.ensures in
    let left = c.in-Err-conclude.ensures.err in
    left_call c.args.seat.now made.0 c.conclude.new.seat c.args.command.now c.in-Ok.applied.reply c.in-Ok.applied.place
    c.in-Err-conclude.fault made.1.0 made.1.1
    (left.1 ∙ unanswered c.in-Ok.applied.is_answered c.apply.new.seat _ made.0 left.0 made.2) left.2

pub returns : goal.returns
returns g c =
    let made = c.in-Ok.ensures in
    answered_call c.args.seat.now made.0 c.conclude.new.seat _ c.args.command.now c.in-Ok.applied.reply
    c.in-Ok.applied.place c.in-Some.receipt c.again.new.self c.again.result
    made.1.0 made.1.1
    (answered_then c.in-Ok.applied.is_answered made.0 c.apply.new.seat c.conclude.new.seat c.in-Ok.applied.place made.2
    c.in-Ok-conclude.ensures.ok)
    c.seat.view_is c.in-Some.is c.again.ensures.same c.again.ensures.receipt

pub conclude-requires : goal.conclude-requires
conclude-requires g c = λ no.
    let made = c.in-Ok.ensures in
    let same = unanswered c.in-Ok.applied.is_answered c.apply.new.seat _ made.0 no made.2 in
    rw (same, made.1.1) made.1.0
