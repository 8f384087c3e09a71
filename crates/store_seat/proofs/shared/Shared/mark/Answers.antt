use Rattle.std.proofs.Common.{◌≤◌, ap, ◌∙◌, subst}
use Rattle.store_seat.specs.Seats.{SeatValue}
use Rattle.store_seat.proofs.shared.Shared.mark.Goals as goal

pub returns-clause-value : goal.returns-clause-value
returns-clause-value g c =
    subst (λ (m : SeatValue). (m.mark.seen ≤ c.load.result)
    × (m.mark.raised ≤ c.load.result)) c.seat.view_is c.load.ensures.value

pub returns-clause-seat : goal.returns-clause-seat
returns-clause-seat g c =
    (λ i. record {
      number = c.seat.inside.number;
      first = c.seat.inside.first;
      count = c.seat.inside.count;
      parts = c.seat.inside.share.parts;
      amount = c.seat.inside.share.amount;
      last = c.seat.inside.last;
      mark =
          record { raised = c.load.ensures.view.1 i; seen = c.load.ensures.view.0 i };
    })
    ∙ ap (λ (m : SeatValue). record m { mark = record { raised = m.mark.raised; seen = c.load.result } }) c.seat.view_is
